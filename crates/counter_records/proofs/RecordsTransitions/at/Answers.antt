-- Record i is the transition that its words spell.
use native.Mathlib.Omega.{arith}
use Rattle.std.proofs.Math.Seq.{drop-cons}
use Rattle.counters.specs.Layout.{words_of}
use Rattle.counters.specs.Steps.{transition}
use Rattle.counters.proofs.StepLaws.{from-transition}
use Rattle.counters.proofs.WordLaws.{length-words_of, words-transitions}
use Rattle.counter_records.proofs.RecordsTransitions.at.Goals as goal

pub bounds-self-i : goal.bounds-self-i
bounds-self-i c = omega (arith, length-words_of c.args.self.0.now)

pub offset_bounds-self-i : goal.offset_bounds-self-i
offset_bounds-self-i c = omega (arith, length-words_of c.args.self.0.now)

pub returns : goal.returns
returns c =
    let i = c.args.i in
    let bs = c.args.self.0.now in
    let l = length-words_of bs in
    cc (from-transition (words_of bs) i (omega arith), words-transitions bs, drop-cons bs i (transition 0 0 0) (omega arith))
