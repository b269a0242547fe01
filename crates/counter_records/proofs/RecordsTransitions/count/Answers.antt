use native.Mathlib.Omega.{arith}
use Rattle.counters.proofs.WordLaws.{length-words_of}
use Rattle.counter_records.proofs.RecordsTransitions.count.Goals as goal

pub returns : goal.returns
returns c = omega (arith, length-words_of c.args.self.0.now)
