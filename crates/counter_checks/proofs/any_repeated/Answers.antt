use mathlib.Core.Path.{◌≡◌, sym, ◌∙◌}
use mathlib.Core.Bool.{Bool, ◌&&◌}
use Prim.Native.Nat.{suc}
use native.Mathlib.Omega.{arith}
use native.Mathlib.Numerals.{add-one}
use lib.ListN.{drop}
use Rattle.base.specs.Logic.{elem}
use Rattle.counters.specs.Batch.{changes, kept, named}
use Rattle.counters.specs.Steps.{transition_at, transitions}
use Rattle.counters.proofs.StepLaws.{from-transition, no-transition, once-passed, twice-decided, once-none}
use Rattle.counter_checks.proofs.any_repeated.Goals as goal

pub returns-then-named_again : goal.returns-then-named_again
returns-then-named_again g c =
    let l = c.loop-i in
    let a = c.args in
    let ws = g.B.Transitions.words a.b in
    let x = transition_at ws l.i in
    let e : ◌≡◌ {A = Bool} c.named_again.result (changes x && elem x.idx.0 (named (kept (drop (suc l.i) (transitions ws))))) =
    rw (add-one l.i) at c.named_again.ensures in
    sym (l.invariant ∙ rw (from-transition ws l.i (omega arith)) (twice-decided x (drop (suc l.i) (transitions ws)) (sym e ∙ c.if-named_again.true)))

pub loop-i-preserved : goal.loop-i-preserved
loop-i-preserved g c =
    let l = c.loop-i in
    let a = c.args in
    let ws = g.B.Transitions.words a.b in
    let x = transition_at ws l.i in
    let e : ◌≡◌ {A = Bool} c.named_again.result (changes x && elem x.idx.0 (named (kept (drop (suc l.i) (transitions ws))))) =
    rw (add-one l.i) at c.named_again.ensures in
    rw add-one (l.invariant ∙ rw (from-transition ws l.i (omega arith)) (once-passed x (drop (suc l.i) (transitions ws)) (sym e ∙ c.if-named_again.false)))

pub returns : goal.returns
returns g c =
    let l = c.loop-i in
    let a = c.args in
    let ws = g.B.Transitions.words a.b in
    sym (l.invariant ∙ rw (no-transition ws l.i (omega arith) (omega arith)) once-none)
