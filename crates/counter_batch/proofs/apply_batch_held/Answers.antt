-- `counter_batch::apply_batch_held`: the tests of the batch by itself, and the others on a table that is as it was.
-- Assumes nothing.
use mathlib.Core.Path.{sym, ap, ◌∙◌}
use mathlib.Core.List.{List}
use Prim.Native.Nat.{ℕ}
use borrow.Author.Tests.{eqb-true, eqb-false}
use Rattle.counters.proofs.RowLaws.{in_order}
use Rattle.counters.proofs.JudgeLaws.{judge-ragged, judge-unallocated, judge-repeated}
use Rattle.counters.specs.Calls.{batch_call}
use Rattle.counter_batch.proofs.apply_batch_held.Goals as goal

pub returns-then-not-is_whole : goal.returns-then-not-is_whole
returns-then-not-is_whole g c =
    judge-ragged c.args.c c.args.t.now (g.B.Transitions.words c.args.b) c.requires (eqb-false _ 0 (sym c.is_whole.ensures.whole ∙ c.if-not-is_whole.true))

pub returns-then-any_unallocated : goal.returns-then-any_unallocated
returns-then-any_unallocated g c =
    let u = sym c.any_unallocated.ensures ∙ c.if-any_unallocated.true in
    judge-unallocated c.args.c c.args.t.now (g.B.Transitions.words c.args.b) c.requires (eqb-true _ 0 (sym c.is_whole.ensures.whole ∙ c.if-not-is_whole.false)) u

pub any_repeated-requires : goal.any_repeated-requires
any_repeated-requires g c =
    (in_order c.args.c c.args.t.now c.requires).laid

pub returns-then-any_repeated : goal.returns-then-any_repeated
returns-then-any_repeated g c =
    let u = sym c.any_unallocated.ensures ∙ c.if-any_unallocated.false in
    let m = c.any_repeated in
    rw m.ensures.1 (judge-repeated c.args.c c.args.t.now (g.B.Transitions.words c.args.b) c.requires (eqb-true _ 0 (sym c.is_whole.ensures.whole ∙ c.if-not-is_whole.false)) u (sym m.ensures.0 ∙ c.if-any_repeated.true))

pub apply_once-requires : goal.apply_once-requires
apply_once-requires g c =
    let m = c.any_repeated in
    (rw m.ensures.1 c.requires, eqb-true _ 0 (sym c.is_whole.ensures.whole ∙ c.if-not-is_whole.false), sym c.any_unallocated.ensures ∙ c.if-any_unallocated.false, sym m.ensures.0 ∙ c.if-any_repeated.false, c.is_whole.ensures.short)

pub returns : goal.returns
returns g c =
    let a = c.args in
    let ws = g.B.Transitions.words a.b in
    c.apply_once.ensures ∙ ap (λ (l : List ℕ). batch_call a.c l ws) c.any_repeated.ensures.1
