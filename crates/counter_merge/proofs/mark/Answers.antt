use mathlib.Core.Bool.{◌||◌}
use mathlib.Core.Path.{sym, ap, ◌∙◌}
use mathlib.Core.List.{List}
use Prim.Native.Nat.{ℕ, suc}
use native.Mathlib.Omega.{arith}
use native.Mathlib.Numerals.{add-one}
use lib.ListN.{drop}
use Rattle.rows.specs.Table.{rows_of}
use Rattle.rows.specs.Keys.{keys, first_word}
use Rattle.counters.specs.Layout.{count_row}
use Rattle.counters.specs.Steps.{transitions}
use Rattle.counters.proofs.StepLaws.{no-transition}
use Rattle.lent_batches.proofs.LentLaws.{met}
use Rattle.counter_merge.specs.TableLaws.{mark-same, mark-turn, hit-turn, mark-done}
use Rattle.counter_merge.specs.Passes.{marked, any_hit, hits}
use Rattle.counter_merge.proofs.mark.Goals as goal

pub mark_one-hit-requires : goal.mark_one-hit-requires
mark_one-hit-requires g c = c.loop-i.invariant.1

pub loop-i-preserved : goal.loop-i-preserved
loop-i-preserved g c =
    let l = c.loop-i in
    let a = c.args in
    let ws = g.B.Transitions.words a.b in
    let x = c.at.result in
    let r = drop (suc l.i) (transitions ws) in
    let f = c.mark_one-hit in
    let same = mark-same a.n l.t l.invariant.1 x _ f.ensures.1 in
    let next = sym (met ws l.i x c.at.ensures (omega arith)) in
    let ks = keys first_word 2 a.n a.t.now in (
      same.size ∙ l.invariant.0,
      same.ordered,
      same.indexed ∙ l.invariant.2,
      rw (add-one, same.spells) (mark-turn x r (rows_of count_row a.n l.t) ∙ ap (λ ts. marked ts (rows_of count_row a.n l.t)) next ∙ l.invariant.3),
      rw add-one
          (hit-turn ks x r l.hit f.result (f.ensures.0 ∙ ap (λ (k : List ℕ). hits k x) l.invariant.2) ∙ ap (λ ts. (l.hit || any_hit ks ts)) next ∙ l.invariant.4),
    )

pub returns : goal.returns
returns g c =
    let l = c.loop-i in
    let a = c.args in
    let ws = g.B.Transitions.words a.b in
    mark-done a.n l.t a.t.now l.invariant.1 (transitions ws) (drop l.i (transitions ws)) l.hit (keys first_word 2 a.n a.t.now)
    (no-transition ws l.i (omega arith) (omega arith)) l.invariant.0 l.invariant.3 l.invariant.4
