use mathlib.Core.Path.{refl, sym, ap, ◌∙◌}
use mathlib.Core.List.{List}
use Prim.Native.Nat.{ℕ, suc}
use native.Mathlib.Omega.{arith}
use native.Mathlib.Numerals.{add-one}
use lib.ListN.{take, drop}
use Rattle.rows.specs.Table.{rows_of}
use Rattle.rows.specs.Keys.{keys, first_word}
use Rattle.counters.specs.Layout.{count_row}
use Rattle.counters.specs.Steps.{transitions}
use Rattle.counters.proofs.StepLaws.{no-transition}
use Rattle.lent_batches.proofs.LentLaws.{met}
use Rattle.counter_merge.specs.Passes.{fronts, back_one, backs}
use Rattle.counter_merge.specs.AsideLaws.{room_for, room-left, no_rows, put-more, put-size, put-halves, put-keys, put-fronts, put-backs, front-turn, back-turn, put-done}
use Rattle.counter_merge.proofs.put_all.Goals as goal

pub loop-i-init : goal.loop-i-init
loop-i-init g c = (refl, c.requires.halves, refl, refl, rw no_rows, omega arith)

pub put_one-s-requires : goal.put_one-s-requires
put_one-s-requires g c =
    let l = c.loop-i in
    let a = c.args in
    let ws = g.B.Transitions.words a.b in
    let x = c.at.result in record {
      halves = l.invariant.1;
      t_in_bounds = room_for a.n a.at l.s l.t a.t.now l.invariant.2 l.invariant.0 x (drop l.i (transitions ws)) (drop (suc l.i) (transitions ws))
          (met ws l.i x c.at.ensures (omega arith)) (transitions ws) l.invariant.5 c.requires.b_in_bounds;
    }

pub loop-i-preserved : goal.loop-i-preserved
loop-i-preserved g c =
    let l = c.loop-i in
    let a = c.args in
    let ws = g.B.Transitions.words a.b in
    let x = c.at.result in
    let r = drop (suc l.i) (transitions ws) in
    let f = c.put_one-s in
    let first = met ws l.i x c.at.ensures (omega arith) in
    let room = room_for a.n a.at l.s l.t a.t.now l.invariant.2 l.invariant.0 x (drop l.i (transitions ws)) r first (transitions ws) l.invariant.5 c.requires.b_in_bounds in
    let next = sym first in
    let ks = keys first_word 2 a.n (take a.at a.t.now) in
    let es = rows_of count_row a.n (take a.at l.t) in
    let ns = rows_of count_row l.s (drop a.at l.t) in
    let same = ap (λ (k : List ℕ). back_one k x ns) l.invariant.2 in (
      put-size a.n a.at l.s l.t l.invariant.1 x room f.result _ f.ensures.0 f.ensures.1 ∙ l.invariant.0,
      put-halves a.n a.at l.s l.t l.invariant.1 x room f.result _ f.ensures.0 f.ensures.1,
      put-keys a.n a.at l.s l.t l.invariant.1 x room f.result _ f.ensures.0 f.ensures.1 ∙ l.invariant.2,
      rw (add-one, put-fronts a.n a.at l.s l.t l.invariant.1 x room f.result _ f.ensures.0 f.ensures.1)
          (front-turn x r es ∙ ap (λ ts. fronts ts es) next ∙ l.invariant.3),
      rw (add-one, put-backs a.n a.at l.s l.t l.invariant.1 x room f.result _ f.ensures.0 f.ensures.1, same)
          (back-turn ks x r ns ∙ ap (λ ts. backs ks ts ns) next ∙ l.invariant.4),
      rw add-one
          (room-left a.n a.at l.s l.t a.t.now l.invariant.2 x (drop l.i (transitions ws)) r first (transitions ws) l.invariant.5 f.result
          (put-more a.n a.at l.s l.t l.invariant.1 x room f.result _ f.ensures.0 f.ensures.1)),
    )

pub returns : goal.returns
returns g c =
    let l = c.loop-i in
    let a = c.args in
    let ws = g.B.Transitions.words a.b in
    put-done a.n a.at l.s l.t a.t.now l.invariant.1 (transitions ws) (drop l.i (transitions ws)) (keys first_word 2 a.n (take a.at a.t.now))
    (no-transition ws l.i (omega arith) (omega arith)) l.invariant.0 l.invariant.3 l.invariant.4
