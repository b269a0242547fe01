use mathlib.Core.Path.{subst, ap₂}
use Rattle.base.specs.Logic.{fold}
use Rattle.cell_nursery.specs.Entries.{remove}
use Rattle.cell_nursery.specs.Layout.{state_of}
use Rattle.cell_nursery.specs.Calls.{laid}
use Rattle.delta_items.specs.Walk.{hash_in, hashes_in, removes_from}
use Rattle.delta_items.specs.WalkLaws.{removes-turn, removes-done}
use Rattle.nursery_run.specs.RunLaws.{Running, removing-next, removing-done}
use mathlib.Core.Path.{◌≡◌, refl, ap, ◌∙◌}
use mathlib.Core.List.{List}
use Prim.Native.Nat.{ℕ, ◌+◌, ◌-◌, ◌*◌}
use native.Mathlib.Omega.{arith}
use lib.ListN.{drop}
use Rattle.nursery_run.proofs.apply_removes.Goals as goal

pub loop-j-init : goal.loop-j-init
loop-j-init c =
    let a = c.args in
    let goal = fold remove (hashes_in a.removes (drop a.at a.items.now)) (state_of a.r a.es.now a.ws.now a.cs.now) in
    let z : a.removes ≡ a.removes - 0 = omega arith in
    let y : a.at ≡ a.at + 32 * 0 = omega arith in
    subst (λ (x : List ℕ). Running a.r.delay a.es.now a.ws.now a.cs.now goal (fold remove x) a.r a.es.now a.ws.now a.cs.now) (ap₂ (λ (k p : ℕ). hashes_in k (drop p a.items.now)) z y)
    (record {
      u64_es = λ i. (c.type_inv.es i).fits;
      u64_ws = λ i. (c.type_inv.ws i).fits;
      holding = c.requires.cs_value;
      same_delay = refl;
      size-es = refl;
      size-ws = refl;
      size-cs = refl;
      leads = refl;
    })

pub loop-j-preserved : goal.loop-j-preserved
loop-j-preserved c =
    let a = c.args in
    let l = c.loop-j in
    let goal = fold remove (hashes_in a.removes (drop a.at a.items.now)) (state_of a.r a.es.now a.ws.now a.cs.now) in
    let turn = removes-turn a.removes l.j a.at a.items.now (omega arith) in
    removing-next a.r.delay a.es.now a.ws.now a.cs.now goal (hash_in (drop (a.at + 32 * l.j) a.items.now)) (removes_from a.removes (l.j + 1) a.at a.items.now) l.q l.es l.ws l.cs
    (subst (λ (x : List ℕ). Running a.r.delay a.es.now a.ws.now a.cs.now goal (fold remove x) l.q l.es l.ws l.cs) turn l.invariant)
    _ _ _ _ (λ i. (c.type_inv.es i).fits) (λ i. (c.type_inv.ws i).fits)
    (c.remove_held-q.ensures ∙ ap (λ (x : ℕ). laid l.q.delay l.es l.ws l.cs (remove x (state_of l.q l.es l.ws l.cs))) c.wide_of-hash.ensures)

pub returns : goal.returns
returns c =
    let a = c.args in
    let l = c.loop-j in
    let goal = fold remove (hashes_in a.removes (drop a.at a.items.now)) (state_of a.r a.es.now a.ws.now a.cs.now) in
    removing-done a.r.delay a.es.now a.ws.now a.cs.now goal l.q l.es l.ws l.cs
    (subst (λ (x : List ℕ). Running a.r.delay a.es.now a.ws.now a.cs.now goal (fold remove x) l.q l.es l.ws l.cs) (removes-done a.removes l.j a.at a.items.now (omega arith)) l.invariant)
