use mathlib.Core.Path.{subst}
use Rattle.base.specs.Logic.{fold}
use Rattle.cell_nursery.specs.Entries.{Entry, insert}
use Rattle.cell_nursery.specs.Layout.{state_of}
use Rattle.cell_nursery.specs.Calls.{length_width}
use Rattle.delta_items.specs.Walk.{insert_in, insert_len, inserts_in, inserts_len, inserts_from}
use Rattle.delta_items.specs.WalkLaws.{left-start, left-inside, left-next, inserts-turn, inserts-done}
use Rattle.nursery_run.specs.RunLaws.{Inserting, insertable, inserting-next, inserting-done}
use mathlib.Core.Path.{◌≡◌, refl}
use mathlib.Core.List.{List, ◌∷◌}
use Prim.Native.Nat.{ℕ, ◌+◌, ◌-◌}
use native.Mathlib.Omega.{arith}
use lib.ListN.{drop}
use Rattle.nursery_run.proofs.apply_inserts.Goals as goal
use Rattle.nursery_run.proofs.apply_inserts.Goals.{In-loop}

-- the insert at hand, and those behind it
turn : (c : In-loop) → let a = c.args in let l = c.loop in let w = length_width a.wide in
    Inserting a.r.delay a.es.now a.ws.now a.cs.now (fold insert (inserts_in w a.inserts a.items.now) (state_of a.r a.es.now a.ws.now a.cs.now))
    (insert_in w (drop l.at a.items.now) ∷ inserts_from w a.inserts (l.counter + 1) (l.at + insert_len w (drop l.at a.items.now)) a.items.now) l.q l.es l.ws l.cs
turn c =
    let a = c.args in
    let l = c.loop in
    let w = length_width a.wide in
    subst (λ (x : List Entry). Inserting a.r.delay a.es.now a.ws.now a.cs.now (fold insert (inserts_in w a.inserts a.items.now) (state_of a.r a.es.now a.ws.now a.cs.now)) x l.q l.es l.ws l.cs)
    (inserts-turn w a.inserts l.counter l.at 0 a.items.now (omega arith)) l.invariant.1

pub insert_at-q-requires : goal.insert_at-q-requires
insert_at-q-requires c =
    let a = c.args in
    let l = c.loop in
    let w = length_width a.wide in
    record {
      in_bounds = omega (arith, left-inside l.invariant.0 (omega arith));
      insertable = insertable a.r.delay a.es.now a.ws.now a.cs.now (fold insert (inserts_in w a.inserts a.items.now) (state_of a.r a.es.now a.ws.now a.cs.now))
          (insert_in w (drop l.at a.items.now)) (inserts_from w a.inserts (l.counter + 1) (l.at + insert_len w (drop l.at a.items.now)) a.items.now) l.q l.es l.ws l.cs (turn (goal.at.insert_at-q-requires c).In-loop);
    }

pub insert_end-at-requires : goal.insert_end-at-requires
insert_end-at-requires c = omega (arith, left-inside c.loop.invariant.0 (omega arith))

pub loop-preserved : goal.loop-preserved
loop-preserved c =
    let a = c.args in
    let l = c.loop in
    let w = length_width a.wide in
    let e = inserts_len w a.inserts a.items.now in
    rw c.insert_end-at.ensures (
      left-next w a.inserts l.counter l.at e a.items.now (omega arith) l.invariant.0,
      inserting-next a.r.delay a.es.now a.ws.now a.cs.now (fold insert (inserts_in w a.inserts a.items.now) (state_of a.r a.es.now a.ws.now a.cs.now))
          (insert_in w (drop l.at a.items.now)) (inserts_from w a.inserts (l.counter + 1) (l.at + insert_len w (drop l.at a.items.now)) a.items.now) l.q l.es l.ws l.cs (turn (goal.at.loop-preserved c).In-loop)
          _ _ _ _ (λ i. (c.type_inv.es i).fits) (λ i. (c.type_inv.ws i).fits) c.insert_at-q.ensures,
    )

pub returns : goal.returns
returns c =
    let a = c.args in
    let l = c.loop in
    let w = length_width a.wide in
    let goal = fold insert (inserts_in w a.inserts a.items.now) (state_of a.r a.es.now a.ws.now a.cs.now) in
    inserting-done a.r.delay a.es.now a.ws.now a.cs.now goal l.q l.es l.ws l.cs
    (subst (λ (x : List Entry). Inserting a.r.delay a.es.now a.ws.now a.cs.now goal x l.q l.es l.ws l.cs) (inserts-done w a.inserts l.counter l.at 0 a.items.now (omega arith)) l.invariant.1)

pub loop-init : goal.loop-init
loop-init c =
    let a = c.args in
    let w = length_width a.wide in
    let z : a.inserts ≡ a.inserts - 0 = omega arith in (
      left-start w a.inserts a.items.now c.requires.value,
      subst (λ (k : ℕ). Inserting a.r.delay a.es.now a.ws.now a.cs.now (fold insert (inserts_in w a.inserts a.items.now) (state_of a.r a.es.now a.ws.now a.cs.now)) (inserts_in w k a.items.now) a.r a.es.now a.ws.now a.cs.now) z
          (record {
            running =
                record {
                  u64_es = λ i. (c.type_inv.es i).fits;
                  u64_ws = λ i. (c.type_inv.ws i).fits;
                  holding = c.requires.cs_value;
                  same_delay = refl;
                  size-es = refl;
                  size-ws = refl;
                  size-cs = refl;
                  leads = refl;
                };
            ready = c.requires.ready;
          }),
    )
