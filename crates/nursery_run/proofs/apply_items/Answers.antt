-- `nursery_run::apply_items`: what the inserts leave holds a state, on which the removes are done.
-- Assumes nothing.
use borrow.Author.Rules.{rules}
use native.Mathlib.Omega.{arith}
use Rattle.cell_nursery.specs.Calls.{length_width}
use Rattle.cell_nursery.specs.Held.{U64}
use Rattle.delta_items.specs.Walk.{delta_in}
use Rattle.delta_items.specs.WalkLaws.{fit-inserts, fit-removes}
use Rattle.nursery_run.specs.RunLaws.{ready-start, held-mid, delta-done}
use Rattle.nursery_run.proofs.apply_items.Goals as goal
use Rattle.nursery_run.proofs.apply_items.Goals.{After-apply_inserts-q}

-- the words of the tables are u64
u64_es : (c : After-apply_inserts-q) → U64 c.args.es.now
u64_es c i = search rules

u64_ws : (c : After-apply_inserts-q) → U64 c.args.ws.now
u64_ws c i = search rules

pub apply_inserts-q-requires : goal.apply_inserts-q-requires
unfolding delta_in
apply_inserts-q-requires c =
    let a = c.args in
    let x = c.requires.applicable in
    let w = length_width a.wide in
    record {
      value = fit-inserts w a.inserts a.removes a.items.now c.requires.value.0;
      cs_value = x.held;
      ready = ready-start a.r a.es.now a.ws.now a.cs.now (λ i. search rules) (λ i. search rules) x.held (delta_in w a.inserts a.removes a.items.now) x.fits x.fresh x.room;
    }

pub apply_removes-requires : goal.apply_removes-requires
unfolding delta_in
apply_removes-requires c =
    let f = (goal.at.apply_removes-requires c).After-apply_inserts-q in
    let a = c.args in
    let x = c.requires.applicable in
    let w = length_width a.wide in
    record { removes_in_bounds = omega (arith, c.requires.value.1, fit-removes w a.inserts a.removes a.items.now c.requires.value.0); cs_value = held-mid a.r a.es.now a.ws.now a.cs.now (u64_es f) (u64_ws f) x.held (delta_in w a.inserts a.removes a.items.now) x.fits x.fresh x.room _ _ _ _ c.apply_inserts-q.ensures }

pub returns : goal.returns
unfolding delta_in
returns c =
    let f = (goal.at.returns c).After-apply_inserts-q in
    let a = c.args in
    let x = c.requires.applicable in
    let w = length_width a.wide in
    delta-done a.r a.es.now a.ws.now a.cs.now (u64_es f) (u64_ws f) x.held (delta_in w a.inserts a.removes a.items.now) x.fits x.fresh x.room _ _ _ _ c.apply_inserts-q.ensures _ _ _ _
    (rw c.requires.value.1 at c.apply_removes.ensures)
