use mathlib.Core.Path.{subst}
use Rattle.cell_nursery.specs.Entries.{Entry, insert}
use Rattle.cell_nursery.specs.Layout.{state_of}
use Rattle.cell_nursery.specs.Calls.{laid, length_width}
use Rattle.delta_items.specs.Walk.{insert_in}
use Rattle.nursery_steps.specs.Steps.{new_entry, Insertable}
use Rattle.nursery_run.specs.BoundLaws.{insert-read}
use mathlib.Core.Path.{◌≡◌, sym, ap, ◌∙◌}
use Prim.Native.Nat.{ℕ, ◌+◌}
use native.Mathlib.Omega.{arith}
use lib.ListN.{take, drop}
use Rattle.nursery_run.proofs.insert_at.Goals as goal
use Rattle.nursery_run.proofs.insert_at.Goals.{After-head_len}

-- the entry that is read is the insert's
entry : (c : After-head_len) → let a = c.args in new_entry c.wide_of-hash.result c.idx_at-idx.result c.born_at-born.result (take c.cell_len-len.result (drop (a.at + c.head_len.result) a.items.now)) ≡ insert_in (length_width a.wide) (drop a.at a.items.now)
entry c =
    let a = c.args in
    insert-read (length_width a.wide) a.at a.items.now c.wide_of-hash.result c.idx_at-idx.result c.born_at-born.result c.cell_len-len.result (a.at + c.head_len.result)
    c.wide_of-hash.ensures c.idx_at-idx.ensures c.born_at-born.ensures c.cell_len-len.ensures (ap (λ (x : ℕ). a.at + x) c.head_len.ensures)

pub insert_held-requires : goal.insert_held-requires
insert_held-requires c =
    let a = c.args in
    record { len_in_bounds = omega (arith, c.requires.in_bounds, c.head_len.ensures, c.cell_len-len.ensures); insertable = subst (λ (x : Entry). Insertable a.r a.es.now a.ws.now a.cs.now x) (sym (entry (goal.at.insert_held-requires c).After-head_len)) c.requires.insertable }

pub returns : goal.returns
returns c =
    let a = c.args in
    c.insert_held.ensures ∙ ap (λ (x : Entry). laid a.r.delay a.es.now a.ws.now a.cs.now (insert x (state_of a.r a.es.now a.ws.now a.cs.now))) (entry (goal.at.returns c).After-head_len)
