use Rattle.base.specs.Laws.{ascending-sorted}
use Rattle.slices.specs.Laws.{length_part}
use Rattle.rows.specs.Keys.{keys, first_four}
use Rattle.rows.specs.Wide.{key_of}
use Rattle.rows.proofs.WideLaws.{Words}
use Rattle.cell_nursery.specs.Held.{U64, Held}
use Rattle.nursery_steps.specs.Steps.{new_entry}
use Rattle.nursery_steps.specs.InsertLaws.{all_held, entry-room, waiting-room, cell_room, place_inside, row_inside, place-small, insert-done}
use mathlib.Core.Path.{◌≡◌}
use Prim.Native.Nat.{◌+◌, ◌*◌, ◌≤◌}
use borrow.Author.Rules.{rules}
use native.Mathlib.Omega.{arith}
use lib.ListN.{length, take, drop}
use Rattle.nursery_steps.proofs.insert_held.Goals as goal
use Rattle.nursery_steps.proofs.insert_held.Goals.{After-find-k}

-- the words of the tables and of the hash are u64
u64_es : (c : After-find-k) → U64 c.args.es.now
u64_es c i = search rules

u64_ws : (c : After-find-k) → U64 c.args.ws.now
u64_ws c i = omega (arith, c.type_inv.ws i)

words : (c : After-find-k) → Words c.args.hash
words c = record { first = omega arith; second = omega arith; third = omega arith; fourth = omega arith }

-- the tables hold a state, and the cell is as long as is said
holding : (c : After-find-k) → let a = c.args in Held a.r a.es.now a.ws.now a.cs.now
holding c =
    let a = c.args in
    all_held a.r a.es.now a.ws.now a.cs.now (u64_es c) (u64_ws c) (new_entry a.hash a.idx a.born (take a.len (drop a.at a.items.now))) c.requires.insertable

size : (c : After-find-k) → let a = c.args in length (take a.len (drop a.at a.items.now)) ≡ a.len
size c = length_part c.args.items.now c.args.at c.args.len c.requires.len_in_bounds

rows-free : (c : After-find-k) → let a = c.args in a.r.entries * 8 + 8 ≤ length a.es.now
rows-free c =
    let a = c.args in
    entry-room a.r a.es.now a.ws.now a.cs.now (u64_es c) (u64_ws c) (new_entry a.hash a.idx a.born (take a.len (drop a.at a.items.now))) c.requires.insertable

waits-free : (c : After-find-k) → let a = c.args in a.r.waiting * 5 + 5 ≤ length a.ws.now
waits-free c =
    let a = c.args in
    waiting-room a.r a.es.now a.ws.now a.cs.now (u64_es c) (u64_ws c) (new_entry a.hash a.idx a.born (take a.len (drop a.at a.items.now))) c.requires.insertable

bytes-free : (c : After-find-k) → let a = c.args in a.r.cell_bytes + a.len ≤ length a.cs.now
bytes-free c =
    let a = c.args in
    rw (size c) at (cell_room a.r a.es.now a.ws.now a.cs.now (u64_es c) (u64_ws c) (new_entry a.hash a.idx a.born (take a.len (drop a.at a.items.now))) c.requires.insertable)

pub find-k-requires : goal.find-k-requires
find-k-requires c =
    let a = c.args in
    let u : U64 a.es.now = λ i. search rules in
    let v : U64 a.ws.now = λ i. omega (arith, c.type_inv.ws i) in
    let h = all_held a.r a.es.now a.ws.now a.cs.now u v (new_entry a.hash a.idx a.born (take a.len (drop a.at a.items.now))) c.requires.insertable in
    (omega arith, h.entries.laid.fits, ascending-sorted 0 (keys first_four 8 a.r.entries a.es.now) h.entries.hashes)

pub place_of-place-requires : goal.place_of-place-requires
place_of-place-requires c = (holding c).entries.laid.fits

pub insert_entry-requires : goal.insert_entry-requires
insert_entry-requires c =
    let f = (goal.at.insert_entry-requires c).After-find-k in
    let a = c.args in
    let h = holding f in (
      row_inside a.r a.es.now a.ws.now a.cs.now (u64_es f) (u64_ws f) h (key_of a.hash) c.find-k.result c.find-k.ensures,
      rows-free f,
      h.entries.laid,
      λ i l. omega (arith, place_inside a.r a.es.now a.ws.now a.cs.now (u64_es f) (u64_ws f) h i l, bytes-free f, c.well_formed),
    )

pub insert_cell-requires : goal.insert_cell-requires
insert_cell-requires c =
    let f = (goal.at.insert_cell-requires c).After-find-k in
    let a = c.args in (
      place-small a.r a.es.now a.ws.now a.cs.now (u64_es f) (u64_ws f) (holding f) (key_of a.hash) c.find-k.result c.find-k.ensures c.place_of-place.result c.place_of-place.ensures,
      bytes-free f,
      c.requires.len_in_bounds,
    )

pub insert_waiting-requires : goal.insert_waiting-requires
insert_waiting-requires c =
    let f = (goal.at.insert_waiting-requires c).After-find-k in
    (omega (arith, c.ranges.born), waits-free f, (holding f).waiting.rounds)

pub overflow_add-result : goal.overflow_add-result
overflow_add-result c = omega (arith, rows-free (goal.at.overflow_add-result c).After-find-k, c.well_formed)

pub returns : goal.returns
returns c =
    let f = (goal.at.returns c).After-find-k in
    let a = c.args in
    insert-done a.r a.es.now a.ws.now a.cs.now (u64_es f) (u64_ws f) a.hash (words f) a.idx a.born a.items.now a.at a.len c.requires.len_in_bounds c.requires.insertable
    c.find-k.result c.place_of-place.result c.find-k.ensures c.place_of-place.ensures _ _ _ c.insert_entry.ensures c.insert_waiting.ensures c.insert_cell.ensures
