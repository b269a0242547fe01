-- Inserts that are read from bytes have their fields in bounds.
-- Assumes nothing.
use Rattle.std.specs.Prelude.{◌≡◌, refl, true, false, List, ℕ, zero, suc, ◌+◌, ◌≤◌, length, take, drop, ltb}
use Rattle.std.proofs.Common.{arith, drop-drop, ltb-false}
use Rattle.base.specs.Logic.{all, any}
use Rattle.base.specs.Laws.{and_both}
use Rattle.base.specs.SumLaws.{or_left, or_right}
use Rattle.rows.specs.declared.Wide.{Wide}
use Rattle.rows.specs.Wide.{key_of}
use Rattle.cell_nursery.proofs.ItemLaws.{fits-item}
use Rattle.cell_nursery.specs.Held.{fits_item}
use Rattle.slices.specs.ByteLaws.{U8, u8-drop, part-below, hash-below}
use Rattle.delta_items.specs.Walk.{hash_in, idx_in, born_in, cell_len, insert_in, insert_len, inserts_in, inserts_fit, long_cell}
use Rattle.delta_items.specs.WalkLaws.{fit-head, fit-tail}
use Rattle.nursery_steps.specs.Steps.{new_entry}

insert-fits : (w : ℕ) (bs : List ℕ) → U8 bs → insert_len w bs ≤ length bs → length (insert_in w bs).cell ≤ 65535 → fits_item (insert_in w bs) ≡ true
unfolding insert_in
insert-fits w bs b h c =
    fits-item (insert_in w bs)
    (record {
      hash = hash-below bs b (omega arith);
      idx = part-below 32 8 bs b (omega arith);
      born = part-below 40 4 bs b (omega arith);
      cell = c;
    })

pub inserts-fit : (w n : ℕ) (bs : List ℕ) → U8 bs → inserts_fit w n bs ≡ true → long_cell (inserts_in w n bs) ≡ false → all fits_item (inserts_in w n bs) ≡ true
unfolding all any inserts_in
inserts-fit w zero bs b f l = refl
inserts-fit w (suc n) bs b f l =
    let short : length (insert_in w bs).cell ≤ 65535 = ltb-false 65535 (length (insert_in w bs).cell) (or_left _ _ l) in
    and_both _ _ (insert-fits w bs b (fit-head w n bs f) short)
    (inserts-fit w n (drop (insert_len w bs) bs) (u8-drop (insert_len w bs) bs b) (fit-tail w n bs f) (or_right (ltb 65535 (length (insert_in w bs).cell)) _ l))

-- an insert that is read field by field
pub insert-read : (w at : ℕ) (items : List ℕ) (hash : Wide) (idx born len cell : ℕ) → key_of hash ≡ hash_in (drop at items) → idx ≡ idx_in (drop at items) → born ≡ born_in (drop at items)
    → len ≡ cell_len w (drop at items) → cell ≡ at + (44 + w) → new_entry hash idx born (take len (drop cell items)) ≡ insert_in w (drop at items)
unfolding insert_in
insert-read w at items hash idx born len cell a b c d e = rw (a, b, c, d, e, drop-drop (44 + w) at items)
