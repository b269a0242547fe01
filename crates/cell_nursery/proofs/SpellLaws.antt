-- What is read of bytes is spelled by them: a hash, an insert, and a delta's items.
-- Assumes nothing.
use Rattle.std.specs.Prelude.{◌≡◌, refl, true, false, List, [], ◌∷◌, ◌++◌, reverse, ℕ, ◌^◌, ◌<◌, length, ltb}
use Rattle.std.proofs.Common.{sym, ap, ◌∙◌, append_assoc, arith, ltb-true, lt-ltb, le-ltb}
use Rattle.std.proofs.Math.Option.{some}
use Rattle.std.proofs.lemmas.List.{reverse-reverse, length-reverse}
use Rattle.base.specs.Logic.{all, any, max32}
use Rattle.base.specs.MaybeLaws.{Gives, gives, gives-bind, given}
use Rattle.base.specs.Bytes.{number}
use Rattle.base.specs.Laws.{and_left, and_right}
use Rattle.base.specs.SpellLaws.{Bytes, Spells, cut-spells, digits-spelled, read_le-spells, read_list-spells}
use Rattle.base.specs.NumberLaws.{number-below}
use Rattle.slices.specs.ByteLaws.{all-reverse}
use Rattle.cell_nursery.specs.Entries.{Entry, hash_bytes, insert_bytes}
use Rattle.cell_nursery.specs.Items.{Delta, item_bytes, read_hash, read_insert, delta_of}
use Rattle.cell_nursery.specs.Delta.{too_long}
use Rattle.cell_nursery.proofs.ItemLaws.{item-fits, fits-item}
use Rattle.cell_nursery.specs.Held.{fits_item}

pub read_hash-spells : (bs : List ℕ) → Bytes bs → Gives (Spells hash_bytes (λ h. ltb h (2 ^ 256)) bs) (read_hash bs)
unfolding read_hash
read_hash-spells bs b =
    gives-bind (cut-spells 32 bs b) (λ y p.
    let x : List ℕ = reverse y.0 in
    let l : length x ≡ 32 = length-reverse y.0 ∙ p.0 in
    let u : Bytes x = all-reverse (λ z. ltb z 256) y.0 p.2 in
    gives (record {
      same = p.1 ∙ ap (λ (l : List ℕ). l ++ y.1) (sym (ap reverse (digits-spelled 32 x l u) ∙ reverse-reverse y.0));
      fits = lt-ltb (number 256 x) (2 ^ 256) (rw l at (number-below 256 x u));
      rest = p.3;
    }))

pub read_insert-spells : (bs : List ℕ) → Bytes bs → Gives (Spells insert_bytes fits_item bs) (read_insert 2 bs)
unfolding read_insert insert_bytes
read_insert-spells bs b =
    gives-bind (read_hash-spells bs b) (λ h p.
    gives-bind (read_le-spells 8 h.1 p.rest) (λ i q.
    gives-bind (read_le-spells 4 i.1 q.rest) (λ r s.
    gives-bind (read_le-spells 2 r.1 s.rest) (λ n t.
    gives-bind (cut-spells n.0 n.1 t.rest) (λ c u.
    let e : Entry = record { hash = h.0; idx = i.0; born = r.0; cell = c.0 } in
    gives (record {
      same = simp append_assoc (rw (p.same, q.same, s.same, t.same, u.0, u.1));
      fits =
          fits-item e (record {
            hash = ltb-true h.0 (2 ^ 256) p.fits;
            idx = ltb-true i.0 (2 ^ 64) q.fits;
            born = ltb-true r.0 (2 ^ 32) s.fits;
            cell = omega (arith, u.0, ltb-true n.0 (256 ^ 2) t.fits);
          });
      rest = u.3;
    }))))))

-- the items of a delta that was read, as a record has them, and what comes after the last one
pub record ItemsSpelled (bs : List ℕ) (d : Delta) : Type 0 where
  pub rest : List ℕ
  pub same : bs ≡ item_bytes d ++ rest
  pub inserts : all fits_item d.inserts ≡ true
  pub removes : all (λ h. ltb h (2 ^ 256)) d.removes ≡ true

pub delta-spelled : (inserts removes : ℕ) (bs : List ℕ) (d : Delta) → Bytes bs → delta_of 2 inserts removes bs ≡ some d → ItemsSpelled bs d
unfolding delta_of item_bytes
delta-spelled inserts removes bs d b e =
    given {P = ItemsSpelled bs}
    (gives-bind (read_list-spells (read_insert 2) insert_bytes fits_item read_insert-spells inserts bs b) (λ y p.
    gives-bind (read_list-spells read_hash hash_bytes (λ h. ltb h (2 ^ 256)) read_hash-spells removes y.1 p.rest) (λ z q.
    gives (record { rest = z.1; same = simp append_assoc (rw (p.same, q.same)); inserts = p.fits; removes = q.fits })))) e

-- no cell of such items is too long, and no list of at most 2 ^ 32 - 1
fits-cells : (es : List Entry) → all fits_item es ≡ true → any (λ e. ltb 65535 (length e.cell)) es ≡ false
unfolding all any
fits-cells [] a = refl
fits-cells (e ∷ es) a =
    rw (le-ltb 65535 (length e.cell) (item-fits e (and_left (fits_item e) (all fits_item es) a)).cell) (fits-cells es (and_right (fits_item e) (all fits_item es) a))

pub fits-short : (d : Delta) → all fits_item d.inserts ≡ true → length d.inserts < 2 ^ 32 → length d.removes < 2 ^ 32 → too_long d ≡ false
unfolding too_long
fits-short d a i r = rw (fits-cells d.inserts a, le-ltb max32 (length d.inserts) (omega arith), le-ltb max32 (length d.removes) (omega arith))
