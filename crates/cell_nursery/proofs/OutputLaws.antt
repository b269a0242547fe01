-- Entries written as bytes: the bytes of a row, rows one after another, and the listing.
-- Assumes nothing.
use Rattle.std.specs.Prelude.{◌≡◌, refl, Bool, true, false, ℕ, zero, suc, ◌+◌, ◌-◌, ◌*◌, ◌^◌, ◌≤◌, ◌<◌, length, take, drop, get_or, ltb}
use Rattle.std.proofs.Common.{sym, ◌∙◌, zero-add, add-one, arith, length-append, take-append-drop, take-suc, take_all}
use Rattle.std.proofs.Math.Path.{ap}
use mathlib.Core.List.{List, [], ◌∷◌, ◌++◌, append_assoc, append-nil}
use Rattle.std.proofs.Math.ListN.{get_or-map}
use Rattle.std.proofs.Math.Seq.{paste}
use borrow.Author.Tests.{ltb-true, leb-true, lt-ltb, le-ltb}
use Rattle.base.specs.Logic.{all, flat, sum_of, overlay}
use Rattle.base.specs.Bytes.{le16, le32, le64}
use Rattle.base.specs.Output.{effect, fitting, put, written}
use Rattle.base.specs.Laws.{and_left, and_right, flat_append, length_digits}
use Rattle.base.specs.Answers.{Taken, Refused}
use Rattle.base.specs.declared.Refusal.TheVariants.{Broken, OutputFull}
use Rattle.slices.specs.Laws.{length_part, paste-append, paste-start, part-lent}
use Rattle.rows.specs.Table.{rows_of}
use Rattle.rows.proofs.TableLaws.{length-rows_of}
use Rattle.rows.specs.Keys.{first_four}
use Rattle.cell_nursery.specs.declared.Nursery.{Nursery}
use Rattle.cell_nursery.specs.Entries.{Entry, cell_bytes, hash_bytes, insert_bytes}
use Rattle.cell_nursery.specs.Drain.{promoted_bytes, listing_bytes}
use Rattle.cell_nursery.specs.Layout.{hash_of, hash_at, EntryRow, entry_row, entry_of, entries_of, in_bounds, holds_entries, holds_cells}
use Rattle.cell_nursery.specs.Calls.{listing_call}
use Rattle.cell_nursery.proofs.ItemLaws.{length-hash_bytes}
use Rattle.cell_nursery.proofs.HashLaws.{hash-first}
use Rattle.cell_nursery.proofs.LayoutLaws.{number-entries, bytes_same}
use Rattle.cell_nursery.specs.Held.{CellsHeld, EntriesHeld}
use Rattle.cell_nursery.proofs.CheckLaws.{entry-row}
use Rattle.cell_nursery.specs.Rows.{RowFits, cell_part, entry_at_row, head_bytes, tail_bytes}
use Rattle.cell_nursery.proofs.SearchLaws.{row_of, cell-ends}

-- ---- a row of the entries, as a writer needs it
all-at : {A : Type 0} (p : A → Bool) (xs : List A) (i : ℕ) (d : A) → all p xs ≡ true → i < length xs → p (get_or xs i d) ≡ true
unfolding all
all-at p [] i d e h = absurd (omega arith)
all-at p (x ∷ xs) zero d e h = and_left _ _ e
all-at p (x ∷ xs) (suc i) d e h = all-at p xs i d (and_right (p x) _ e) (omega arith)

-- the entry past the last, for what has no row
abbrev pub no_entry : List ℕ → Entry
no_entry cs = entry_of cs (entry_row.dec [])

module _ (r : Nursery) (es cs : List ℕ) (x : EntriesHeld r es) (z : CellsHeld r cs) (k : ℕ) (l : k < r.entries) where
  pub row_fits : RowFits es cs k
  row_fits =
      let d : EntryRow = entry_row.dec [] in
      let b : in_bounds (entry_at_row es k) ≡ true =
      rw (row_of r.entries es k d l) at (all-at in_bounds (rows_of entry_row r.entries es) k d x.bounds (rw (length-rows_of entry_row r.entries es) l)) in
      record {
        row = omega (arith, x.laid.fits);
        born = ltb-true (get_or es (k * 8 + 5) 0) (2 ^ 32) (and_left _ _ b);
        len = leb-true (get_or es (k * 8 + 7) 0) 65535 (and_right (ltb (get_or es (k * 8 + 5) 0) (2 ^ 32)) _ b);
        cell = omega (arith, cell-ends r es x k l, z.fits);
      }

  pub entry-of-row : get_or (entries_of r.entries es cs) k (no_entry cs) ≡ entry_of cs (entry_at_row es k)
  unfolding entries_of
  entry-of-row =
      get_or-map (entry_of cs) (rows_of entry_row r.entries es) k (entry_row.dec []) ∙ ap (entry_of cs) (row_of r.entries es k (entry_row.dec []) l)

-- ---- the bytes of a row, in parts: hash and index, and the cell after its length
pub length-head : (es : List ℕ) (k : ℕ) → length (head_bytes es k) ≡ 40
length-head es k = simp (length-append, length-hash_bytes, length_digits)

-- the key that a search reads is the row's hash
pub row-key : (es : List ℕ) (k : ℕ) → first_four (drop (k * 8) es) ≡ hash_of (hash_at (k * 8) es)
row-key es k = sym (hash-first (drop (k * 8) es)) ∙ ap (λ (r : EntryRow). hash_of r.hash) (entry-row es k)

-- o is the list after the first part
pub head-written : (t o es : List ℕ) (at k key : ℕ) → at + 40 ≤ length t → key ≡ first_four (drop (k * 8) es) → o ≡ paste t at (hash_bytes key) 32
    → paste o (at + 32) (le64 (get_or es (k * 8 + 4) 0)) 8 ≡ paste t at (head_bytes es k) 40
head-written t o es at k key h q e =
    rw (e, q, row-key es k)
    (paste-append t at (hash_bytes (hash_of (hash_at (k * 8) es))) (le64 (get_or es (k * 8 + 4) 0)) 32 8 (length-hash_bytes (hash_of (hash_at (k * 8) es))) (length_digits 256 8 (get_or es (k * 8 + 4) 0)) (omega arith))

module _ (es cs : List ℕ) (k : ℕ) (f : RowFits es cs k) where
  length-cell_part : length (cell_part es cs k) ≡ get_or es (k * 8 + 7) 0
  length-cell_part = length_part cs (get_or es (k * 8 + 6) 0) (get_or es (k * 8 + 7) 0) f.cell

  pub length-tail : length (tail_bytes es cs k) ≡ 2 + get_or es (k * 8 + 7) 0
  length-tail = simp (length-append, length_digits, length-cell_part)

  pub tail_written : (t o : List ℕ) (at a e : ℕ) → at ≤ length t → a ≡ get_or es (k * 8 + 6) 0 → e ≡ a + get_or es (k * 8 + 7) 0 → o ≡ paste t at (le16 (get_or es (k * 8 + 7) 0)) 2
      → paste o (at + 2) (take (e - a) (drop a cs)) (length (take (e - a) (drop a cs))) ≡ paste t at (tail_bytes es cs k) (2 + get_or es (k * 8 + 7) 0)
  tail_written t o at a e h p q w =
      let s : take (e - a) (drop a cs) ≡ cell_part es cs k = part-lent cs a e (get_or es (k * 8 + 7) 0) q ∙ rw p in
      rw (s, length-cell_part, w)
      (paste-append t at (le16 (get_or es (k * 8 + 7) 0)) (cell_part es cs k) 2 (get_or es (k * 8 + 7) 0) (length_digits 256 2 (get_or es (k * 8 + 7) 0)) length-cell_part h)

  -- as an insert
  insert-parts : insert_bytes (entry_of cs (entry_at_row es k)) ≡ (head_bytes es k ++ le32 (get_or es (k * 8 + 5) 0)) ++ tail_bytes es cs k
  unfolding insert_bytes
  insert-parts = rw length-cell_part (simp append_assoc)

  pub length-insert : length (insert_bytes (entry_of cs (entry_at_row es k))) ≡ 46 + get_or es (k * 8 + 7) 0
  length-insert =
      let y = le32 (get_or es (k * 8 + 5) 0) in
      ap length insert-parts
      ∙ omega (arith, length-append (head_bytes es k ++ y) (tail_bytes es cs k), length-append (head_bytes es k) y, length-head es k, length_digits 256 4 (get_or es (k * 8 + 5) 0), length-tail)

  -- o is the list after the head, p after the round
  pub insert-written : (t o p : List ℕ) (at : ℕ) → at + 46 ≤ length t → o ≡ paste t at (head_bytes es k) 40 → p ≡ paste o (at + 40) (le32 (get_or es (k * 8 + 5) 0)) 4
      → paste p (at + 44) (tail_bytes es cs k) (2 + get_or es (k * 8 + 7) 0) ≡ paste t at (insert_bytes (entry_of cs (entry_at_row es k))) (46 + get_or es (k * 8 + 7) 0)
  insert-written t o p at h a b =
      let x = head_bytes es k in
      let y = le32 (get_or es (k * 8 + 5) 0) in
      let q : 44 + (2 + get_or es (k * 8 + 7) 0) ≡ 46 + get_or es (k * 8 + 7) 0 = omega arith in
      let two : p ≡ paste t at (x ++ y) 44 = b ∙ ap (λ (s : List ℕ). paste s (at + 40) y 4) a ∙ paste-append t at x y 40 4 (length-head es k) (length_digits 256 4 (get_or es (k * 8 + 5) 0)) (omega arith) in
      let lxy : length (x ++ y) ≡ 44 = omega (arith, length-append x y, length-head es k, length_digits 256 4 (get_or es (k * 8 + 5) 0)) in
      rw two (paste-append t at (x ++ y) (tail_bytes es cs k) 44 (2 + get_or es (k * 8 + 7) 0) lxy length-tail (omega arith) ∙ rw (q, ← insert-parts))

  -- as draining writes it
  promoted-parts : promoted_bytes (entry_of cs (entry_at_row es k)) ≡ head_bytes es k ++ tail_bytes es cs k
  unfolding promoted_bytes
  promoted-parts = rw length-cell_part (simp append_assoc)

  pub length-promoted : length (promoted_bytes (entry_of cs (entry_at_row es k))) ≡ 42 + get_or es (k * 8 + 7) 0
  length-promoted = ap length promoted-parts ∙ omega (arith, length-append (head_bytes es k) (tail_bytes es cs k), length-head es k, length-tail)

  pub promoted-written : (t o : List ℕ) (at : ℕ) → at + 42 ≤ length t → o ≡ paste t at (head_bytes es k) 40
      → paste o (at + 40) (tail_bytes es cs k) (2 + get_or es (k * 8 + 7) 0) ≡ paste t at (promoted_bytes (entry_of cs (entry_at_row es k))) (42 + get_or es (k * 8 + 7) 0)
  promoted-written t o at h a =
      let q : 40 + (2 + get_or es (k * 8 + 7) 0) ≡ 42 + get_or es (k * 8 + 7) 0 = omega arith in
      rw a (paste-append t at (head_bytes es k) (tail_bytes es cs k) 40 (2 + get_or es (k * 8 + 7) 0) (length-head es k) length-tail (omega arith) ∙ rw (q, ← promoted-parts))

-- ---- one after another
module _ {A : Type 0} (f : A → List ℕ) (xs : List A) (i : ℕ) (d : A) (h : i < length xs) where
  pub flat-next : flat f (take (i + 1) xs) ≡ flat f (take i xs) ++ f (get_or xs i d)
  unfolding flat
  flat-next =
      ap (λ (j : ℕ). flat f (take j xs)) (add-one i) ∙ ap (flat f) (take-suc xs i d h) ∙ flat_append f (take i xs) (get_or xs i d ∷ [])
      ∙ ap (λ (l : List ℕ). flat f (take i xs) ++ l) (append-nil (f (get_or xs i d)))

  pub flat-within : length (flat f (take i xs)) + length (f (get_or xs i d)) ≤ length (flat f xs)
  flat-within =
      let whole : flat f xs ≡ flat f (take (i + 1) xs) ++ flat f (drop (i + 1) xs) =
      ap (flat f) (sym (take-append-drop (i + 1) xs)) ∙ flat_append f (take (i + 1) xs) (drop (i + 1) xs) in
      rw (whole, flat-next) (simp length-append (omega arith))

  pub length-next : (at n : ℕ) → at ≡ length (flat f (take i xs)) → n ≡ length (f (get_or xs i d)) → at + n ≡ length (flat f (take (i + 1) xs))
  length-next at n p q = rw flat-next (simp length-append (omega arith))

  pub paste-next : (t o : List ℕ) (at n : ℕ) → at ≡ length (flat f (take i xs)) → n ≡ length (f (get_or xs i d)) → o ≡ paste t 0 (flat f (take i xs)) at
      → paste o at (f (get_or xs i d)) n ≡ paste t 0 (flat f (take (i + 1) xs)) (at + n)
  paste-next t o at n p q e =
      let l = flat f (take i xs) in
      let m = f (get_or xs i d) in
      ap (λ (b : List ℕ). paste b at m n) e ∙ ap (λ (j : ℕ). paste (paste t 0 l at) j m n) (sym (zero-add at))
      ∙ paste-append t 0 l m at n (sym p) (sym q) (omega arith)
      ∙ ap (λ (b : List ℕ). paste t 0 b (at + n)) (sym flat-next)

-- the first bytes of a list as a paste at its start
pub paste_all : {A : Type 0} (f : A → List ℕ) (xs : List A) (i : ℕ) (t o : List ℕ) (at : ℕ) → length xs ≤ i → at ≡ length (flat f (take i xs)) → o ≡ paste t 0 (flat f (take i xs)) at
    → o ≡ overlay (flat f xs) t
paste_all f xs i t o at h p e =
    let q : take i xs ≡ xs = take_all i xs h in
    e ∙ paste-start t (flat f (take i xs)) at (sym p) ∙ rw q

-- ---- the listing
pub length-listing : (es : List Entry) → length (listing_bytes es) ≡ length es * 46 + cell_bytes es
unfolding listing_bytes cell_bytes insert_bytes flat sum_of
length-listing [] = refl
length-listing (e ∷ es) = simp (length-append, length-hash_bytes, length_digits) (omega (arith, length-listing es))

module _ (r : Nursery) (es cs out : List ℕ) where
  pub listing-not-entries : holds_entries r es ≡ false → effect (record { answer = Refused Broken; len = 0 }) out ≡ listing_call r es cs out
  unfolding listing_call written put fitting
  listing-not-entries e = rw e

  pub listing-not-cells : holds_entries r es ≡ true → holds_cells r cs ≡ false → effect (record { answer = Refused Broken; len = 0 }) out ≡ listing_call r es cs out
  unfolding listing_call written put fitting
  listing-not-cells e f = rw (e, f)

  module _ (x : EntriesHeld r es) (z : CellsHeld r cs) where
    pub listing-length : length (listing_bytes (entries_of r.entries es cs)) ≡ r.entries * 46 + r.cell_bytes
    listing-length = length-listing (entries_of r.entries es cs) ∙ rw (number-entries r es cs, bytes_same r es cs x z)

    module _ (a : holds_entries r es ≡ true) (b : holds_cells r cs ≡ true) where
      pub listing_full : length out < r.entries * 46 + r.cell_bytes → effect (record { answer = Refused OutputFull; len = 0 }) out ≡ listing_call r es cs out
      unfolding listing_call written put fitting
      listing_full l = rw (a, b, listing-length, lt-ltb (length out) (r.entries * 46 + r.cell_bytes) l)

      pub listing-done : r.entries * 46 + r.cell_bytes ≤ length out
          → effect (record { answer = Taken; len = r.entries * 46 + r.cell_bytes }) (overlay (listing_bytes (entries_of r.entries es cs)) out) ≡ listing_call r es cs out
      unfolding listing_call written put fitting
      listing-done l = rw (a, b, listing-length, le-ltb (length out) (r.entries * 46 + r.cell_bytes) l) (rw listing-length)

-- row i of the entries, behind those before it
module _ (r : Nursery) (es cs : List ℕ) (x : EntriesHeld r es) (z : CellsHeld r cs) (i : ℕ) (l : i < r.entries) (at : ℕ) (p : at ≡ length (flat insert_bytes (take i (entries_of r.entries es cs)))) where
  inside : i < length (entries_of r.entries es cs)
  inside = rw (number-entries r es cs) l

  this-length : 46 + get_or es (i * 8 + 7) 0 ≡ length (insert_bytes (get_or (entries_of r.entries es cs) i (no_entry cs)))
  this-length = sym (ap (λ (e : Entry). length (insert_bytes e)) (entry-of-row r es cs x z i l) ∙ length-insert es cs i (row_fits r es cs x z i l))

  pub insert-room : at + 46 + get_or es (i * 8 + 7) 0 ≤ r.entries * 46 + r.cell_bytes
  unfolding listing_bytes
  insert-room =
      omega (arith, this-length, flat-within insert_bytes (entries_of r.entries es cs) i (no_entry cs) inside, listing-length r es cs cs x z)

  pub insert-length : at + (46 + get_or es (i * 8 + 7) 0) ≡ length (flat insert_bytes (take (i + 1) (entries_of r.entries es cs)))
  insert-length = length-next insert_bytes (entries_of r.entries es cs) i (no_entry cs) inside at (46 + get_or es (i * 8 + 7) 0) p this-length

  pub insert-next : (t o : List ℕ) → o ≡ paste t 0 (flat insert_bytes (take i (entries_of r.entries es cs))) at
      → paste o at (insert_bytes (entry_of cs (entry_at_row es i))) (46 + get_or es (i * 8 + 7) 0)
      ≡ paste t 0 (flat insert_bytes (take (i + 1) (entries_of r.entries es cs))) (at + (46 + get_or es (i * 8 + 7) 0))
  insert-next t o e =
      rw (← entry-of-row r es cs x z i l) (paste-next insert_bytes (entries_of r.entries es cs) i (no_entry cs) inside t o at (46 + get_or es (i * 8 + 7) 0) p this-length e)
