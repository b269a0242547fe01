-- A snapshot's parts one after the other: the sets from set k on, the large tier from row i on, and lists put one behind the other.
-- Assumes nothing.
use Rattle.std.specs.Prelude.{◌≡◌, ℕ, suc, ◌+◌, ◌-◌, ◌*◌, ◌≤◌, ◌<◌, get_or, set}
use Rattle.std.proofs.Math.Path.{refl}
use Rattle.std.proofs.Common.{sym, ap, ◌∙◌, add-one, length-append}
use mathlib.Core.List.{List, [], ◌∷◌, ◌++◌, append_assoc}
use native.Mathlib.Omega.{arith}
use Rattle.std.proofs.Math.ListN.{length}
use Rattle.std.proofs.Math.Seq.{paste, drop-length}
use borrow.Author.Tests.{le-leb, lt-leb}
use Rattle.base.specs.Logic.{keep, flat, from}
use Rattle.base.specs.Bytes.{le64}
use Rattle.base.specs.Laws.{length_digits}
use Rattle.slices.specs.Laws.{paste-prepend, paste-one}
use Rattle.rows.specs.Table.{rows_of}
use Rattle.rows.proofs.TableLaws.{length-rows_of}
use Rattle.roaring_rows.specs.RowMembers as row
use Rattle.roaring_rows.specs.RowLaws.{members-rows}
use Rattle.roaring.specs.Write.{write64}
use Rattle.slices.specs.PlaceLaws.{put_at-append, put_at-next}
use Rattle.slices.specs.Places.{put_at}
use Rattle.roaring_rows.specs.DataLaws.{put-digits}
use Rattle.counters.specs.declared.Counters.{Counters}
use Rattle.counters.specs.Counts.{small_code, in_set, members, large}
use Rattle.counters.specs.Layout.{count_row, state_of}
use Rattle.counters.proofs.RowLaws.{from_row}
use Rattle.snapshot.specs.Write.{set_bytes, large_bytes, snapshot_bytes}
use Rattle.snapshot_parts.specs.Parts.{sets_from, large_from}

-- ---- a list in two parts, of which the first is put
pub put_next : (t o w : List ℕ) (at to : ℕ) (x y : List ℕ) → put_at t at (x ++ y) ≡ w → o ≡ put_at t at x → to ≡ at + length x → at ≤ length t → put_at o to y ≡ w
put_next t o w at to x y e f g h = rw (f, g) (put_at-append t at x y h ∙ e)

-- two numbers of 8 bytes
pub two-put : (t o p : List ℕ) (at x y : ℕ) → at ≤ length t → o ≡ paste t at (le64 x) 8 → p ≡ paste o (at + 8) (le64 y) 8 → p ≡ put_at t at (le64 x ++ le64 y)
two-put t o p at x y h e f =
    let q : at + 8 ≡ at + length (le64 x) = omega (arith, length_digits 256 8 x) in
    f ∙ put-digits o (at + 8) 8 y ∙ put_at-next t o at (at + 8) (le64 x) (le64 y) (e ∙ put-digits t at 8 x) q h

-- ---- the numbers from k up to n, one by one
from_next : (k n : ℕ) → k < n → from k (n - k) ≡ k ∷ from (k + 1) (n - (k + 1))
unfolding from
from_next k n h =
    let q : n - k ≡ suc (n - (k + 1)) = omega arith in
    rw (q, add-one k)

-- ---- the sets
module _ (n : ℕ) (t : List ℕ) where
  -- the rows' members are those of the counts
  same-members : (k : ℕ) → members k (rows_of count_row n t) ≡ row.members k n t
  unfolding members in_set small_code row.in_set row.code_of
  same-members k = members-rows count_row (λ e. e.idx) (λ e. e.count) (λ u. refl) (λ u. refl) refl k n t

  -- a set is the length of its bitmap and the bitmap
  pub set-parts : (k : ℕ) → set_bytes (rows_of count_row n t) k ≡ le64 (length (write64 (row.members k n t))) ++ write64 (row.members k n t)
  unfolding set_bytes
  set-parts k = rw (same-members k)

  pub length-set : (k : ℕ) → length (set_bytes (rows_of count_row n t) k) ≡ 8 + length (write64 (row.members k n t))
  length-set k =
      let b : List ℕ = write64 (row.members k n t) in
      rw (set-parts k, length-append (le64 (length b)) b, length_digits 256 8 (length b))

  -- the bitmap is put, and then its length before it
  pub set-put : (k : ℕ) (o o₁ o₂ : List ℕ) (at end : ℕ) → at + length (set_bytes (rows_of count_row n t) k) ≤ length o → o₁ ≡ put_at o (at + 8) (write64 (row.members k n t))
      → end ≡ at + 8 + length (write64 (row.members k n t)) → o₂ ≡ paste o₁ at (le64 (end - at - 8)) 8 → o₂ ≡ put_at o at (set_bytes (rows_of count_row n t) k)
  set-put k o o₁ o₂ at end h e f g =
      let b : List ℕ = write64 (row.members k n t) in
      let q : end - at - 8 ≡ length b = omega arith in
      let m : at + 8 ≤ length o = omega (arith, length-set k) in
      rw (g, e, q, length-set k, set-parts k) (paste-prepend o at (le64 (length b)) b 8 (length b) (length_digits 256 8 (length b)) refl m)

  -- the sets from set k on
  pub sets-next : (k : ℕ) → k < 8 → sets_from n t k ≡ set_bytes (rows_of count_row n t) k ++ sets_from n t (k + 1)
  unfolding flat
  sets-next k h = rw (from_next k 8 h)

  pub sets-length : (k : ℕ) → k < 8 → length (sets_from n t k) ≡ length (set_bytes (rows_of count_row n t) k) + length (sets_from n t (k + 1))
  sets-length k h = rw (sets-next k h, length-append (set_bytes (rows_of count_row n t) k) (sets_from n t (k + 1)))

  pub sets-end : (k : ℕ) → 8 ≤ k → sets_from n t k ≡ []
  unfolding flat from
  sets-end k h =
      let q : 8 - k ≡ 0 = omega arith in
      rw q

  -- ---- the large tier
  module _ (i : ℕ) (h : i < n) where
    pub large-next : 257 ≤ get_or t (i * 2 + 1) 0 → large_from n t i ≡ (le64 (get_or t (i * 2) 0) ++ le64 (get_or t (i * 2 + 1) 0)) ++ large_from n t (i + 1)
    unfolding large keep flat large_bytes
    large-next l = rw (add-one i, from_row n t i h, le-leb 257 (get_or t (i * 2 + 1) 0) l)

    pub large-skip : get_or t (i * 2 + 1) 0 < 257 → large_from n t i ≡ large_from n t (i + 1)
    unfolding large keep
    large-skip l = rw (add-one i, from_row n t i h, lt-leb 257 (get_or t (i * 2 + 1) 0) l)

    pub large-length : 257 ≤ get_or t (i * 2 + 1) 0 → length (large_from n t i) ≡ 16 + length (large_from n t (i + 1))
    large-length l =
        let x : ℕ = get_or t (i * 2) 0 in
        let y : ℕ = get_or t (i * 2 + 1) 0 in
        rw (large-next l, length-append (le64 x ++ le64 y) (large_from n t (i + 1)), length-append (le64 x) (le64 y), length_digits 256 8 x, length_digits 256 8 y)

  pub large-end : (i : ℕ) → n ≤ i → i ≤ n → large_from n t i ≡ []
  unfolding large keep flat
  large-end i h k =
      let e : i ≡ length (rows_of count_row n t) = omega (arith, length-rows_of count_row n t) in
      rw (e, drop-length (rows_of count_row n t))

-- ---- the whole
module _ (c : Counters) (t : List ℕ) where
  -- version, next and live
  abbrev pub head_bytes : List ℕ
  head_bytes = 1 ∷ le64 c.next_idx.0 ++ le64 c.live_cells

  pub length-head : length head_bytes ≡ 17
  length-head = rw (length-append (1 ∷ le64 c.next_idx.0) (le64 c.live_cells), length_digits 256 8 c.next_idx.0, length_digits 256 8 c.live_cells)

  pub snapshot-parts : snapshot_bytes (state_of c t) ≡ head_bytes ++ (sets_from c.stored t 0 ++ large_from c.stored t 0)
  unfolding snapshot_bytes state_of
  snapshot-parts = append_assoc head_bytes (sets_from c.stored t 0) (large_from c.stored t 0)

  pub length-snapshot : length (snapshot_bytes (state_of c t)) ≡ 17 + length (sets_from c.stored t 0) + length (large_from c.stored t 0)
  length-snapshot =
      rw (snapshot-parts, length-append head_bytes (sets_from c.stored t 0 ++ large_from c.stored t 0), length-append (sets_from c.stored t 0) (large_from c.stored t 0), length-head)
      (omega arith)

  -- version, next and live, the sets and the large tier are put one after the other
  pub whole-put : (o o₁ o₂ o₃ o₄ : List ℕ) (end : ℕ) → 17 ≤ length o → o₁ ≡ paste (set o 0 1) 1 (le64 c.next_idx.0) 8 → o₂ ≡ paste o₁ 9 (le64 c.live_cells) 8
      → o₃ ≡ put_at o₂ 17 (sets_from c.stored t 0) → end ≡ 17 + length (sets_from c.stored t 0) → o₄ ≡ put_at o₃ end (large_from c.stored t 0)
      → o₄ ≡ put_at o 0 (snapshot_bytes (state_of c t))
  whole-put o o₁ o₂ o₃ o₄ end h e f g k l =
      let x : List ℕ = le64 c.next_idx.0 in
      let y : List ℕ = le64 c.live_cells in
      let s : List ℕ = sets_from c.stored t 0 in
      let z : List ℕ = large_from c.stored t 0 in
      let v : set o 0 1 ≡ put_at o 0 (1 ∷ []) = sym (paste-one o 0 1 (omega arith)) in
      let a : o₁ ≡ put_at o 0 (1 ∷ x) =
      e ∙ put-digits (set o 0 1) 1 8 c.next_idx.0 ∙ put_at-next o (set o 0 1) 0 1 (1 ∷ []) x v refl (omega arith) in
      let p : 9 ≡ 0 + length (1 ∷ x) = omega (arith, length_digits 256 8 c.next_idx.0) in
      let b : o₂ ≡ put_at o 0 head_bytes = f ∙ put-digits o₁ 9 8 c.live_cells ∙ put_at-next o o₁ 0 9 (1 ∷ x) y a p (omega arith) in
      let d : o₃ ≡ put_at o 0 (head_bytes ++ s) = g ∙ put_at-next o o₂ 0 17 head_bytes s b (omega (arith, length-head)) (omega arith) in
      let q : end ≡ 0 + length (head_bytes ++ s) = rw (length-append head_bytes s, length-head) (omega arith) in
      l ∙ put_at-next o o₃ 0 end (head_bytes ++ s) z d q (omega arith)
      ∙ ap (λ (u : List ℕ). put_at o 0 u) (append_assoc head_bytes s z ∙ sym snapshot-parts)
