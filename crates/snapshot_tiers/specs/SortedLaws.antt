-- Large counts by ascending index, as a written snapshot has them: the first from an index on is found by halves.
-- Assumes nothing.
use Rattle.std.specs.Prelude.{◌≡◌, refl, true, List, [], ◌∷◌, map, ℕ, zero, suc, ◌+◌, ◌-◌, ◌*◌, ◌≤◌, ◌<◌, length, take, drop, get_or, Option}
use Rattle.std.specs.Option.{is_some}
use Rattle.std.proofs.Common.{sym, ◌∙◌, arith, drop-drop}
use Rattle.std.proofs.Math.Path.{ap}
use Rattle.std.proofs.Math.Decide.{dec_le}
use Rattle.base.specs.Logic.{fold, ascending_from}
use Rattle.base.specs.Laws.{ascending-head, ascending-tail, ascending-lower}
use Rattle.base.specs.Bytes.{unle}
use Rattle.rows.specs.Keys.{place}
use Rattle.rows.proofs.KeyLaws.{place-lt, place-ge}
use Rattle.counters.specs.Counts.{Entry}
use Rattle.snapshot_tiers.specs.declared.Head.{Head}
use Rattle.snapshot_tiers.specs.Heads.{idxs_of, no_head, raw_of, lower_from, head_at, idx_of}
use Rattle.snapshot_tiers.specs.LargeLaws.{raw-next, raw-end, from-unasked, from-kept, from_first}

pub length-idxs : (n : ℕ) (bs : List ℕ) → length (idxs_of n bs) ≡ n
unfolding raw_of
length-idxs zero bs = refl
length-idxs (suc n) bs = ap suc (length-idxs n (drop 16 bs))

idx-in : (n k : ℕ) (bs : List ℕ) → k < n → get_or (idxs_of n bs) k 0 ≡ unle (take 8 (drop (16 * k) bs))
unfolding raw_of
idx-in zero k bs h = absurd (omega arith)
idx-in (suc n) zero bs h = refl
idx-in (suc n) (suc k) bs h =
    let z : 16 + 16 * k ≡ 16 * suc k = omega arith in
    idx-in n k (drop 16 bs) (omega arith) ∙ rw (drop-drop (16 * k) 16 bs, z)

pub idx-at : (s : List ℕ) (at n k : ℕ) → k < n → get_or (idxs_of n (drop at s)) k 0 ≡ unle (take 8 (drop (at + 16 * k) s))
idx-at s at n k h = idx-in n k (drop at s) h ∙ rw (drop-drop (16 * k) at s)

raw-in : (n k : ℕ) (bs : List ℕ) → k ≤ n → drop k (raw_of n bs) ≡ raw_of (n - k) (drop (16 * k) bs)
unfolding raw_of
raw-in n zero bs h = let z : n - 0 ≡ n = omega arith in rw z
raw-in zero (suc k) bs h = absurd (omega arith)
raw-in (suc n) (suc k) bs h =
    let z : 16 + 16 * k ≡ 16 * suc k = omega arith in
    let y : n - k ≡ suc n - suc k = omega arith in
    raw-in n k (drop 16 bs) (omega arith) ∙ rw (drop-drop (16 * k) 16 bs, z, y)

raw-from : (s : List ℕ) (at n k : ℕ) → k ≤ n → drop k (raw_of n (drop at s)) ≡ raw_of (n - k) (drop (at + 16 * k) s)
raw-from s at n k h = raw-in n k (drop at s) h ∙ rw (drop-drop (16 * k) at s)

-- the first of counts
unfoldable head_of : List Entry → Option Head
head_of [] = no_head
head_of (e ∷ es) = head_at e.idx e.count

-- counts behind the first change nothing
scan-kept : (lo : ℕ) (raw : List Entry) (h : Option Head) → is_some h ≡ true → lo ≤ idx_of h → ascending_from (suc (idx_of h)) (map (λ e. e.idx) raw) ≡ true
    → fold (lower_from lo) raw h ≡ h
unfolding fold
scan-kept lo [] h f g a = refl
scan-kept lo (e ∷ raw) h f g a =
    let l = ascending-head (suc (idx_of h)) e.idx (map (λ x. x.idx) raw) a in
    ap (fold (lower_from lo) raw) (sym (from-kept lo e.idx e.count h (omega arith) f (omega arith)))
    ∙ scan-kept lo raw h f g (ascending-lower (suc (idx_of h)) (suc e.idx) (map (λ x. x.idx) raw) (omega arith) (ascending-tail (suc (idx_of h)) e.idx (map (λ x. x.idx) raw) a))

scan-place : (lo m : ℕ) (raw : List Entry) → ascending_from m (map (λ e. e.idx) raw) ≡ true
    → fold (lower_from lo) raw no_head ≡ head_of (drop (place lo (map (λ e. e.idx) raw)) raw)
unfolding fold head_of place
scan-place lo m [] a = refl
scan-place lo m (e ∷ raw) a =
    elim (dec_le lo e.idx) [
      | yes h ↦
          ap (fold (lower_from lo) raw) (sym (from_first lo e.idx e.count no_head h refl))
          ∙ scan-kept lo raw (head_at e.idx e.count) refl h (ascending-tail m e.idx (map (λ x. x.idx) raw) a)
          ∙ rw (place-ge lo e.idx (map (λ x. x.idx) raw) h)
      | no h ↦
          ap (fold (lower_from lo) raw) (sym (from-unasked lo e.idx e.count no_head (omega arith)))
          ∙ scan-place lo (suc e.idx) raw (ascending-tail m e.idx (map (λ x. x.idx) raw) a)
          ∙ rw (place-lt lo e.idx (map (λ x. x.idx) raw) (omega arith))
    ]

module _ (s : List ℕ) (at n lo k : ℕ) (a : ascending_from 0 (idxs_of n (drop at s)) ≡ true) (here : k ≡ place lo (idxs_of n (drop at s))) where
  at_place : (h : k ≤ n) → head_of (raw_of (n - k) (drop (at + 16 * k) s)) ≡ fold (lower_from lo) (raw_of n (drop at s)) no_head
  at_place h =
      sym (scan-place lo 0 (raw_of n (drop at s)) a ∙ ap (λ (i : ℕ). head_of (drop i (raw_of n (drop at s)))) (sym here) ∙ ap head_of (raw-from s at n k h))

  pub sorted-some : k < n
      → head_at (unle (take 8 (drop (at + 16 * k) s))) (unle (take 8 (drop (at + 16 * k + 8) s))) ≡ fold (lower_from lo) (raw_of n (drop at s)) no_head
  unfolding head_of
  sorted-some h = ap head_of (sym (raw-next s at n k h)) ∙ at_place (omega arith)

  pub sorted_none : k ≤ n → n ≤ k → no_head ≡ fold (lower_from lo) (raw_of n (drop at s)) no_head
  unfolding head_of
  sorted_none h g = ap head_of (sym (raw-end s at n k g)) ∙ at_place h
