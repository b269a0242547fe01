-- Laws of rows as a search meets them: on which side of a key's place a row stands, by any key and by its first word, and where rows passed one by one lead.
-- Assumes nothing.
use Rattle.std.specs.Prelude.{◌≡◌, true, false, List, ℕ, zero, suc, ◌-◌, ◌*◌, ◌≤◌, ◌<◌, drop, get_or}
use Rattle.std.proofs.Common.{zero-le, arith}
use Rattle.std.proofs.Math.Decide.{dec_le}
use Rattle.base.specs.Logic.{ascending_from, sorted_from}
use Rattle.rows.specs.Keys.{keys, first_word, place}
use Rattle.rows.proofs.KeyLaws.{place-le, place_up, place_down, length-keys, key-at, word_at, ascend-next, ascend-not}

-- for any key of a row: one that isn't below another stands at that one's place or behind it, and of rows in order, one that is below stands before it
module _ (key : List ℕ → ℕ) (w n : ℕ) (t : List ℕ) (i k : ℕ) (l : k < n) where
  pub key_from : i ≤ key (drop (k * w) t) → place i (keys key w n t) ≤ k
  key_from h = place_down i (keys key w n t) k (omega (arith, length-keys key w n t)) (rw (key-at key w n t k l) h)

  pub key_below : sorted_from 0 (keys key w n t) ≡ true → key (drop (k * w) t) < i → k < place i (keys key w n t)
  key_below s h = place_up i 0 (keys key w n t) k s (omega (arith, length-keys key w n t)) (rw (key-at key w n t k l) h)

module _ (w n : ℕ) (t : List ℕ) (i : ℕ) where
  -- a row that isn't below a key stands at its place or behind it
  pub row_from : (k : ℕ) → k < n → i ≤ get_or t (k * w) 0 → place i (keys first_word w n t) ≤ k
  row_from k l h = place_down i (keys first_word w n t) k (omega (arith, length-keys first_word w n t)) (rw (word_at w n t k l) h)

  -- what stands before the place of a key is below it
  pub below-place : (k : ℕ) → k ≤ place i (keys first_word w n t) → (j : ℕ) → j < k → get_or t (j * w) 0 < i
  below-place k h j l =
      let inside : j < n = omega (arith, length-keys first_word w n t, place-le i (keys first_word w n t)) in
      elim (dec_le i (get_or t (j * w) 0)) [
        | yes g ↦ absurd (omega (arith, row_from j inside g))
        | no g ↦ omega arith
      ]

  module _ (s : sorted_from 0 (keys first_word w n t) ≡ true) where
    -- of rows in order, one that is below a key stands before its place
    pub row_below : (k : ℕ) → k < n → get_or t (k * w) 0 < i → k < place i (keys first_word w n t)
    row_below k l h = place_up i 0 (keys first_word w n t) k s (omega (arith, length-keys first_word w n t)) (rw (word_at w n t k l) h)

    module _ (k : ℕ) (h : k ≤ n) (b : (j : ℕ) → j < k → get_or t (j * w) 0 < i) where
      -- where all rows before one are below a key, its place isn't before that row
      passed : (m : ℕ) → m ≤ k → m ≤ place i (keys first_word w n t)
      passed zero l = zero-le
      passed (suc m) l = row_below m (omega arith) (b m (omega arith))

      -- where that row isn't below the key, it is at the place
      pub place-reached : k < n → i ≤ get_or t (k * w) 0 → k ≡ place i (keys first_word w n t)
      place-reached l g = omega (arith, passed k (omega arith), row_from k l g)

      -- where there is no such row, the place is behind all rows
      pub place-past : n ≤ k → k ≡ place i (keys first_word w n t)
      place-past l = omega (arith, passed k (omega arith), place-le i (keys first_word w n t), length-keys first_word w n t)

-- neighbours: the keys from row i - 1 on ascend exactly where those from row i on do, if the one is below the other, and else they don't
module _ (key : List ℕ → ℕ) (w n : ℕ) (t : List ℕ) (i : ℕ) (b : 1 ≤ i) (l : i < n) where
  behind : suc (i - 1) ≡ i
  behind = omega arith

  pub neighbours-ascend : key (drop ((i - 1) * w) t) < key (drop (i * w) t)
      → ascending_from (get_or (keys key w n t) (i - 1) 0) (drop (i - 1) (keys key w n t)) ≡ ascending_from (get_or (keys key w n t) i 0) (drop i (keys key w n t))
  neighbours-ascend h =
      rw behind at
      (ascend-next (keys key w n t) (i - 1) (omega (arith, length-keys key w n t))
      (rw (behind, key-at key w n t (i - 1) (omega arith), key-at key w n t i l) h))

  pub neighbours-stop : key (drop (i * w) t) ≤ key (drop ((i - 1) * w) t)
      → ascending_from (get_or (keys key w n t) (i - 1) 0) (drop (i - 1) (keys key w n t)) ≡ false
  neighbours-stop h =
      ascend-not (keys key w n t) (i - 1) (omega (arith, length-keys key w n t))
      (rw (behind, key-at key w n t (i - 1) (omega arith), key-at key w n t i l) h)
