-- One more mark in a word leaves the other bits as they are.
-- Assumes nothing.
use Rattle.std.specs.Prelude.{◌≡◌, true, false, List, ℕ, suc, ◌+◌, ◌-◌, ◌*◌, ◌/◌, ◌%◌, ◌^◌, ◌<◌, length, get_or, eqb}
use Rattle.std.proofs.Common.{ap, ◌∙◌, pow-suc, div-lt_iff_lt-mul, one-mul, mod-eq_of_lt, arith, get_or-set_other, pow_pos, pow-add}
use Rattle.std.proofs.Math.Nat.{add-div_right, add-mul-div_left, add-mul-mod_self_left, pow-succ', div-div-eq-div-mul, zero-div}
use Rattle.std.proofs.Math.Decide.{dec_lt, ℕ_discrete}
use Rattle.std.proofs.lemmas.List.{get_or-replicate, length-replicate}
use Rattle.std.proofs.Math.ListN.{get_or-eq_default}
use Rattle.std.proofs.Math.Seq.{get_or-set_same}
use Rattle.std.proofs.Math.Pow.{pow-lt}
use borrow.Author.Tests.{eqb-false}
use Rattle.base.specs.Logic.{zeros}
use Rattle.waiting_checks.specs.Marks.{is_marked, with_mark}

-- ---- a bit that isn't set is added to a word
module _ (w j : ℕ) (clear : w / 2 ^ j % 2 ≡ 1 → ⊥) where
  -- the next bit up, and all above, see nothing of it
  above : (w + 2 ^ j) / 2 ^ suc j ≡ w / 2 ^ suc j
  above =
      let e : (w + 2 ^ j) / 2 ^ j ≡ w / 2 ^ j + 1 = add-div_right w (pow_pos j) in
      rw (pow-suc 2 j, ← div-div-eq-div-mul (w + 2 ^ j) (2 ^ j) 2, ← div-div-eq-div-mul w (2 ^ j) 2, e) (omega arith)

  pub bit-set : (w + 2 ^ j) / 2 ^ j % 2 ≡ 1
  bit-set = rw (add-div_right w (pow_pos j)) (omega arith)

  pub bit-above : (i : ℕ) → j < i → (w + 2 ^ j) / 2 ^ i ≡ w / 2 ^ i
  bit-above i h =
      let q : 2 ^ i ≡ 2 ^ suc j * 2 ^ (i - suc j) = ap (λ (k : ℕ). 2 ^ k) (omega arith) ∙ pow-add 2 (suc j) (i - suc j) in
      rw (q, ← div-div-eq-div-mul (w + 2 ^ j) (2 ^ suc j) (2 ^ (i - suc j)), ← div-div-eq-div-mul w (2 ^ suc j) (2 ^ (i - suc j)), above)

  pub bit_below : (i : ℕ) → i < j → (w + 2 ^ j) / 2 ^ i % 2 ≡ w / 2 ^ i % 2
  bit_below i h =
      let m : ℕ = 2 ^ (j - suc i) in
      let q : 2 ^ j ≡ 2 ^ i * (2 * m) = ap (λ (k : ℕ). 2 ^ k) (omega arith) ∙ pow-add 2 i (suc (j - suc i)) ∙ ap (λ (k : ℕ). 2 ^ i * k) (pow-succ' 2 (j - suc i)) in
      rw (q, add-mul-div_left w (2 * m) (pow_pos i)) (add-mul-mod_self_left (w / 2 ^ i) 2 m)

  pub bit-other : (i : ℕ) → (i ≡ j → ⊥) → (w + 2 ^ j) / 2 ^ i % 2 ≡ w / 2 ^ i % 2
  bit-other i n =
      elim (dec_lt i j) [
        | yes h ↦ bit_below i h
        | no h ↦ ap (λ (k : ℕ). k % 2) (bit-above i (omega arith))
      ]

  -- it has room in the word
  pub bit-fits : j < 64 → w < 2 ^ 64 → w + 2 ^ j < 2 ^ 64
  bit-fits h l =
      let k : 64 ≡ (63 - j) + suc j = omega arith in
      let q : 2 ^ 64 ≡ 2 ^ (63 - j) * 2 ^ suc j = ap (λ (n : ℕ). 2 ^ n) k ∙ pow-add 2 (63 - j) (suc j) in
      let b : w / 2 ^ suc j < 2 ^ (63 - j) = (div-lt_iff_lt-mul (pow_pos (suc j))).1 (rw q at l) in
      rw q ((div-lt_iff_lt-mul (pow_pos (suc j))).0 (rw above b))

-- ---- marks

-- a bit as the code shifts it, and its room in the word
pub bit_shifted : (j : ℕ) → j < 64 → 1 * 2 ^ j % 2 ^ 64 ≡ 2 ^ j
bit_shifted j h = rw (one-mul (2 ^ j)) (mod-eq_of_lt (pow-lt {i = j} {j = 64} h))

pub bit-room : (w j : ℕ) → j < 64 → w < 2 ^ 64 → eqb (w / 2 ^ j % 2) 1 ≡ false → w + 2 ^ j < 2 ^ 64
bit-room w j h l e = bit-fits w j (eqb-false (w / 2 ^ j % 2) 1 e) h l

-- no bit of zeros is set
zero-at : (n k : ℕ) → get_or (zeros n) k 0 ≡ 0
zero-at n k =
    elim (dec_lt k n) [
      | yes h ↦ get_or-replicate n k 0 0 h
      | no h ↦ get_or-eq_default (zeros n) 0 (rw (length-replicate {A = ℕ} n 0) (omega arith))
    ]

pub none-marked : (n i : ℕ) → is_marked (zeros n) i ≡ false
unfolding is_marked
none-marked n i = rw (zero-at n (i / 64), zero-div (2 ^ (i % 64)))

module _ (m : List ℕ) (i : ℕ) (free : is_marked m i ≡ false) where
  clear : get_or m (i / 64) 0 / 2 ^ (i % 64) % 2 ≡ 1 → ⊥
  unfolding is_marked
  clear = eqb-false _ 1 free

  module _ (long : i / 64 < length m) where
    pub mark-here : is_marked (with_mark m i) i ≡ true
    unfolding is_marked with_mark
    mark-here =
        rw (get_or-set_same m (i / 64) (get_or m (i / 64) 0 + 2 ^ (i % 64)) 0 long, bit-set (get_or m (i / 64) 0) (i % 64) clear)

    pub mark-other : (k : ℕ) → (k ≡ i → ⊥) → is_marked (with_mark m i) k ≡ is_marked m k
    unfolding is_marked with_mark
    mark-other k n =
        elim (ℕ_discrete (k / 64) (i / 64)) [
          | yes e ↦ rw (e, get_or-set_same m (i / 64) (get_or m (i / 64) 0 + 2 ^ (i % 64)) 0 long, bit-other (get_or m (i / 64) 0) (i % 64) clear (k % 64) (omega arith))
          | no e ↦ rw (get_or-set_other m (i / 64) (k / 64) (get_or m (i / 64) 0 + 2 ^ (i % 64)) 0 e)
        ]
