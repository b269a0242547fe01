-- Numbers and their digits: bounds and parts.
-- Assumes nothing.
use Rattle.std.specs.Prelude.{◌≡◌, refl, true, List, [], ◌∷◌, ◌++◌, ℕ, zero, suc, ◌+◌, ◌*◌, ◌/◌, ◌%◌, ◌^◌, ◌≤◌, ◌<◌, length, ltb}
use Rattle.std.proofs.Common.{mul-suc, mul-add, mul_assoc, mul-le-mul_left, mod-lt, arith, ltb-true, lt-ltb}
use Rattle.std.proofs.Math.Nat.{pow-succ', pow-zero}
use Rattle.base.specs.Logic.{all}
use Rattle.base.specs.Bytes.{digits, number}
use Rattle.base.specs.Laws.{and_left, and_right}

-- k digits spell a number below b ^ k
pub number-below : (b : ℕ) (xs : List ℕ) → all (λ x. ltb x b) xs ≡ true → number b xs < b ^ length xs
unfolding number all
number-below b [] e = rw (pow-zero b) (omega arith)
number-below b (x ∷ xs) e =
    let h : x < b = ltb-true x b (and_left _ _ e) in
    let l : suc (number b xs) ≤ b ^ length xs = number-below b xs (and_right (ltb x b) _ e) in
    let m : b * suc (number b xs) ≤ b * b ^ length xs = mul-le-mul_left b l in
    rw (pow-succ' b (length xs)) (omega (arith, mul-suc b (number b xs)))

-- the number that digits spell in two parts
pub number_append : (b : ℕ) (xs ys : List ℕ) → number b (xs ++ ys) ≡ number b xs + b ^ length xs * number b ys
unfolding number
number_append b [] ys = rw (pow-zero b) (omega arith)
number_append b (x ∷ xs) ys =
    rw (number_append b xs ys, pow-succ' b (length xs), mul-add b (number b xs) (b ^ length xs * number b ys), mul_assoc b (b ^ length xs) (number b ys)) (omega arith)

-- digits are below the base
pub digits-below : (b k n : ℕ) → 0 < b → all (λ x. ltb x b) (digits b k n) ≡ true
unfolding digits all
digits-below b zero n p = refl
digits-below b (suc k) n p = rw (lt-ltb (n % b) b (mod-lt n p)) (digits-below b k (n / b) p)
