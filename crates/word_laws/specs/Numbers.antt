-- An answer's number over words: 0 is no refusal's, 23 is that of a setting alone, and the numbers that an answer can have.
-- Assumes nothing.
use Rattle.std.specs.Prelude.{ℕ, ◌≡◌, refl, ◌↔◌, true, List, ◌∷◌, eqb}
use Rattle.std.proofs.Common.{ap, arith}
use Rattle.std.proofs.Math.Bool.{or-true}
use Rattle.base.specs.Logic.{any, elem}
use Rattle.base.specs.Answers.{answer_number, number_of, Answer, Taken, Refused}
use Rattle.base.specs.AnswerLaws.{Answers, not-refused}
use Rattle.base.specs.declared.Refusal.{Refusal}
use Rattle.base.specs.declared.Refusal.TheVariants.{Spent, Unallocated, Repeated, OffTotal, FalseOld, TableFull, Version, TornSnapshot, BadBitmap, BadLarge, TierClash, Present, NurseryFull, TooLong, OutputFull, ShortRecord, FarLength, Mismatch, Misfit, Broken, Damaged, Leftover, BadSetting, FewCells}

-- no refusal has the number 0
pub number-not-zero : (r : Refusal) → number_of r ≡ 0 → ⊥
number-not-zero Spent e = omega arith
number-not-zero Unallocated e = omega arith
number-not-zero Repeated e = omega arith
number-not-zero OffTotal e = omega arith
number-not-zero FalseOld e = omega arith
number-not-zero TableFull e = omega arith
number-not-zero Version e = omega arith
number-not-zero TornSnapshot e = omega arith
number-not-zero BadBitmap e = omega arith
number-not-zero BadLarge e = omega arith
number-not-zero TierClash e = omega arith
number-not-zero Present e = omega arith
number-not-zero NurseryFull e = omega arith
number-not-zero TooLong e = omega arith
number-not-zero OutputFull e = omega arith
number-not-zero ShortRecord e = omega arith
number-not-zero FarLength e = omega arith
number-not-zero Mismatch e = omega arith
number-not-zero Misfit e = omega arith
number-not-zero Broken e = omega arith
number-not-zero Damaged e = omega arith
number-not-zero Leftover e = omega arith
number-not-zero BadSetting e = omega arith
number-not-zero FewCells e = omega arith

-- 23 is the number of one refusal
number-setting : (r : Refusal) → number_of r ≡ 23 → r ≡ BadSetting
number-setting Spent e = absurd (omega arith)
number-setting Unallocated e = absurd (omega arith)
number-setting Repeated e = absurd (omega arith)
number-setting OffTotal e = absurd (omega arith)
number-setting FalseOld e = absurd (omega arith)
number-setting TableFull e = absurd (omega arith)
number-setting Version e = absurd (omega arith)
number-setting TornSnapshot e = absurd (omega arith)
number-setting BadBitmap e = absurd (omega arith)
number-setting BadLarge e = absurd (omega arith)
number-setting TierClash e = absurd (omega arith)
number-setting Present e = absurd (omega arith)
number-setting NurseryFull e = absurd (omega arith)
number-setting TooLong e = absurd (omega arith)
number-setting OutputFull e = absurd (omega arith)
number-setting ShortRecord e = absurd (omega arith)
number-setting FarLength e = absurd (omega arith)
number-setting Mismatch e = absurd (omega arith)
number-setting Misfit e = absurd (omega arith)
number-setting Broken e = absurd (omega arith)
number-setting Damaged e = absurd (omega arith)
number-setting Leftover e = absurd (omega arith)
number-setting BadSetting e = refl
number-setting FewCells e = absurd (omega arith)

-- an answer is 23 where it refuses a setting
pub setting-said : {P : Type 0} (a : Answer) → (a ≡ Refused BadSetting) ↔ P → (answer_number a ≡ 23) ↔ P
setting-said Taken f = (λ e. absurd (omega arith), λ x. absurd (not-refused (f.1 x)))
setting-said (Refused r) f = (λ e. f.0 (ap Refused (number-setting r e)), λ x. ap answer_number (f.1 x))

-- it is 0, or one of its refusals' numbers
pub numbers-said : (ns : List ℕ) (a : Answer) → Answers ns a → elem (answer_number a) (0 ∷ ns) ≡ true
unfolding any
numbers-said ns Taken f = refl
numbers-said ns (Refused r) f = rw (f r refl) (or-true (eqb (number_of r) 0))
