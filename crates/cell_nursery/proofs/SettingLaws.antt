-- The delay is a setting: which ones a nursery is made with, what a refused one leaves, and that no call changes it.
-- Assumes nothing.
use Rattle.std.specs.Prelude.{◌≡◌, refl, ◌↔◌, ◌⊎◌, Bool, not, List, [], ◌∷◌, ℕ, ◌≤◌, ◌<◌, length, leb}
use Rattle.std.proofs.Common.{inl, inr, arith, leb-true, leb-false, le-leb}
use Rattle.std.proofs.Math.Bool.{true, false}
use Rattle.std.proofs.lemmas.Bool.{lt-leb}
use Rattle.base.specs.Laws.{and_left, and_right, and_both}
use Rattle.base.specs.Answers.{Outcome, refused, taken, ◌>>=◌, ◌>>◌, refuse_if, or_refuse, answer_of, Refused}
use Rattle.base.specs.OutcomeLaws.{ends-here, taken_refused, refuses-none, refuses-step}
use Rattle.base.specs.Output.{fitting}
use Rattle.base.specs.declared.Refusal.{Refusal}
use Rattle.base.specs.declared.Refusal.TheVariants.{BadSetting, Broken}
use Rattle.base.specs.AnswerLaws.{not_test, and-fails, exactly, not-refused, Answers, says, says-numbers}
use Rattle.cell_nursery.specs.declared.Nursery.{Nursery}
use Rattle.cell_nursery.specs.Entries.{State, empty}
use Rattle.cell_nursery.specs.Items.{delta_of}
use Rattle.cell_nursery.specs.Delta.{apply_delta}
use Rattle.cell_nursery.specs.Drain.{drained, drain_bytes}
use Rattle.cell_nursery.specs.Layout.{record_of, room_of, state_of, delay_in_range}
use Rattle.cell_nursery.proofs.CallLaws.{laid_out-answer}
use Rattle.cell_nursery.specs.Calls.{effect, laid, laid_out, on_state, new_call, length_width, delta_call, drained_out, drain_call}

-- ---- the range
pub delay-range : (d : ℕ) → (delay_in_range d ≡ false) ↔ ((d ≡ 0) ⊎ (10000 < d))
unfolding delay_in_range
delay-range d =
    exactly (and-fails (leb 1 d) (leb d 10000)) (
      λ s. elim s [ inl e ↦ inl (omega (arith, leb-false 1 d e)) | inr e ↦ inr (leb-false d 10000 e) ],
      λ s. elim s [ inl e ↦ inl (lt-leb 1 d (omega arith)) | inr e ↦ inr (lt-leb d 10000 e) ],
    )

pub delay-bounds : (d : ℕ) → (delay_in_range d ≡ true) ↔ ((1 ≤ d) × (d ≤ 10000))
unfolding delay_in_range
delay-bounds d = (
  λ e. (leb-true 1 d (and_left _ _ e), leb-true d 10000 (and_right (leb 1 d) _ e)),
  λ (a, b). and_both _ _ (le-leb 1 d a) (le-leb d 10000 b),
)

-- ---- a new nursery
module _ (delay : ℕ) (es ws cs : List ℕ) where
  pub new-taken : delay_in_range delay ≡ true → new_call delay es ws cs ≡ laid delay es ws cs empty
  unfolding new_call laid_out
  new-taken e = rw e

  pub new-bad : delay_in_range delay ≡ false → new_call delay es ws cs ≡ effect (record { answer = Refused BadSetting; nursery = record_of 0 empty }) es ws cs
  unfolding new_call laid_out
  new-bad e = rw e

  abbrev made : Outcome State
  made = refuse_if (not (delay_in_range delay)) BadSetting >> taken empty

  made-answered : (new_call delay es ws cs).result.answer ≡ answer_of made
  unfolding new_call
  made-answered = laid_out-answer delay (record_of 0 empty) es ws cs made

  -- 23, bad setting: a delay of no round, or of more than 10,000
  pub new-setting : ((new_call delay es ws cs).result.answer ≡ Refused BadSetting) ↔ ((delay ≡ 0) ⊎ (10000 < delay))
  new-setting = says made made-answered (exactly (ends-here (not_test (delay_in_range delay)) taken_refused) (delay-range delay))

  -- 23, and no other
  pub new-numbers : Answers (23 ∷ []) (new_call delay es ws cs).result.answer
  new-numbers = says-numbers (23 ∷ []) made made-answered (refuses-step BadSetting [] (not_test (delay_in_range delay)) (refuses-none [] empty))

  -- beside a refusal the record is all zeros, and the tables are as they were
  pub new-refused : (q : Refusal) → (new_call delay es ws cs).result.answer ≡ Refused q
      → new_call delay es ws cs ≡ effect (record { answer = Refused q; nursery = record_of 0 empty }) es ws cs
  unfolding new_call laid_out laid
  new-refused q = go (delay_in_range delay)
    where
      go : (b : Bool) → (laid_out delay (record_of 0 empty) es ws cs (refuse_if (not b) BadSetting >> taken empty)).result.answer ≡ Refused q
          → laid_out delay (record_of 0 empty) es ws cs (refuse_if (not b) BadSetting >> taken empty) ≡ effect (record { answer = Refused q; nursery = record_of 0 empty }) es ws cs
      go true e = absurd (not-refused e)
      go false e = rw e

-- ---- no call changes it
pub delta-delay : (r : Nursery) (es ws cs : List ℕ) (wide : Bool) (inserts removes : ℕ) (items : List ℕ)
    → (delta_call r es ws cs wide inserts removes items).result.nursery.delay ≡ r.delay
unfolding delta_call laid_out laid record_of
delta-delay r es ws cs wide inserts removes items =
    go (on_state r es ws cs (λ s. or_refuse Broken (delta_of (length_width wide) inserts removes items) >>= apply_delta (room_of es ws cs) s))
  where
    go : (o : Outcome State) → (laid_out r.delay r es ws cs o).result.nursery.delay ≡ r.delay
    go (refused q) = refl
    go (taken s) = refl

pub drain-delay : (r : Nursery) (es ws cs : List ℕ) (round : ℕ) (out : List ℕ) → (drain_call r es ws cs round out).result.nursery.delay ≡ r.delay
unfolding drain_call drained_out record_of
drain-delay r es ws cs round out = go (fitting (length out) (on_state r es ws cs (λ s. taken (drain_bytes r.delay round s))))
  where
    go : (o : Outcome (List ℕ)) → (drained_out r ws out o (drained r.delay round (state_of r es ws cs))).result.nursery.delay ≡ r.delay
    go (refused q) = refl
    go (taken bs) = refl
