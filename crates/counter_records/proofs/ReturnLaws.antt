-- What a batch that is over returns: beside a refusal the record is the one that was lent, so that a refusal alone says all.
-- Assumes nothing.
use Rattle.std.specs.Prelude.{◌≡◌, List, ℕ, Result, Ok, Err}
use Rattle.std.proofs.Common.{ap, sym, ◌∙◌}
use Rattle.base.specs.declared.Refusal.{Refusal}
use Rattle.counters.specs.declared.Counters.{Counters}
use Rattle.counters.specs.Calls.{Changed, effect, batch_call}
use Rattle.counters.specs.Returned.{Applied, as_applied}
use Rattle.counters.proofs.CallLaws.{batch-refused}

module _ (c : Counters) (t₀ ws : List ℕ) (w : Applied) (t : List ℕ) (gives : effect w t ≡ batch_call c t₀ ws) where
  pub returned : (r : Result Counters Refusal) → as_applied w.counters r ≡ w → effect (as_applied c r) t ≡ batch_call c t₀ ws
  returned (Ok d) e = ap (λ (v : Applied). effect v t) e ∙ gives
  returned (Err q) e =
      let answer : (batch_call c t₀ ws).result.answer ≡ w.answer = sym (ap (λ (k : Changed). k.result.answer) gives) in
      let kept : w.counters ≡ c = ap (λ (k : Changed). k.result.counters) gives ∙ (batch-refused c t₀ ws q (answer ∙ sym (ap (λ (v : Applied). v.answer) e))).0 in
      ap (λ (d : Counters). effect (as_applied d (Err q)) t) (sym kept) ∙ ap (λ (v : Applied). effect v t) e ∙ gives
