-- 25, the last step of a batch and of reading a snapshot: exactly where what came about has more stored counts than cells.
-- Assumes nothing.
use Rattle.std.specs.Prelude.{◌≡◌, ◌↔◌, List, [], ◌∷◌, ◌++◌, ℕ, ◌≤◌, ◌<◌, length}
use Rattle.std.proofs.Math.Dec.{ltb}
use borrow.Author.Tests.{lt-ltb, ltb-true, le-ltb, ltb-false}
use Rattle.base.specs.Answers.{Outcome, refused, taken, ◌>>=◌, number_of}
use Rattle.base.specs.OutcomeLaws.{Refuses, last-other, last-refused, last_taken, last-numbers}
use Rattle.base.specs.declared.Refusal.{Refusal}
use Rattle.base.specs.declared.Refusal.TheVariants.{FewCells}
use Rattle.counters.specs.Counts.{State}
use Rattle.counters.specs.Batch.{bound}

module _ (o : Outcome State) where
  pub bound-few : (o ≡ refused FewCells → ⊥) → ((o >>= bound) ≡ refused FewCells) ↔ ((s : State) × (o ≡ taken s) × (s.live < length s.counts))
  unfolding bound
  bound-few before =
      let (to, from) = last-refused (λ (s : State). ltb s.live (length s.counts)) FewCells o before in (
        (λ e. let (s, i, t) = to e in (s, i, ltb-true s.live (length s.counts) t)),
        λ (s, i, l). from (s, i, lt-ltb s.live (length s.counts) l),
      )

  pub bound-taken : (s : State) → ((o >>= bound) ≡ taken s) ↔ ((o ≡ taken s) × (length s.counts ≤ s.live))
  unfolding bound
  bound-taken s =
      let (to, from) = last_taken (λ (x : State). ltb x.live (length x.counts)) FewCells o s in (
        (λ e. let (i, f) = to e in (i, ltb-false s.live (length s.counts) f)),
        λ (i, l). from (i, le-ltb s.live (length s.counts) l),
      )

  pub bound-other : {q : Refusal} → (number_of FewCells ≡ number_of q → ⊥) → ((o >>= bound) ≡ refused q) ↔ (o ≡ refused q)
  unfolding bound
  bound-other other = last-other (λ (s : State). ltb s.live (length s.counts)) FewCells o other

  -- the numbers: those before, and 25
  pub bound-numbers : (ns : List ℕ) → Refuses ns o → Refuses (ns ++ (25 ∷ [])) (o >>= bound)
  unfolding bound
  bound-numbers ns before = last-numbers (λ (s : State). ltb s.live (length s.counts)) FewCells ns o before
