-- A batch as a loop meets it, one transition after the other: each as `at` gives it.
-- Assumes nothing.
use Rattle.std.specs.Prelude.{◌≡◌, List, ◌∷◌, ℕ, suc, ◌/◌, ◌<◌, drop}
use Rattle.std.proofs.Common.{ap, ◌∙◌}
use Rattle.std.proofs.Math.Path.{sym}
use Rattle.std.proofs.Math.ListN.{length}
use Rattle.counters.specs.declared.CounterTransition.{CounterTransition}
use Rattle.counters.specs.Steps.{transition_at, transitions}
use Rattle.counters.proofs.StepLaws.{from-transition}

-- transition i, and those behind it
pub met : (ws : List ℕ) (i : ℕ) (x : CounterTransition) → x ≡ transition_at ws i → i < length ws / 3 → drop i (transitions ws) ≡ x ∷ drop (suc i) (transitions ws)
met ws i x e h = from-transition ws i h ∙ ap (λ (y : CounterTransition). y ∷ drop (suc i) (transitions ws)) (sym e)
