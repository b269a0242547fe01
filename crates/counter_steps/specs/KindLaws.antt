-- The kinds of transitions, test by test.
-- Assumes nothing.
use Rattle.std.specs.Prelude.{◌≡◌, true, false, not, ℕ, ◌≤◌, ◌<◌, leb, eqb}
use Rattle.std.proofs.Common.{le-leb}
use Rattle.std.proofs.lemmas.Bool.{lt-leb}
use Rattle.counters.specs.Counts.{in_set}
use Rattle.counters.specs.Steps.{transition}
use Rattle.counter_steps.specs.declared.Kind.{Kind}
use Rattle.counter_steps.specs.declared.Kind.TheVariants.{Birth, Death, Rise, Fall, Clear}
use Rattle.counter_steps.specs.Steps.{of_kind}

module _ (kind : Kind) (i old new : ℕ) where
  pub kind-birth : kind ≡ Birth → eqb old 0 ≡ of_kind kind (transition i old new)
  kind-birth e = rw e

  pub kind-death : kind ≡ Death → eqb new 0 ≡ of_kind kind (transition i old new)
  kind-death e = rw e

  pub kind-no-rise : kind ≡ Rise → 1 < old → false ≡ of_kind kind (transition i old new)
  kind-no-rise e h = rw (e, lt-leb old 1 h)

  pub kind-rise : kind ≡ Rise → old ≤ 1 → leb 2 new ≡ of_kind kind (transition i old new)
  kind-rise e h = rw (e, le-leb old 1 h)

  pub kind-no-fall : kind ≡ Fall → old < 2 → false ≡ of_kind kind (transition i old new)
  kind-no-fall e h = rw (e, lt-leb 2 old h)

  pub kind-fall : kind ≡ Fall → 2 ≤ old → leb new 1 ≡ of_kind kind (transition i old new)
  kind-fall e h = rw (e, le-leb 2 old h)

  pub kind-no-clear : (k : ℕ) → kind ≡ Clear k → in_set k old ≡ false → false ≡ of_kind kind (transition i old new)
  kind-no-clear k e h = rw (e, h)

  pub kind-clear : (k : ℕ) → kind ≡ Clear k → in_set k old ≡ true → not (in_set k new) ≡ of_kind kind (transition i old new)
  kind-clear k e h = rw (e, h)
