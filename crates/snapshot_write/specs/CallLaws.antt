-- The ways out of the calls.
-- Assumes nothing.
use Rattle.std.specs.Prelude.{◌≡◌, refl, true, false, List, ℕ, ◌≤◌, ◌<◌, length}
use borrow.Author.Tests.{lt-ltb, le-ltb}
use Rattle.base.specs.Output.{effect, fitting, put, written}
use Rattle.base.specs.Answers.{Taken, Refused}
use Rattle.base.specs.declared.Refusal.TheVariants.{OutputFull, Broken}
use Rattle.slices.specs.Laws.{paste-start}
use Rattle.slices.specs.Places.{put_at}
use Rattle.counters.specs.declared.Counters.{Counters}
use Rattle.counters.specs.Layout.{state_of, holds}
use Rattle.counters.specs.Calls.{on_state}
use Rattle.snapshot.specs.Write.{snapshot_bytes}
use Rattle.snapshot.specs.Calls.{serialize_call, length_call}

module _ (c : Counters) (t : List ℕ) where
  -- ---- the length
  pub length-broken : holds c t ≡ false → record { answer = Refused Broken; len = 0 } ≡ length_call c t
  unfolding length_call on_state
  length-broken h = rw h

  pub length_taken : holds c t ≡ true → (n : ℕ) → n ≡ length (snapshot_bytes (state_of c t)) → record { answer = Taken; len = n } ≡ length_call c t
  unfolding length_call on_state
  length_taken h n e = rw (h, e)

  -- ---- the snapshot
  module _ (out : List ℕ) where
    pub serialize-broken : holds c t ≡ false → effect (record { answer = Refused Broken; len = 0 }) out ≡ serialize_call c t out
    unfolding serialize_call on_state written fitting put
    serialize-broken h = rw h

    module _ (h : holds c t ≡ true) (n : ℕ) (e : n ≡ length (snapshot_bytes (state_of c t))) where
      pub serialize-full : length out < n → effect (record { answer = Refused OutputFull; len = 0 }) out ≡ serialize_call c t out
      unfolding serialize_call on_state written fitting put
      serialize-full l = rw (h, lt-ltb (length out) (length (snapshot_bytes (state_of c t))) (rw e at l))

      pub serialize-taken : n ≤ length out → (o : List ℕ) → o ≡ put_at out 0 (snapshot_bytes (state_of c t))
          → effect (record { answer = Taken; len = n }) o ≡ serialize_call c t out
      unfolding serialize_call on_state written fitting put
      serialize-taken l o f =
          rw (h, le-ltb (length out) (length (snapshot_bytes (state_of c t))) (rw e at l), e, f, paste-start out (snapshot_bytes (state_of c t)) (length (snapshot_bytes (state_of c t))) refl)
