-- Each refusal of a delta, exactly under document 01's condition.
-- Assumes nothing.
use Rattle.std.specs.Prelude.{◌≡◌, ◌↔◌, ◌⊎◌, true, ◌||◌, ◌+◌, ◌<◌, ltb}
use mathlib.Core.List.{[], ◌∷◌, map}
use Rattle.std.proofs.Common.{arith}
use Rattle.std.proofs.Math.ListN.{length}
use Rattle.base.specs.Logic.{any, elem, repeated, max32}
use Rattle.base.specs.Answers.{refused, taken}
use Rattle.base.specs.ListLaws.{ltb-lt, or-either, Some, Two, any_some, elem-some, repeated-two}
use Rattle.base.specs.OutcomeLaws.{flat-three, flat-four, other-number, refused-taken, taken_refused, taken-same, ends-here, ends-later, never_ends, Refuses, refuses-none, refuses-step}
use Rattle.base.specs.declared.Refusal.TheVariants.{Present, NurseryFull, TooLong}
use Rattle.cell_nursery.specs.Entries.{State, cell_bytes}
use Rattle.cell_nursery.specs.Items.{Delta}
use Rattle.cell_nursery.specs.Delta.{Room, too_long, present, full, state_after, apply_delta}

-- a cell over 65,535 bytes, or a list over 2^32 − 1 items
abbrev pub IsLong : Delta → Type 0
IsLong d = (Some (λ e. 65535 < length e.cell) d.inserts ⊎ (max32 < length d.inserts)) ⊎ (max32 < length d.removes)

-- an inserted hash is in the nursery, or inserted earlier in the delta
abbrev pub IsPresent : State → Delta → Type 0
IsPresent s d = Some (λ e. Some (λ x. e.hash ≡ x.hash) s.entries) d.inserts ⊎ Two (λ e f. e.hash ≡ f.hash) d.inserts

-- entries or cell bytes after the inserts, before the removes, exceed the tables
abbrev pub IsFull : Room → State → Delta → Type 0
IsFull m s d = (m.entries < length s.entries + length d.inserts) ⊎ (m.cells < cell_bytes s.entries + cell_bytes d.inserts)

pub long-test : (d : Delta) → (too_long d ≡ true) ↔ IsLong d
unfolding too_long
long-test d =
    or-either (any (λ e. ltb 65535 (length e.cell)) d.inserts || ltb max32 (length d.inserts)) (ltb max32 (length d.removes))
    (or-either (any (λ e. ltb 65535 (length e.cell)) d.inserts) (ltb max32 (length d.inserts))
    (any_some (λ e. ltb 65535 (length e.cell)) (λ e. ltb-lt 65535 (length e.cell)) d.inserts) (ltb-lt max32 (length d.inserts)))
    (ltb-lt max32 (length d.removes))

module _ (m : Room) (s : State) (d : Delta) where
  present-test : (present s d ≡ true) ↔ IsPresent s d
  unfolding present
  present-test =
      or-either (any (λ e. elem e.hash (map (λ x. x.hash) s.entries)) d.inserts) (repeated (map (λ e. e.hash) d.inserts))
      (any_some (λ e. elem e.hash (map (λ x. x.hash) s.entries)) (λ e. elem-some (λ x. x.hash) e.hash s.entries) d.inserts)
      (repeated-two (λ e. e.hash) d.inserts)

  full-test : (full m s d ≡ true) ↔ IsFull m s d
  unfolding full
  full-test =
      or-either (ltb m.entries (length s.entries + length d.inserts)) (ltb m.cells (cell_bytes s.entries + cell_bytes d.inserts))
      (ltb-lt m.entries (length s.entries + length d.inserts)) (ltb-lt m.cells (cell_bytes s.entries + cell_bytes d.inserts))

  -- 14, too long
  pub delta-long : (apply_delta m s d ≡ refused TooLong) ↔ IsLong d
  unfolding apply_delta
  delta-long = ends-here (long-test d) (never_ends present-test (other-number (omega arith)) (never_ends full-test (other-number (omega arith)) taken_refused))

  -- 12, present
  pub delta-present : (apply_delta m s d ≡ refused Present) ↔ ((¬ IsLong d) × IsPresent s d)
  unfolding apply_delta
  delta-present = ends-later (long-test d) (other-number (omega arith)) (ends-here present-test (never_ends full-test (other-number (omega arith)) taken_refused))

  -- 13, nursery full
  pub delta-full : (apply_delta m s d ≡ refused NurseryFull) ↔ ((¬ IsLong d) × (¬ IsPresent s d) × IsFull m s d)
  unfolding apply_delta
  delta-full =
      flat-three
      (ends-later (long-test d) (other-number (omega arith)) (ends-later present-test (other-number (omega arith)) (ends-here full-test taken_refused)))

  -- taken: none of the three
  pub delta-accepted : (t : State) → (apply_delta m s d ≡ taken t) ↔ ((¬ IsLong d) × (¬ IsPresent s d) × (¬ IsFull m s d) × (t ≡ state_after d s))
  unfolding apply_delta
  delta-accepted t =
      flat-four
      (ends-later (long-test d) refused-taken (ends-later present-test refused-taken (ends-later full-test refused-taken (taken-same (state_after d s) t))))

  -- it is refused with no other number
  pub delta-numbers : Refuses (14 ∷ 12 ∷ 13 ∷ []) (apply_delta m s d)
  unfolding apply_delta
  delta-numbers =
      refuses-step TooLong (12 ∷ 13 ∷ []) (long-test d)
      (refuses-step Present (13 ∷ []) present-test (refuses-step NurseryFull [] full-test (refuses-none [] (state_after d s))))
