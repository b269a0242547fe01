-- Each way out of a delta's call.
-- Assumes nothing.
use Rattle.std.specs.Prelude.{◌≡◌, Bool, true, false, ◌||◌, ℕ, ◌+◌, ◌-◌, ◌*◌, ◌/◌, ◌≤◌, ◌<◌, min, length, ltb}
use Rattle.std.proofs.Math.Path.{sym}
use Rattle.std.proofs.Common.{ap, ◌∙◌, arith}
use mathlib.Core.List.{List, map}
use Rattle.base.specs.Logic.{any, elem, fold, repeated, max32}
use Rattle.base.specs.SumLaws.{or_left}
use Rattle.base.specs.declared.Refusal.{Refusal}
use Rattle.base.specs.declared.Refusal.TheVariants.{Present, NurseryFull, TooLong, Broken}
use Rattle.base.specs.Answers.{Refused}
use Rattle.rows.specs.Keys.{first_four, keys}
use Rattle.cell_nursery.specs.declared.Nursery.{Nursery}
use Rattle.cell_nursery.specs.Returned.{Committed}
use Rattle.cell_nursery.specs.Entries.{cell_bytes, insert, remove}
use Rattle.cell_nursery.specs.Delta.{too_long, present, full, state_after, apply_delta}
use Rattle.cell_nursery.specs.Layout.{room_of, state_of, holds}
use Rattle.cell_nursery.specs.Calls.{Changed, effect, laid, laid_out, on_state, length_width, delta_call}
use Rattle.cell_nursery.proofs.LayoutLaws.{number-entries, entries-keys, bytes_same}
use Rattle.cell_nursery.specs.Held.{Held}
use Rattle.delta_items.specs.Walk.{inserts_in, inserts_len, items_fit, delta_in, long_cell}
use Rattle.delta_items.specs.WalkLaws.{delta-whole, delta-none, fit-inserts, inserts-cells, length-inserts, too-long}
use Rattle.nursery_steps.specs.Steps.{left}

-- a refusal, and all as it was
abbrev pub refused_with : Refusal → Nursery → Committed
refused_with n r = record { answer = Refused n; nursery = r }

abbrev pub refused_as : Refusal → Nursery → List ℕ → List ℕ → List ℕ → Changed
refused_as n r es ws cs = effect (refused_with n r) es ws cs

width : (wide : Bool) → 0 < length_width wide
width true = omega arith
width false = omega arith

module _ (r : Nursery) (es ws cs : List ℕ) (wide : Bool) (n m : ℕ) (items : List ℕ) where
  pub commit-broken : holds r es ws cs ≡ false → refused_as Broken r es ws cs ≡ delta_call r es ws cs wide n m items
  unfolding delta_call on_state laid_out
  commit-broken e = rw e

  module _ (h : holds r es ws cs ≡ true) where
    pub commit-past : items_fit (length_width wide) n m items ≡ false → refused_as Broken r es ws cs ≡ delta_call r es ws cs wide n m items
    unfolding delta_call on_state laid_out
    commit-past f = rw (h, delta-none (length_width wide) n m items (width wide) f)

    module _ (f : items_fit (length_width wide) n m items ≡ true) where
      pub commit-long : too_long (delta_in (length_width wide) n m items) ≡ true → refused_as TooLong r es ws cs ≡ delta_call r es ws cs wide n m items
      unfolding delta_call on_state laid_out apply_delta
      commit-long t = rw (h, delta-whole (length_width wide) n m items f, t)

      module _ (t : too_long (delta_in (length_width wide) n m items) ≡ false) where
        pub commit-present : present (state_of r es ws cs) (delta_in (length_width wide) n m items) ≡ true → refused_as Present r es ws cs ≡ delta_call r es ws cs wide n m items
        unfolding delta_call on_state laid_out apply_delta
        commit-present p = rw (h, delta-whole (length_width wide) n m items f, t, p)

        module _ (p : present (state_of r es ws cs) (delta_in (length_width wide) n m items) ≡ false) where
          pub commit-full : full (room_of es ws cs) (state_of r es ws cs) (delta_in (length_width wide) n m items) ≡ true → refused_as NurseryFull r es ws cs ≡ delta_call r es ws cs wide n m items
          unfolding delta_call on_state laid_out apply_delta
          commit-full u = rw (h, delta-whole (length_width wide) n m items f, t, p, u)

          pub commit-taken : full (room_of es ws cs) (state_of r es ws cs) (delta_in (length_width wide) n m items) ≡ false → (q : Nursery) (es' ws' cs' : List ℕ)
              → left q es' ws' cs' ≡ laid r.delay es ws cs (fold remove (delta_in (length_width wide) n m items).removes (fold insert (delta_in (length_width wide) n m items).inserts (state_of r es ws cs))) → left q es' ws' cs' ≡ delta_call r es ws cs wide n m items
          unfolding delta_call on_state laid_out apply_delta state_after
          commit-taken u q es' ws' cs' e = e ∙ sym (rw (h, delta-whole (length_width wide) n m items f, t, p, u))

-- ---- the tests as the code makes them
module _ (r : Nursery) (es ws cs : List ℕ) (x : Held r es ws cs) (w n m : ℕ) (items : List ℕ) where
  pub present-same : (any (λ e. elem e.hash (keys first_four 8 r.entries es)) (inserts_in w n items) || repeated (map (λ e. e.hash) (inserts_in w n items)))
      ≡ present (state_of r es ws cs) (delta_in w n m items)
  unfolding present state_of delta_in
  present-same = sym (ap (λ (ks : List ℕ). any (λ e. elem e.hash ks) (inserts_in w n items) || repeated (map (λ e. e.hash) (inserts_in w n items))) (entries-keys r es cs x.entries))

  pub full-same : items_fit w n m items ≡ true → (at : ℕ) → at ≡ inserts_len w n items
      → (ltb (min (length es / 8) (length ws / 5)) (r.entries + n) || ltb (length cs) (r.cell_bytes + (at - n * (44 + w))))
      ≡ full (room_of es ws cs) (state_of r es ws cs) (delta_in w n m items)
  unfolding full room_of state_of delta_in
  full-same f at e =
      let c : at - n * (44 + w) ≡ cell_bytes (inserts_in w n items) = omega (arith, e, inserts-cells w n items (fit-inserts w n m items f)) in
      rw (c, number-entries r es cs, length-inserts w n items, bytes_same r es cs x.entries x.cells)

  pub short-cells : too_long (delta_in w n m items) ≡ false → long_cell (inserts_in w n items) ≡ false
  short-cells t = or_left _ _ (or_left (long_cell (inserts_in w n items) || ltb max32 n) _ (sym (too-long w n m items) ∙ t))

  pub heads-fit : items_fit w n m items ≡ true → (at : ℕ) → at ≡ inserts_len w n items → n * (44 + w) ≤ at
  heads-fit f at e = omega (arith, inserts-cells w n items (fit-inserts w n m items f))
