-- The transitions of lent words as a loop meets them, one after the other.
-- Assumes nothing.
use Rattle.std.specs.Prelude.{◌≡◌, Bool, not, ◌&&◌, ◌||◌, List, [], ◌∷◌, ℕ, suc, ◌+◌, ◌-◌, ◌*◌, ◌/◌, ◌^◌, ◌≤◌, ◌<◌, ltb, eqb, drop}
use Rattle.std.proofs.Math.Path.{refl}
use Rattle.std.proofs.Common.{ap, ◌∙◌, get_or-drop}
use Rattle.std.proofs.Math.Bool.{true, false}
use Rattle.std.proofs.lemmas.Bool.{false≢true}
use native.Mathlib.Omega.{arith}
use borrow.Author.Tests.{le-ltb, lt-ltb, ltb-false, eq-eqb, ne_eqb}
use Rattle.std.proofs.Math.ListN.{length}
use Rattle.std.proofs.Math.Seq.{drop-length}
use Rattle.base.specs.Logic.{pick, any, elem, keep, repeated, max64}
use Rattle.base.specs.ListLaws.{length-keep, or-false}
use Rattle.rows.proofs.TableLaws.{length-rows_of, drop-row, rows_fit}
use Rattle.counters.specs.declared.CounterTransition.{CounterTransition}
use Rattle.counters.specs.Layout.{transition_row}
use Rattle.counters.specs.Counts.{Entry, stored_at}
use Rattle.counters.specs.Batch.{changes, kept, named, false_old}
use Rattle.counters.specs.Steps.{transition, transition_at, transitions}

-- the words of transition i lie in the batch
pub in-batch : (ws : List ℕ) (i : ℕ) → i < length ws / 3 → i * 3 + 3 ≤ length ws
in-batch ws i h = omega (arith, rows_fit 3 (suc i) ws (omega arith) h)

pub from-transition : (ws : List ℕ) (i : ℕ) → i < length ws / 3 → drop i (transitions ws) ≡ transition_at ws i ∷ drop (suc i) (transitions ws)
from-transition ws i h =
    let q : i * 3 + 0 ≡ i * 3 = omega arith in
    let e : transition_row.dec (drop (i * 3) ws) ≡ transition_at ws i =
    rw (get_or-drop (i * 3) ws 0 0, get_or-drop (i * 3) ws 1 0, get_or-drop (i * 3) ws 2 0, q) in
    drop-row transition_row (length ws / 3) ws i h ∙ ap (λ (x : CounterTransition). x ∷ drop (suc i) (transitions ws)) e

pub no-transition : (ws : List ℕ) (i : ℕ) → length ws / 3 ≤ i → i ≤ length ws / 3 → drop i (transitions ws) ≡ []
no-transition ws i h k =
    let e : i ≡ length (transitions ws) = omega (arith, length-rows_of transition_row (length ws / 3) ws) in
    rw e (drop-length (transitions ws))

-- ---- a transition is passed, or it decides
module _ (x : CounterTransition) (xs : List CounterTransition) where
  module _ (p : CounterTransition → Bool) where
    pub any-passed : (changes x && p x) ≡ false → any p (kept (x ∷ xs)) ≡ any p (kept xs)
    unfolding kept keep any
    any-passed e = go (changes x) e
      where
        go : (a : Bool) → (a && p x) ≡ false → any p (pick a (x ∷ keep changes xs) (keep changes xs)) ≡ any p (keep changes xs)
        go true e = rw e
        go false e = refl

    pub any-decided : (changes x && p x) ≡ true → any p (kept (x ∷ xs)) ≡ true
    unfolding kept keep any
    any-decided e = go (changes x) e
      where
        go : (a : Bool) → (a && p x) ≡ true → any p (pick a (x ∷ keep changes xs) (keep changes xs)) ≡ true
        go true e = rw e
        go false e = absurd (false≢true e)

    pub counted : length (keep p (kept (x ∷ xs))) ≡ pick (changes x && p x) 1 0 + length (keep p (kept xs))
    unfolding kept keep
    counted = go (changes x)
      where
        go : (a : Bool) → length (keep p (pick a (x ∷ keep changes xs) (keep changes xs))) ≡ pick (a && p x) 1 0 + length (keep p (keep changes xs))
        go true = length-keep p x (keep changes xs)
        go false = omega arith

  pub once-passed : (changes x && elem x.idx.0 (named (kept xs))) ≡ false → repeated (named (kept (x ∷ xs))) ≡ repeated (named (kept xs))
  unfolding kept keep repeated
  once-passed e = go (changes x) e
    where
      go : (a : Bool) → (a && elem x.idx.0 (named (keep changes xs))) ≡ false → repeated (named (pick a (x ∷ keep changes xs) (keep changes xs))) ≡ repeated (named (keep changes xs))
      go true e = rw e
      go false e = refl

  pub twice-decided : (changes x && elem x.idx.0 (named (kept xs))) ≡ true → repeated (named (kept (x ∷ xs))) ≡ true
  unfolding kept keep repeated
  twice-decided e = go (changes x) e
    where
      go : (a : Bool) → (a && elem x.idx.0 (named (keep changes xs))) ≡ true → repeated (named (pick a (x ∷ keep changes xs) (keep changes xs))) ≡ true
      go true e = rw e
      go false e = absurd (false≢true e)

-- an index is named exactly where a transition names it
pub elem-named : (i : ℕ) (xs : List CounterTransition) → elem i (named xs) ≡ any (λ t. eqb i t.idx.0) xs
unfolding any
elem-named i [] = refl
elem-named i (x ∷ xs) = ap (λ (b : Bool). eqb i x.idx.0 || b) (elem-named i xs)

-- no transition is left
pub any_none : (p : CounterTransition → Bool) → any p (kept []) ≡ false
unfolding kept keep any
any_none p = refl

pub count_none : (p : CounterTransition → Bool) → length (keep p (kept [])) ≡ 0
unfolding kept keep
count_none p = refl

pub once-none : repeated (named (kept [])) ≡ false
unfolding kept keep repeated
once-none = refl

-- ---- what is asked of a kept transition alone
module _ (i old new : ℕ) (b : Bool) where
  pub unchanged : old ≡ new → false ≡ (changes (transition i old new) && b)
  unchanged e = rw (eq-eqb old new e)

  pub changed : (old ≡ new → ⊥) → b ≡ (changes (transition i old new) && b)
  changed h = rw (ne_eqb old new h)

-- ---- the old count against the stored one
module _ (es : List Entry) (i old new : ℕ) where
  pub false-old-none : stored_at i es ≡ 0 → ltb 1 old ≡ false_old es (transition i old new)
  unfolding false_old
  false-old-none e = rw (eq-eqb (stored_at i es) 0 e)

  pub false-old-stored : (n : ℕ) → n ≡ stored_at i es → (n ≡ 0 → ⊥) → not (eqb old n) ≡ false_old es (transition i old new)
  unfolding false_old
  false-old-stored n e h = rw (← e, ne_eqb n 0 h)

-- a test counts as 1 or 0
pub count-one : (b : Bool) → pick {A = ℕ} b 1 0 ≤ 1
count-one true = omega arith
count-one false = omega arith

-- ---- the live total
module _ (live births deaths : ℕ) where
  pub total-over : 2 ^ 64 - 1 - live < births → true ≡ (ltb max64 (live + births) || ltb (live + births) deaths)
  total-over h = rw (lt-ltb max64 (live + births) (omega arith))

  pub total-fits : births ≤ 2 ^ 64 - 1 - live → live ≤ 2 ^ 64 - 1 → ltb (live + births) deaths ≡ (ltb max64 (live + births) || ltb (live + births) deaths)
  total-fits h k = rw (le-ltb max64 (live + births) (omega arith))

  -- on total: what is left is a number of 64 bits
  pub total_left : (ltb max64 (live + births) || ltb (live + births) deaths) ≡ false → (live + births < 2 ^ 64) × (deaths ≤ live + births)
  total_left e =
      let f = or-false (ltb max64 (live + births)) (ltb (live + births) deaths) e in
      (omega (arith, ltb-false max64 (live + births) f.0), ltb-false (live + births) deaths f.1)
