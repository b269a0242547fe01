-- The sums of a batch's records: record by record, and over the whole batch.
-- Assumes nothing.
use Rattle.std.specs.Prelude.{◌≡◌, Bool, ◌&&◌, ◌||◌, ℕ, ◌+◌, ◌≤◌, ◌<◌, ◌^◌, eqb, length, get_or}
use Rattle.std.proofs.Math.Path.{refl, ap}
use Rattle.std.proofs.Common.{sym, ◌∙◌, add-zero, arith, length-append}
use Rattle.std.proofs.Math.Bool.{true, false}
use mathlib.Core.List.{List, [], ◌∷◌, ◌++◌}
use Rattle.base.specs.Logic.{pick, any, elem, keep, repeated}
use Rattle.base.specs.ListLaws.{keep_append}
use Rattle.counters.specs.declared.Counters.{Counters}
use Rattle.counters.specs.declared.CounterMaintenance.{CounterMaintenance}
use Rattle.counters.specs.declared.CounterTransition.{CounterTransition}
use Rattle.counters.specs.Counts.{Entry}
use Rattle.counters.specs.Maintenance.{grown, grown_sets, falls, rises, clears, maintained}
use Rattle.counters.specs.Batch.{changes, birth, death, kept, named, unallocated, false_old}
use Rattle.counters.proofs.StepLaws.{counted, count-one, elem-named}
use Rattle.counters.proofs.EachLaws.{each_same, each_all}
use Rattle.counters.proofs.MaintenanceLaws.{grown-at}
use Rattle.counter_walk.specs.Held.{Sums}
use Rattle.counter_walk.specs.Walk.{sums_with}

-- the sums with some more transitions
unfoldable pub sums_of : ℕ → List Entry → List CounterTransition → Sums → Sums
sums_of next es ts a =
    record {
      unallocated = a.unallocated || any (unallocated next) (kept ts);
      false_old = a.false_old || any (false_old es) (kept ts);
      births = a.births + length (keep birth (kept ts));
      deaths = a.deaths + length (keep death (kept ts));
      rises = a.rises + length (keep rises (kept ts));
      falls = a.falls + length (keep falls (kept ts));
      maintenance = maintained (kept ts) a.maintenance;
    }

-- the sums before the first record
abbrev pub no_sums : Counters → Sums
no_sums c = record { unallocated = false; false_old = false; births = 0; deaths = 0; rises = 0; falls = 0; maintenance = c.maintenance }

-- ---- removal counts grow by transitions in any portions
pub grown-again : (r a b : ℕ) → grown (grown r a) b ≡ grown r (a + b)
unfolding grown
grown-again r a b = omega arith

module _ (xs ys : List CounterTransition) where
  count-append : (p : CounterTransition → Bool) → length (keep p xs) + length (keep p ys) ≡ length (keep p (xs ++ ys))
  count-append p = sym (ap length (keep_append p xs ys) ∙ length-append (keep p xs) (keep p ys))

  grown-append : (p : CounterTransition → Bool) (r : ℕ) → grown (grown r (length (keep p xs))) (length (keep p ys)) ≡ grown r (length (keep p (xs ++ ys)))
  grown-append p r = grown-again r (length (keep p xs)) (length (keep p ys)) ∙ ap (grown r) (count-append p)

  sets-append : (rs : List ℕ) → grown_sets ys (grown_sets xs rs) ≡ grown_sets (xs ++ ys) rs
  unfolding grown_sets
  sets-append rs =
      each_same (λ k. grown (get_or (grown_sets xs rs) k 0) (length (keep (clears k) ys))) (λ k. grown (get_or rs k 0) (length (keep (clears k) (xs ++ ys)))) 0 8 (λ k a b.
      ap (λ (n : ℕ). grown n (length (keep (clears k) ys))) (grown-at xs rs k (omega arith)) ∙ grown-append (clears k) (get_or rs k 0))

  pub maintained-append : (m : CounterMaintenance) → maintained ys (maintained xs m) ≡ maintained (xs ++ ys) m
  unfolding maintained
  maintained-append m = rw (grown-append falls m.alive_removed_since_shrink, sets-append m.small_removed_since_shrink)

-- counts of 64 bits are left as they are where nothing is removed
sets-settled : (rs : List ℕ) → length rs ≡ 8 → ((i : ℕ) → i < length rs → get_or rs i 0 < 2 ^ 64) → grown_sets [] rs ≡ rs
unfolding grown_sets grown keep
sets-settled rs e h = each_same (λ k. grown (get_or rs k 0) (length (keep (clears k) []))) (λ k. get_or rs k 0) 0 8 (λ k a b. omega (arith, h k (omega arith))) ∙ each_all 8 rs e

pub in-range : (m : CounterMaintenance) → m.alive_removed_since_shrink < 2 ^ 64 → length m.small_removed_since_shrink ≡ 8
    → ((i : ℕ) → i < length m.small_removed_since_shrink → get_or m.small_removed_since_shrink i 0 < 2 ^ 64) → maintained [] m ≡ m
unfolding maintained grown keep
in-range m h s k =
    let e : grown m.alive_removed_since_shrink 0 ≡ m.alive_removed_since_shrink = omega arith in
    rw (e, sets-settled m.small_removed_since_shrink s k)

-- ---- a transition and those after it
pub or_assoc : (a b c : Bool) → (a || (b || c)) ≡ ((a || b) || c)
or_assoc true b c = refl
or_assoc false b c = refl

pub or-none : (a : Bool) → (a || false) ≡ a
or-none true = refl
or-none false = refl

module _ (x : CounterTransition) (xs : List CounterTransition) where
  kept_cons : kept (x ∷ xs) ≡ kept (x ∷ []) ++ kept xs
  unfolding kept keep
  kept_cons = go (changes x)
    where
      go : (b : Bool) → pick b (x ∷ keep changes xs) (keep changes xs) ≡ pick b (x ∷ []) [] ++ keep changes xs
      go true = refl
      go false = refl

  pub any-cons : (p : CounterTransition → Bool) → any p (kept (x ∷ xs)) ≡ ((changes x && p x) || any p (kept xs))
  unfolding kept keep any
  any-cons p = go (changes x)
    where
      go : (b : Bool) → any p (pick b (x ∷ keep changes xs) (keep changes xs)) ≡ ((b && p x) || any p (keep changes xs))
      go true = refl
      go false = refl

  -- an index is named by it, or by those after it
  pub elem-cons : (i : ℕ) → elem i (named (kept (x ∷ xs))) ≡ ((changes x && eqb i x.idx.0) || elem i (named (kept xs)))
  elem-cons i = elem-named i (kept (x ∷ xs)) ∙ any-cons (λ t. eqb i t.idx.0) ∙ ap (λ (b : Bool). (changes x && eqb i x.idx.0) || b) (sym (elem-named i (kept xs)))

  -- an index stands twice: its own among those after it, or another
  pub twice-cons : repeated (named (kept (x ∷ xs))) ≡ ((changes x && elem x.idx.0 (named (kept xs))) || repeated (named (kept xs)))
  unfolding kept keep repeated
  twice-cons = go (changes x)
    where
      go : (b : Bool) → repeated (named (pick b (x ∷ keep changes xs) (keep changes xs))) ≡ ((b && elem x.idx.0 (named (keep changes xs))) || repeated (named (keep changes xs)))
      go true = refl
      go false = refl

  pub maintained-cons : (m : CounterMaintenance) → maintained (kept (x ∷ xs)) m ≡ maintained (kept xs) (maintained (kept (x ∷ [])) m)
  maintained-cons m = ap (λ (ts : List CounterTransition). maintained ts m) kept_cons ∙ sym (maintained-append (kept (x ∷ [])) (kept xs) m)

  count-cons : (p : CounterTransition → Bool) (n : ℕ) → n + length (keep p (kept (x ∷ xs))) ≡ n + pick (changes x && p x) 1 0 + length (keep p (kept xs))
  count-cons p n = omega (arith, counted x xs p)

  any-more : (p : CounterTransition → Bool) (b : Bool) → (b || any p (kept (x ∷ xs))) ≡ ((b || (changes x && p x)) || any p (kept xs))
  any-more p b = ap (λ (r : Bool). b || r) (any-cons p) ∙ or_assoc b (changes x && p x) (any p (kept xs))

  pub sums-cons : (next : ℕ) (es : List Entry) (a : Sums) → sums_of next es xs (sums_with next es x a) ≡ sums_of next es (x ∷ xs) a
  unfolding sums_of sums_with
  sums-cons next es a =
      rw (
        any-more (unallocated next) a.unallocated,
        any-more (false_old es) a.false_old,
        count-cons birth a.births,
        count-cons death a.deaths,
        count-cons rises a.rises,
        count-cons falls a.falls,
        maintained-cons a.maintenance,
      )

-- removal counts with one more record stay as they are where nothing more is removed
pub settled-with : (next : ℕ) (es : List Entry) (x : CounterTransition) (a : Sums) → maintained [] (sums_with next es x a).maintenance ≡ (sums_with next es x a).maintenance
unfolding sums_with kept keep
settled-with next es x a = sym (maintained-cons x [] a.maintenance)

-- tallies grow by at most 1
pub tallies-with : (next : ℕ) (es : List Entry) (x : CounterTransition) (a : Sums) (i : ℕ)
    → (a.births ≤ i) × (a.deaths ≤ i) × (a.rises ≤ i) × (a.falls ≤ i)
    → let b = sums_with next es x a in (b.births ≤ i + 1) × (b.deaths ≤ i + 1) × (b.rises ≤ i + 1) × (b.falls ≤ i + 1)
unfolding sums_with
tallies-with next es x a i h =
    omega (arith, count-one (changes x && birth x), count-one (changes x && death x), count-one (changes x && rises x), count-one (changes x && falls x))

-- no record is left
pub sums_none : (next : ℕ) (es : List Entry) (a : Sums) → maintained [] a.maintenance ≡ a.maintenance → sums_of next es [] a ≡ a
unfolding sums_of kept keep any
sums_none next es a h =
    rw (or-none a.unallocated, or-none a.false_old, add-zero a.births, add-zero a.deaths, add-zero a.rises, add-zero a.falls, h)

pub elem-none : (i : ℕ) → elem i (named (kept [])) ≡ false
unfolding kept keep any
elem-none i = refl
