-- The kept transitions that leave no row, and then those that leave one, applied to the table one after the other: each fits it.
-- Assumes nothing.
use Rattle.std.specs.Prelude.{◌≡◌, Bool, ◌&&◌, ℕ, ◌*◌, ◌≤◌, ◌<◌, leb, ltb, length}
use Rattle.std.proofs.Math.Path.{refl}
use Rattle.std.proofs.Common.{sym, ap, ◌∙◌, arith, le-leb, le-ltb, lt-ltb, leb-true, leb-false}
use Rattle.std.proofs.Math.Bool.{true, false}
use Rattle.std.proofs.lemmas.Bool.{false≢true, lt-leb}
use mathlib.Core.List.{List, [], ◌∷◌}
use Rattle.std.proofs.Math.Decide.{dec_lt}
use Rattle.base.specs.Logic.{pick, all, keep, fold, repeated}
use Rattle.base.specs.Laws.{and_left, and_right}
use Rattle.base.specs.ListLaws.{all-kept, split-order, fold-append}
use Rattle.counters.specs.declared.CounterTransition.{CounterTransition}
use Rattle.counters.specs.Counts.{Entry, set_count}
use Rattle.counters.specs.Batch.{changes, kept, named, counts_after}
use Rattle.counters.specs.Steps.{transition}
use Rattle.counters.proofs.ApplyLaws.{Ascends, set-ascends, set_more, set-less}
use Rattle.counters.proofs.BatchLaws.{counts_after-order}
use Rattle.counter_steps.specs.Steps.{leaves_row, pass_of, apply_one}

-- ---- many
pub after_more : (xs : List CounterTransition) (es : List Entry) → Ascends es → all (leaves_row true) xs ≡ true → length es ≤ length (counts_after xs es)
unfolding counts_after fold all
after_more [] es a h = omega arith
after_more (x ∷ xs) es a h =
    let i = x.idx.0 in
    let m = x.new_raw in
    let l = leb-true 2 m (and_left (leb 2 m) (all (leaves_row true) xs) h) in
    omega (arith, set_more i m es a l, after_more xs (set_count i m es) (set-ascends i m es a) (and_right (leb 2 m) (all (leaves_row true) xs) h))

few : (x : CounterTransition) → leaves_row false x ≡ true → x.new_raw < 2
few x h = go (leb 2 x.new_raw) refl h
  where
    go : (b : Bool) → leb 2 x.new_raw ≡ b → leaves_row false x ≡ true → x.new_raw < 2
    go true e h = absurd (false≢true (rw e at h))
    go false e h = leb-false 2 x.new_raw e

pub after_less : (xs : List CounterTransition) (es : List Entry) → Ascends es → all (leaves_row false) xs ≡ true → length (counts_after xs es) ≤ length es
unfolding counts_after fold all
after_less [] es a h = omega arith
after_less (x ∷ xs) es a h =
    let i = x.idx.0 in
    let m = x.new_raw in
    let l = few x (and_left (leaves_row false x) (all (leaves_row false) xs) h) in
    omega (arith, set-less i m es a l, after_less xs (set_count i m es) (set-ascends i m es a) (and_right (leaves_row false x) (all (leaves_row false) xs) h))

-- ---- a transition in its turn
pub pass_all : (many : Bool) (xs : List CounterTransition) → all (leaves_row many) (pass_of many xs) ≡ true
unfolding pass_of
pass_all many xs = all-kept (leaves_row many) (kept xs)

module _ (many : Bool) (x : CounterTransition) (xs : List CounterTransition) (es : List Entry) (a : Ascends es) where
  -- the others are applied to what it leaves
  pub turn : counts_after (pass_of many (x ∷ xs)) es ≡ counts_after (pass_of many xs) (apply_one many x es)
  unfolding pass_of kept keep counts_after fold apply_one
  turn = go (changes x)
    where
      go₂ : (b : Bool) → counts_after (pick b (x ∷ keep (leaves_row many) (keep changes xs)) (keep (leaves_row many) (keep changes xs))) es
          ≡ counts_after (keep (leaves_row many) (keep changes xs)) (pick b (set_count x.idx.0 x.new_raw es) es)
      go₂ true = refl
      go₂ false = refl

      go : (b : Bool) → counts_after (keep (leaves_row many) (pick b (x ∷ keep changes xs) (keep changes xs))) es
          ≡ counts_after (keep (leaves_row many) (keep changes xs)) (pick (b && leaves_row many x) (set_count x.idx.0 x.new_raw es) es)
      go true = go₂ (leaves_row many x)
      go false = refl

  pub one-ascends : Ascends (apply_one many x es)
  unfolding apply_one
  one-ascends = go (changes x && leaves_row many x)
    where
      go : (b : Bool) → Ascends (pick b (set_count x.idx.0 x.new_raw es) es)
      go true = set-ascends x.idx.0 x.new_raw es a
      go false = a

  -- it fits where the counts before and after all of them do
  pub one-fits : (len : ℕ) → length es * 2 ≤ len → length (counts_after (pass_of many (x ∷ xs)) es) * 2 ≤ len → length (apply_one many x es) * 2 ≤ len
  unfolding apply_one
  one-fits len h k = go (changes x && leaves_row many x) refl
    where
      set : List Entry
      set = set_count x.idx.0 x.new_raw es

      fits : (m : Bool) → leaves_row m x ≡ true → length (counts_after (pass_of m xs) set) * 2 ≤ len → length set * 2 ≤ len
      fits true l k = omega (arith, after_more (pass_of true xs) set (set-ascends x.idx.0 x.new_raw es a) (pass_all true xs))
      fits false l k = omega (arith, set-less x.idx.0 x.new_raw es a (few x l))

      go : (b : Bool) → (changes x && leaves_row many x) ≡ b → length (pick b set es) * 2 ≤ len
      go true e =
          let q : counts_after (pass_of many (x ∷ xs)) es ≡ counts_after (pass_of many xs) set =
          turn ∙ ap (λ (b : Bool). counts_after (pass_of many xs) (pick b set es)) e in
          fits many (and_right (changes x) (leaves_row many x) e) (rw q at k)
      go false e = h

-- whether it is due: it leaves a row, or none
pub leaves-many : (i old new : ℕ) → leb 2 new ≡ leaves_row true (transition i old new)
leaves-many i old new = refl

pub leaves-few : (i old new : ℕ) → ltb new 2 ≡ leaves_row false (transition i old new)
leaves-few i old new =
    elim (dec_lt new 2) [
      | yes h ↦ rw (lt-ltb new 2 h, lt-leb 2 new h)
      | no h ↦ rw (le-ltb new 2 (omega arith), le-leb 2 new (omega arith))
    ]

-- ---- what applying one leaves, by whether it is due
module _ (many : Bool) (x : CounterTransition) (es : List Entry) where
  pub one-due : (changes x && leaves_row many x) ≡ true → apply_one many x es ≡ set_count x.idx.0 x.new_raw es
  unfolding apply_one
  one-due e = rw e

  pub one-other : (changes x && leaves_row many x) ≡ false → apply_one many x es ≡ es
  unfolding apply_one
  one-other e = rw e

-- no transition is left
pub pass-none : (many : Bool) (es : List Entry) → counts_after (pass_of many []) es ≡ es
unfolding pass_of kept keep counts_after fold
pass-none many es = refl

-- ---- first those that leave no row, then those that leave one: together they are the batch
pub two-passes : (ts : List CounterTransition) (es : List Entry) → repeated (named (kept ts)) ≡ false
    → counts_after (pass_of true ts) (counts_after (pass_of false ts) es) ≡ counts_after (kept ts) es
unfolding pass_of counts_after
two-passes ts es once =
    sym (counts_after-order (split-order (leaves_row true) (kept ts)) es once
    ∙ fold-append (λ t. set_count t.idx.0 t.new_raw) (keep (leaves_row false) (kept ts)) (keep (leaves_row true) (kept ts)) es)
