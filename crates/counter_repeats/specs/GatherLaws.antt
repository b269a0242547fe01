-- The indices that a batch's kept transitions name, taken out of its words one after the other.
-- Assumes nothing.
use Rattle.std.specs.Prelude.{◌≡◌, refl, true, false, ℕ, suc, ◌+◌, ◌/◌, ◌≤◌, ◌<◌, set}
use Rattle.std.proofs.Math.Path.{sym, ap}
use Rattle.std.proofs.Common.{◌∙◌, arith, add-one, eq-eqb, ne_eqb, length-set, take-append-drop, take-suc-set, drop-set-lt, length-take-le}
use mathlib.Core.List.{List, [], ◌∷◌, ◌++◌, append-nil}
use Rattle.std.proofs.Math.ListN.{length, take, drop}
use Rattle.std.proofs.Math.Seq.{append_snoc}
use Rattle.base.specs.Logic.{keep, overlay}
use Rattle.slices.specs.Laws.{drop-same}
use Rattle.counters.specs.declared.CounterTransition.{CounterTransition}
use Rattle.counters.specs.Batch.{changes, kept, named}
use Rattle.counters.specs.Steps.{transition_at, transitions}
use Rattle.counters.proofs.StepLaws.{no-transition}
use Rattle.lent_batches.proofs.LentLaws.{met}

-- a transition names its index if it is kept
module _ (x : CounterTransition) (xs : List CounterTransition) where
  named-kept : changes x ≡ true → named (kept (x ∷ xs)) ≡ x.idx.0 ∷ named (kept xs)
  unfolding kept keep
  named-kept e = rw e

  named-dropped : changes x ≡ false → named (kept (x ∷ xs)) ≡ named (kept xs)
  unfolding kept keep
  named-dropped e = rw e

named_none : named (kept []) ≡ []
unfolding kept keep
named_none = refl

-- of i transitions of the words b, the k indices that they name stand at the front of s, which was t before
pub record Gathered (t b s : List ℕ) (k i : ℕ) : Type 0 where
  pub some : k ≤ i
  pub within : i ≤ length b / 3
  pub long : length s ≡ length t
  pub rest : drop k s ≡ drop k t
  pub front : take k s ++ named (kept (drop i (transitions b))) ≡ named (kept (transitions b))

pub gathered-as : (t b s u : List ℕ) (k j i : ℕ) → u ≡ s → j ≡ k → Gathered t b s k i → Gathered t b u j i
gathered-as t b s u k j i e f g = rw (e, f) g

module _ (t b : List ℕ) (room : length b / 3 ≤ length t) where
  pub gather-start : Gathered t b t 0 0
  gather-start = record { some = omega arith; within = omega arith; long = refl; rest = refl; front = refl }

  module _ (s : List ℕ) (k i : ℕ) (g : Gathered t b s k i) where
    pub gather-kept : (x : CounterTransition) → x ≡ transition_at b i → i < length b / 3 → (x.old_raw ≡ x.new_raw → ⊥) → Gathered t b (set s k x.idx.0) (k + 1) (i + 1)
    gather-kept x is h d =
        let v = x.idx.0 in
        let c : changes x ≡ true = rw (ne_eqb x.old_raw x.new_raw d) in
        let r = named (kept (drop (suc i) (transitions b))) in
        let e : named (kept (drop i (transitions b))) ≡ v ∷ r = rw (met b i x is h) (named-kept x (drop (suc i) (transitions b)) c) in
        record {
          some = omega arith;
          within = omega arith;
          long = length-set s k v ∙ g.long;
          rest = drop-set-lt (k + 1) s k v (omega arith) ∙ drop-same s t k (k + 1) g.rest (omega arith);
          front =
              rw (add-one k, add-one i)
              (ap (λ (l : List ℕ). l ++ r) (take-suc-set s k v (omega (arith, g.long, g.some)))
              ∙ append_snoc (take k s) v r
              ∙ ap (λ (l : List ℕ). take k s ++ l) (sym e)
              ∙ g.front);
        }

    pub gather-dropped : (x : CounterTransition) → x ≡ transition_at b i → i < length b / 3 → x.old_raw ≡ x.new_raw → Gathered t b s k (i + 1)
    gather-dropped x is h d =
        let c : changes x ≡ false = rw (eq-eqb x.old_raw x.new_raw d) in
        let e : named (kept (drop i (transitions b))) ≡ named (kept (drop (suc i) (transitions b))) =
        rw (met b i x is h) (named-dropped x (drop (suc i) (transitions b)) c) in
        record {
          some = omega (arith, g.some);
          within = omega arith;
          long = g.long;
          rest = g.rest;
          front = rw (add-one i) (ap (λ (l : List ℕ). take k s ++ l) (sym e) ∙ g.front);
        }

    pub gather-end : length b / 3 ≤ i → (k ≡ length (named (kept (transitions b)))) × (s ≡ overlay (named (kept (transitions b))) t)
    unfolding overlay
    gather-end h =
        let xs = named (kept (transitions b)) in
        let e : take k s ≡ xs =
        sym (append-nil (take k s))
        ∙ ap (λ (l : List ℕ). take k s ++ l) (sym named_none ∙ ap (λ (l : List CounterTransition). named (kept l)) (sym (no-transition b i h g.within)))
        ∙ g.front in
        let f : k ≡ length xs = sym (length-take-le k s (omega (arith, g.some, g.within, g.long))) ∙ ap (λ (l : List ℕ). length l) e in (
          f,
          sym (take-append-drop k s)
              ∙ ap (λ (l : List ℕ). l ++ drop k s) e
              ∙ ap (λ (l : List ℕ). xs ++ l) (g.rest ∙ ap (λ (j : ℕ). drop j t) f),
        )
