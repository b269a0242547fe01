-- Rows that come, laid aside and joined, are the counts after the transitions that leave a row.
-- Assumes nothing.
use Rattle.std.specs.Prelude.{◌≡◌, Bool, ◌&&◌, ℕ, suc, ◌+◌, ◌≤◌, leb, eqb, length}
use Rattle.std.proofs.Math.Path.{refl, sym, ap}
use Rattle.std.proofs.Common.{◌∙◌, le-leb, leb-true, eqb-true}
use Rattle.std.proofs.Math.Bool.{true, false, not}
use Rattle.std.proofs.lemmas.Bool.{false≢true}
use mathlib.Core.List.{List, [], ◌∷◌, map}
use native.Mathlib.Omega.{arith}
use Rattle.base.specs.Logic.{pick, all, elem, fold, ascending_from}
use Rattle.base.specs.Laws.{and_right}
use Rattle.base.specs.ListLaws.{all_weaker, length-keep}
use Rattle.rows.proofs.RowLaws.{all-put, length-put}
use Rattle.rows.proofs.KeyLaws.{put_rows}
use Rattle.counters.specs.declared.CounterTransition.{CounterTransition}
use Rattle.counters.specs.Counts.{Entry, row_of, set_count}
use Rattle.counters.proofs.CountLaws.{length-row_of}
use Rattle.counters.specs.Batch.{changes, counts_after}
use Rattle.counter_steps.specs.Steps.{leaves_row, pass_of, apply_one}
use Rattle.counters.proofs.ApplyLaws.{set-ascends}
use Rattle.counter_steps.specs.PassLaws.{turn, pass-none}
use Rattle.counter_merge.specs.Passes.{replaced, lands, front_one, fronts, is_new, new_rows, back_one, backs, joined, comes}
use Rattle.counter_merge.specs.MarkLaws.{replaced-indices, replaced-none, set-replaced-rows}
use Rattle.counter_merge.specs.JoinLaws.{join-past, join-into, join-none}

abbrev index : Entry → ℕ
index e = e.idx

abbrev Ascends : List Entry → Type 0
Ascends es = ascending_from 0 (map index es) ≡ true

-- ---- a row that comes
row-comes : (ks : List ℕ) (i m : ℕ) → 2 ≤ m → elem i ks ≡ false → all (comes ks) (row_of i m) ≡ true
unfolding row_of all
row-comes ks i m h e = rw (le-leb 2 m h, le-leb 2 m h, e)

-- it has none of the indices
pub comes-other : (ks : List ℕ) (i : ℕ) → elem i ks ≡ true → (e : Entry) → comes ks e ≡ true → not (eqb e.idx i) ≡ true
comes-other ks i h e p = go (eqb e.idx i) refl
  where
    go : (b : Bool) → eqb e.idx i ≡ b → not b ≡ true
    go true q =
        absurd (false≢true (sym (ap not (ap (λ (k : ℕ). elem k ks) (eqb-true e.idx i q) ∙ h)) ∙ and_right (leb 2 e.count) (not (elem e.idx ks)) p))
    go false q = refl

-- ---- one transition
module _ (x : CounterTransition) where
  abbrev i : ℕ
  i = x.idx.0

  abbrev m : ℕ
  m = x.new_raw

  -- the indices of the rows that were there stay
  pub front-indices : (es : List Entry) → map index (front_one x es) ≡ map index es
  unfolding front_one
  front-indices es = go (lands x)
    where
      go : (b : Bool) → map index (pick b (replaced i m es) es) ≡ map index es
      go true = replaced-indices i m es
      go false = refl

  module _ (ks : List ℕ) where
    -- one row more at most
    pub back-length : (ns : List Entry) → length (back_one ks x ns) ≤ length ns + pick (is_new ks x) 1 0
    unfolding back_one set_count put_rows
    back-length ns = go (lands x && not (elem i ks))
      where
        one : (b : Bool) → pick b 1 0 ≤ 1
        one true = omega arith
        one false = omega arith

        go : (b : Bool) → length (pick b (put_rows index i (suc i) (row_of i m) ns) ns) ≤ length ns + pick b 1 0
        go true = omega (arith, length-put index i (row_of i m) ns, length-row_of i m, one (leb 2 m))
        go false = omega arith

    pub back-ascends : (ns : List Entry) → Ascends ns → Ascends (back_one ks x ns)
    unfolding back_one
    back-ascends ns a = go (lands x && not (elem i ks))
      where
        go : (b : Bool) → Ascends (pick b (set_count i m ns) ns)
        go true = set-ascends i m ns a
        go false = a

    pub back-comes : (ns : List Entry) → all (comes ks) ns ≡ true → all (comes ks) (back_one ks x ns) ≡ true
    unfolding back_one set_count put_rows
    back-comes ns c = go (lands x) (elem i ks) refl refl
      where
        go : (b d : Bool) → lands x ≡ b → elem i ks ≡ d → all (comes ks) (pick (b && not d) (put_rows index i (suc i) (row_of i m) ns) ns) ≡ true
        go true true l e = c
        go true false l e =
            all-put index i (suc i) (row_of i m) ns (comes ks) c (row-comes ks i m (leb-true 2 m (and_right (changes x) (leb 2 m) l)) e)
        go false d l e = c

    -- set among all of them, or laid aside, or replaced: the same
    pub join_one : (ns es : List Entry) → Ascends ns → Ascends es → map index es ≡ ks → all (comes ks) ns ≡ true
        → joined (back_one ks x ns) (front_one x es) ≡ apply_one true x (joined ns es)
    unfolding back_one front_one apply_one
    join_one ns es a b q c = go (lands x) (elem i ks) refl refl
      where
        go : (d f : Bool) → lands x ≡ d → elem i ks ≡ f
            → joined (pick (d && not f) (set_count i m ns) ns) (pick d (replaced i m es) es) ≡ pick d (set_count i m (joined ns es)) (joined ns es)
        go true true l e =
            ap (joined ns) (set-replaced-rows i m (leb-true 2 m (and_right (changes x) (leb 2 m) l)) es b (ap (elem i) q ∙ e))
            ∙ sym (join-past i m ns es (all_weaker (λ y. not (eqb y.idx i)) (comes ks) (comes-other ks i e) ns c))
        go true false l e =
            ap (joined (set_count i m ns)) (replaced-none i m es (ap (elem i) q ∙ e))
            ∙ sym (join-into i m (leb-true 2 m (and_right (changes x) (leb 2 m) l)) ns es a)
        go false f l e = refl

-- ---- all of them
pub fronts-indices : (xs : List CounterTransition) (es : List Entry) → map index (fronts xs es) ≡ map index es
unfolding fronts fold
fronts-indices [] es = refl
fronts-indices (x ∷ xs) es = fronts-indices xs (front_one x es) ∙ front-indices x es

pub backs-ascend : (ks : List ℕ) (xs : List CounterTransition) (ns : List Entry) → Ascends ns → Ascends (backs ks xs ns)
unfolding backs fold
backs-ascend ks [] ns a = a
backs-ascend ks (x ∷ xs) ns a = backs-ascend ks xs (back_one ks x ns) (back-ascends x ks ns a)

pub backs-come : (ks : List ℕ) (xs : List CounterTransition) (ns : List Entry) → all (comes ks) ns ≡ true → all (comes ks) (backs ks xs ns) ≡ true
unfolding backs fold
backs-come ks [] ns c = c
backs-come ks (x ∷ xs) ns c = backs-come ks xs (back_one ks x ns) (back-comes x ks ns c)

pub backs-length : (ks : List ℕ) (xs : List CounterTransition) (ns : List Entry) → length (backs ks xs ns) ≤ length ns + new_rows ks xs
unfolding backs fold
backs-length ks [] ns = omega arith
backs-length ks (x ∷ xs) ns = omega (arith, backs-length ks xs (back_one ks x ns), back-length x ks ns, length-keep (is_new ks) x xs)

one-ascends-too : (x : CounterTransition) (es : List Entry) → Ascends es → Ascends (apply_one true x es)
unfolding apply_one
one-ascends-too x es a = go (changes x && leaves_row true x)
  where
    go : (b : Bool) → Ascends (pick b (set_count x.idx.0 x.new_raw es) es)
    go true = set-ascends x.idx.0 x.new_raw es a
    go false = a

joined-all : (ks : List ℕ) (xs : List CounterTransition) (ns es : List Entry) → Ascends ns → Ascends es → map index es ≡ ks → all (comes ks) ns ≡ true
    → Ascends (joined ns es) → joined (backs ks xs ns) (fronts xs es) ≡ counts_after (pass_of true xs) (joined ns es)
unfolding backs fronts fold
joined-all ks [] ns es a b q c j = sym (pass-none true (joined ns es))
joined-all ks (x ∷ xs) ns es a b q c j =
    let one = join_one x ks ns es a b q c in
    joined-all ks xs (back_one ks x ns) (front_one x es) (back-ascends x ks ns a) (ap (ascending_from 0) (front-indices x es) ∙ b) (front-indices x es ∙ q) (back-comes x ks ns c)
    (ap (λ (l : List Entry). ascending_from 0 (map index l)) one ∙ one-ascends-too x (joined ns es) j)
    ∙ ap (counts_after (pass_of true xs)) one ∙ sym (turn true x xs (joined ns es) j)

pub joined-after : (xs : List CounterTransition) (es : List Entry) → Ascends es
    → joined (backs (map index es) xs []) (fronts xs es) ≡ counts_after (pass_of true xs) es
unfolding all ascending_from
joined-after xs es a =
    joined-all (map index es) xs [] es refl a refl refl (ap (λ (l : List Entry). ascending_from 0 (map index l)) (join-none es) ∙ a)
    ∙ ap (counts_after (pass_of true xs)) (join-none es)
