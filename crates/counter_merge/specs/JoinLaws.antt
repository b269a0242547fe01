-- Rows that come: counts set among others one by one, in any order, are the rows of both by ascending index.
-- Assumes nothing.
use Rattle.std.specs.Prelude.{◌≡◌, Bool, ℕ, suc, ◌≤◌, ◌<◌, leb, ltb}
use Rattle.std.proofs.Math.Path.{refl, sym, ap}
use Rattle.std.proofs.Common.{◌∙◌, arith, le-leb, le-ltb, lt-ltb, eq-eqb, ne_eqb, eqb-true, leb-true, ltb-true}
use Rattle.std.proofs.Math.Bool.{true, false, not}
use Rattle.std.proofs.lemmas.Bool.{false≢true, lt-leb}
use mathlib.Core.List.{List, [], ◌∷◌, ◌++◌, map, append_assoc, append-nil}
use Rattle.std.proofs.Math.Dec.{eqb}
use Rattle.base.specs.Logic.{pick, all, keep, fold, ascending_from}
use Rattle.base.specs.Laws.{and_both, ascending-head, ascending-tail, ascending-sorted}
use Rattle.base.specs.ListLaws.{all_head, all_tail, all-kept, all_weaker, keep_append, keep-whole, keep-empty, fold-append}
use Rattle.rows.proofs.RowLaws.{all-put, keep-others}
use Rattle.rows.proofs.KeyLaws.{put_rows}
use Rattle.counters.specs.Counts.{Entry, row_of, set_count}
use Rattle.counters.proofs.CountLaws.{set_count-again, set_count-swap}
use Rattle.counter_merge.specs.Passes.{joined}

abbrev index : Entry → ℕ
index e = e.idx

-- none of the rows has the index
abbrev Lacks : ℕ → List Entry → Type 0
Lacks i es = all (λ e. not (eqb e.idx i)) es ≡ true

pub unlike : (a b : ℕ) → not (eqb a b) ≡ true → a ≡ b → ⊥
unlike a b h q = absurd (false≢true (rw (eq-eqb a b q) at h))

-- ---- a count set after others
module _ (i m : ℕ) where
  -- it may be set before those of other indices
  pub join-past : (ns es : List Entry) → Lacks i ns → set_count i m (joined ns es) ≡ joined ns (set_count i m es)
  unfolding joined fold
  join-past [] es h = refl
  join-past (x ∷ ns) es h =
      let ne = unlike x.idx i (all_head (λ e. not (eqb e.idx i)) x ns h) in
      join-past ns (set_count x.idx x.count es) (all_tail (λ e. not (eqb e.idx i)) x ns h)
      ∙ ap (joined ns) (set_count-swap x.idx x.count i m es ne)

  -- those of its own index may as well be left out
  join-others : (ns es : List Entry) → set_count i m (joined ns es) ≡ set_count i m (joined (keep (λ e. not (eqb e.idx i)) ns) es)
  unfolding joined fold keep
  join-others [] es = refl
  join-others (x ∷ ns) es = join-others ns (set_count x.idx x.count es) ∙ go (eqb x.idx i) refl
    where
      go : (b : Bool) → eqb x.idx i ≡ b
          → set_count i m (joined (keep (λ e. not (eqb e.idx i)) ns) (set_count x.idx x.count es))
          ≡ set_count i m (joined (pick (not b) (x ∷ keep (λ e. not (eqb e.idx i)) ns) (keep (λ e. not (eqb e.idx i)) ns)) es)
      go true q =
          let o = all-kept (λ e. not (eqb e.idx i)) ns in
          join-past (keep (λ e. not (eqb e.idx i)) ns) (set_count x.idx x.count es) o
          ∙ ap (joined (keep (λ e. not (eqb e.idx i)) ns))
          (ap (λ (k : ℕ). set_count i m (set_count k x.count es)) (eqb-true x.idx i q) ∙ set_count-again i x.count m es)
          ∙ sym (join-past (keep (λ e. not (eqb e.idx i)) ns) es o)
      go false q = refl

  above : (ns : List Entry) → Lacks i (keep (λ e. leb (suc i) e.idx) ns)
  above ns =
      all_weaker (λ e. not (eqb e.idx i)) (λ e. leb (suc i) e.idx) (λ e h. ap not (ne_eqb e.idx i (omega (arith, leb-true (suc i) e.idx h))))
      (keep (λ e. leb (suc i) e.idx) ns) (all-kept (λ e. leb (suc i) e.idx) ns)

-- the two parts of putting a row
unput : (i : ℕ) (ns : List Entry) → ascending_from 0 (map index ns) ≡ true
    → keep (λ e. not (eqb e.idx i)) ns ≡ keep (λ e. ltb e.idx i) ns ++ keep (λ e. leb (suc i) e.idx) ns
unfolding put_rows
unput i ns a = keep-others index i 0 ns (ascending-sorted 0 (map index ns) a)

put_one : (i m : ℕ) (ns : List Entry) → 2 ≤ m → keep (λ e. ltb e.idx i) ns ++ (record { idx = i; count = m } ∷ keep (λ e. leb (suc i) e.idx) ns) ≡ set_count i m ns
unfolding set_count row_of put_rows
put_one i m ns h = rw (le-leb 2 m h)

-- counts set one after the other
join-append : (xs ys es : List Entry) → joined (xs ++ ys) es ≡ joined ys (joined xs es)
unfolding joined
join-append xs ys es = fold-append (λ e. set_count e.idx e.count) xs ys es

join-cons : (x : Entry) (xs es : List Entry) → joined (x ∷ xs) es ≡ joined xs (set_count x.idx x.count es)
unfolding joined fold
join-cons x xs es = refl

pub join-none : (es : List Entry) → joined [] es ≡ es
unfolding joined fold
join-none es = refl

-- it may be set among them before they are
pub join-into : (i m : ℕ) → 2 ≤ m → (ns es : List Entry) → ascending_from 0 (map index ns) ≡ true → set_count i m (joined ns es) ≡ joined (set_count i m ns) es
join-into i m h ns es a =
    let low : List Entry = keep (λ e. ltb e.idx i) ns in
    let high : List Entry = keep (λ e. leb (suc i) e.idx) ns in
    join-others i m ns es ∙ ap (λ (l : List Entry). set_count i m (joined l es)) (unput i ns a)
    ∙ ap (set_count i m) (join-append low high es)
    ∙ join-past i m high (joined low es) (above i m ns)
    ∙ sym (join-append low (record { idx = i; count = m } ∷ high) es ∙ join-cons (record { idx = i; count = m }) high (joined low es))
    ∙ ap (λ (l : List Entry). joined l es) (put_one i m ns h)

-- ---- a row set behind all others, and behind all but the last
abbrev pub under : ℕ → List Entry → Type 0
under b es = all (λ e. ltb e.idx b) es ≡ true

set_last : (x : Entry) (es : List Entry) → 2 ≤ x.count → under x.idx es → set_count x.idx x.count es ≡ es ++ (x ∷ [])
unfolding set_count row_of put_rows
set_last x es h u =
    rw (
      le-leb 2 x.count h,
      keep-whole (λ e. ltb e.idx x.idx) (λ e. ltb e.idx x.idx) (λ e p. p) es u,
      keep-empty (λ e. leb (suc x.idx) e.idx) (λ e. ltb e.idx x.idx) (λ e p. lt-leb (suc x.idx) e.idx (omega (arith, ltb-true e.idx x.idx p))) es u,
    )

keep_one : (p : Entry → Bool) (e : Entry) → p e ≡ true → keep p (e ∷ []) ≡ e ∷ []
unfolding keep
keep_one p e h = rw h

keep-no : (p : Entry → Bool) (e : Entry) → p e ≡ false → keep p (e ∷ []) ≡ []
unfolding keep
keep-no p e h = rw h

set_before : (i m : ℕ) (e : Entry) (es : List Entry) → i < e.idx → set_count i m (es ++ (e ∷ [])) ≡ set_count i m es ++ (e ∷ [])
unfolding set_count put_rows
set_before i m e es h =
    let low : List Entry = keep (λ x. ltb x.idx i) es in
    let high : List Entry = keep (λ x. leb (suc i) x.idx) es in
    rw (
      keep_append (λ x. ltb x.idx i) es (e ∷ []),
      keep_append (λ x. leb (suc i) x.idx) es (e ∷ []),
      keep-no (λ x. ltb x.idx i) e (le-ltb e.idx i (omega arith)),
      keep_one (λ x. leb (suc i) x.idx) e (le-leb (suc i) e.idx h),
      append-nil low,
    )
    (sym (append_assoc low (row_of i m ++ high) (e ∷ []) ∙ ap (λ (l : List Entry). low ++ l) (append_assoc (row_of i m) high (e ∷ []))))

-- ---- the last of all rows, where it is one that was there, and where it is one that comes
pub join_front : (e : Entry) (ns es : List Entry) → under e.idx ns → joined ns (es ++ (e ∷ [])) ≡ joined ns es ++ (e ∷ [])
unfolding joined fold
join_front e [] es u = refl
join_front e (x ∷ ns) es u =
    let l = ltb-true x.idx e.idx (all_head (λ y. ltb y.idx e.idx) x ns u) in
    ap (joined ns) (set_before x.idx x.count e es l) ∙ join_front e ns (set_count x.idx x.count es) (all_tail (λ y. ltb y.idx e.idx) x ns u)

row_under : (b i m : ℕ) → i < b → under b (row_of i m)
unfolding row_of all
row_under b i m h = go (leb 2 m)
  where
    go : (d : Bool) → under b (pick d (record { idx = i; count = m } ∷ []) [])
    go true = rw (lt-ltb i b h)
    go false = refl

join-under : (b : ℕ) (ns es : List Entry) → under b ns → under b es → under b (joined ns es)
unfolding joined fold set_count put_rows
join-under b [] es u v = v
join-under b (x ∷ ns) es u v =
    let l = ltb-true x.idx b (all_head (λ y. ltb y.idx b) x ns u) in
    join-under b ns (set_count x.idx x.count es) (all_tail (λ y. ltb y.idx b) x ns u)
    (all-put index x.idx (suc x.idx) (row_of x.idx x.count) es (λ y. ltb y.idx b) v (row_under b x.idx x.count l))

pub join-back : (x : Entry) (ns es : List Entry) → 2 ≤ x.count → under x.idx ns → under x.idx es → joined (ns ++ (x ∷ [])) es ≡ joined ns es ++ (x ∷ [])
join-back x ns es h u v = join-append ns (x ∷ []) es ∙ join-cons x [] (joined ns es) ∙ join-none (set_count x.idx x.count (joined ns es)) ∙ set_last x (joined ns es) h (join-under x.idx ns es u v)

-- ---- rows before one of ascending rows are below it, and below what is above it
pub under-row : (lo : ℕ) (xs : List Entry) (x : Entry) (ys : List Entry) → ascending_from lo (map index (xs ++ (x ∷ ys))) ≡ true → under x.idx xs
unfolding all
under-row lo [] x ys a = refl
under-row lo (e ∷ xs) x ys a =
    let t = ascending-tail lo e.idx (map index (xs ++ (x ∷ ys))) a in
    and_both (ltb e.idx x.idx) (all (λ y. ltb y.idx x.idx) xs) (lt-ltb e.idx x.idx (first (suc e.idx) xs x ys t)) (under-row (suc e.idx) xs x ys t)
  where
    first : (lo : ℕ) (xs : List Entry) (x : Entry) (ys : List Entry) → ascending_from lo (map index (xs ++ (x ∷ ys))) ≡ true → lo ≤ x.idx
    first lo [] x ys a = ascending-head lo x.idx (map index ys) a
    first lo (e ∷ xs) x ys a =
        let r = first (suc e.idx) xs x ys (ascending-tail lo e.idx (map index (xs ++ (x ∷ ys))) a) in
        omega (arith, ascending-head lo e.idx (map index (xs ++ (x ∷ ys))) a)

pub under_more : (a b : ℕ) (es : List Entry) → a ≤ b → under a es → under b es
under_more a b es h u = all_weaker (λ e. ltb e.idx b) (λ e. ltb e.idx a) (λ e p. lt-ltb e.idx b (omega (arith, ltb-true e.idx a p))) es u
