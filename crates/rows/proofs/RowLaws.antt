-- Laws of tables of rows, and of rows put in their place, for any coding and key.
-- Assumes nothing.
use Rattle.std.specs.Prelude.{◌≡◌, Bool, true, false, not, ℕ, zero, suc, ◌+◌, ◌*◌, ◌≤◌, ◌<◌, length, take, drop, get_or, eqb}
use Rattle.std.proofs.Math.Path.{refl, ap}
use Rattle.std.proofs.Common.{sym, ◌∙◌}
use Rattle.std.proofs.Math.Bool.{or-true}
use mathlib.Core.List.{List, [], ◌∷◌, ◌++◌, map, map-append}
use native.Mathlib.Omega.{arith}
use Rattle.std.proofs.Math.Decide.{dec_le}
use Rattle.std.proofs.lemmas.List.{length-map}
use Rattle.std.proofs.Math.Dec.{leb, ltb}
use borrow.Author.Tests.{lt-ltb, le-ltb, le-leb, lt-leb, eq-eqb, ne_eqb, eqb-false, ltb-true}
use Rattle.base.specs.Logic.{all, any, elem, keep, sum_of, ascending_from, sorted_from}
use Rattle.base.specs.Laws.{sorted_head, sorted_tail, ascending-sorted}
use Rattle.rows.specs.Table.{Coding, rows_of, table_of, holds_rows}
use Rattle.rows.proofs.TableLaws.{Lawful, rows_of-table, laid_table, laid-holds, length-table}
use Rattle.rows.specs.Keys.{place}
use Rattle.rows.proofs.OrderLaws.{put_rows-ascending}
use Rattle.rows.proofs.KeyLaws.{put_rows, place-lt, place-ge, behind-hit, put_rows-places}
use Rattle.base.specs.ListLaws.{all_append, all_weaker, all_keep, all-kept}
use Rattle.base.specs.SumLaws.{or_left, or_right, all_map, sum-append, length-sum, sorted-append, keep-map, keep-sorted}

-- the canonical table of n rows: it spells them, holds them, and has its length
pub record IsTable {E : Type 0} (c : Coding E) (n len : ℕ) (es : List E) (t : List ℕ) : Type 0 where
  pub spells : rows_of c n t ≡ es
  pub holds : holds_rows c.width n t ≡ true
  pub size : length t ≡ len

pub is-table : {E : Type 0} {c : Coding E} → Lawful c → (n len : ℕ) (es : List E) → length es ≡ n → n * c.width ≤ len → IsTable c n len es (table_of c len es)
is-table {c} law n len es e h =
    let fits : length es * c.width ≤ len = rw e h in
    record {
      spells = rw e at (rows_of-table law len es);
      holds = rw e at (laid-holds c.width (length es) (table_of c len es) (laid_table law len es fits));
      size = length-table law len es fits;
    }

-- ---- a key among keys
pub elem-hit : (i : ℕ) (ks : List ℕ) (k : ℕ) → k < length ks → get_or ks k 0 ≡ i → elem i ks ≡ true
unfolding any
elem-hit i [] k l e = absurd (omega arith)
elem-hit i (x ∷ ks) zero l e = rw (eq-eqb i x (sym e))
elem-hit i (x ∷ ks) (suc k) l e = rw (elem-hit i ks k (omega arith) e) (or-true (eqb i x))

-- in keys in order a key that does not stand at its place is not there
elem_below : (i lo : ℕ) (ks : List ℕ) → i < lo → sorted_from lo ks ≡ true → elem i ks ≡ false
unfolding any
elem_below i lo [] h o = refl
elem_below i lo (x ∷ ks) h o =
    let l = sorted_head lo x ks o in
    rw (ne_eqb i x (omega arith)) (elem_below i x ks (omega arith) (sorted_tail lo x ks o))

pub elem-miss : (i lo : ℕ) (ks : List ℕ) → sorted_from lo ks ≡ true → (place i ks < length ks → get_or ks (place i ks) 0 ≡ i → ⊥) → elem i ks ≡ false
unfolding any
elem-miss i lo [] o none-there = refl
elem-miss i lo (x ∷ ks) o none-there =
    let r = sorted_tail lo x ks o in
    elim (dec_le i x) [
      | yes h ↦
          let ne : x ≡ i → ⊥ = (rw (place-ge i x ks h) at none-there) (omega arith) in
          rw (ne_eqb i x (omega (arith, ne))) (elem_below i x ks (omega (arith, ne)) r)
      | no h ↦
          let l : x < i = omega arith in
          rw (ne_eqb i x (omega arith)) (elem-miss i x ks r (λ g. (rw (place-lt i x ks l) at none-there) (omega arith)))
    ]

-- the place behind a key that is not there is its place
pub place-absent : (i : ℕ) (ks : List ℕ) → elem i ks ≡ false → place (suc i) ks ≡ place i ks
unfolding any place
place-absent i [] e = refl
place-absent i (x ∷ ks) e =
    let ne = eqb-false i x (or_left _ _ e) in
    elim (dec_le i x) [
      | yes h ↦ rw (le-ltb x i h, le-ltb x (suc i) (omega (arith, ne)))
      | no h ↦ rw (lt-ltb x i (omega arith), lt-ltb x (suc i) (omega arith)) (ap suc (place-absent i ks (or_right (eqb i x) _ e)))
    ]

-- ---- rows put in their place
module _ {E : Type 0} (key : E → ℕ) where
  -- of rows in order, those from a key on are in order from it
  from_sorted : (b lo : ℕ) (es : List E) → sorted_from lo (map key es) ≡ true → sorted_from b (map key (keep (λ e. leb b (key e)) es)) ≡ true
  unfolding sorted_from keep
  from_sorted b lo [] o = refl
  from_sorted b lo (e ∷ es) o =
      let r = sorted_tail lo (key e) (map key es) o in
      elim (dec_le b (key e)) [
        | yes h ↦ rw (le-leb b (key e) h, le-leb b (key e) h) (keep-sorted (λ x. leb b (key x)) key (key e) es r)
        | no h ↦ rw (lt-leb b (key e) (omega arith)) (from_sorted b (key e) es r)
      ]

  module _ (lo hi : ℕ) (new es : List E) where
    put-keys : map key (put_rows key lo hi new es) ≡ map key (keep (λ e. ltb (key e) lo) es) ++ (map key new ++ map key (keep (λ e. leb hi (key e)) es))
    unfolding put_rows
    put-keys = simp map-append

    -- where new rows may stand behind those of the same key, m is their least key
    pub put-sorted : (m : ℕ) → sorted_from 0 (map key es) ≡ true → sorted_from m (map key new) ≡ true → all (λ x. leb x hi) (map key new) ≡ true → lo ≤ suc m → m ≤ hi
        → sorted_from 0 (map key (put_rows key lo hi new es)) ≡ true
    put-sorted m o p l h g =
        let under = all_map (λ x. leb x m) key (keep (λ e. ltb (key e) lo) es) ∙ all_weaker (λ e. leb (key e) m) (λ e. ltb (key e) lo) (λ e q. le-leb (key e) m (omega (arith, ltb-true (key e) lo q))) _ (all-kept (λ e. ltb (key e) lo) es) in
        rw put-keys
        (sorted-append 0 m _ _ (omega arith) (keep-sorted (λ e. ltb (key e) lo) key 0 es o) under
        (sorted-append m hi _ _ g p l (from_sorted hi 0 es o)))

    -- what passes for the rows there and the rows put passes for all
    pub all-put : (q : E → Bool) → all q es ≡ true → all q new ≡ true → all q (put_rows key lo hi new es) ≡ true
    unfolding put_rows
    all-put q old fresh =
        all_append q _ _ (all_keep q (λ e. ltb (key e) lo) es old) (all_append q _ _ fresh (all_keep q (λ e. leb hi (key e)) es old))

    sum-parts : (f : E → ℕ) → sum_of f (put_rows key lo hi new es) ≡ sum_of f new + (sum_of f (keep (λ e. ltb (key e) lo) es) + sum_of f (keep (λ e. leb hi (key e)) es))
    unfolding put_rows
    sum-parts f = simp sum-append (omega arith)

  -- one row in the place of its key, and one behind those of its key and of lesser ones
  pub put-one-ascending : (e : E) (es : List E) → ascending_from 0 (map key es) ≡ true → ascending_from 0 (map key (put_rows key (key e) (suc (key e)) (e ∷ []) es)) ≡ true
  unfolding ascending_from all
  put-one-ascending e es o =
      let own = le-leb (key e) (key e) (omega arith) in
      put_rows-ascending key (key e) (suc (key e)) (e ∷ []) es (omega arith) (rw (own, lt-ltb (key e) (suc (key e)) (omega arith))) (rw own) o

  pub put-one-sorted : (e : E) (es : List E) → sorted_from 0 (map key es) ≡ true → sorted_from 0 (map key (put_rows key (suc (key e)) (suc (key e)) (e ∷ []) es)) ≡ true
  unfolding sorted_from all
  put-one-sorted e es o =
      put-sorted (suc (key e)) (suc (key e)) (e ∷ []) es (key e) o
      (rw (le-leb (key e) (key e) (omega arith))) (rw (le-leb (key e) (suc (key e)) (omega arith))) (omega arith) (omega arith)

  -- rows put in the place of those with a key, and behind them
  sum-three : (f : E → ℕ) (i : ℕ) (es : List E)
      → sum_of f (keep (λ e. ltb (key e) i) es) + sum_of f (keep (λ e. leb (suc i) (key e)) es) + sum_of f (keep (λ e. eqb (key e) i) es) ≡ sum_of f es
  unfolding sum_of keep
  sum-three f i [] = omega arith
  sum-three f i (e ∷ es) =
      let rest = sum-three f i es in
      elim (dec_le i (key e)) [
        | yes h ↦ elim (dec_le (suc i) (key e)) [
          | yes g ↦ rw (le-ltb (key e) i h, le-leb (suc i) (key e) g, ne_eqb (key e) i (omega arith)) (omega arith)
          | no g ↦ rw (le-ltb (key e) i h, lt-leb (suc i) (key e) (omega arith), eq-eqb (key e) i (omega arith)) (omega arith)
        ]
        | no h ↦ rw (lt-ltb (key e) i (omega arith), lt-leb (suc i) (key e) (omega arith), ne_eqb (key e) i (omega arith)) (omega arith)
      ]

  pub sum-put : (f : E → ℕ) (i : ℕ) (new es : List E) → sum_of f (put_rows key i (suc i) new es) + sum_of f (keep (λ e. eqb (key e) i) es) ≡ sum_of f new + sum_of f es
  sum-put f i new es = omega (arith, sum-parts i (suc i) new es f, sum-three f i es)

  sum-two : (f : E → ℕ) (i : ℕ) (es : List E) → sum_of f (keep (λ e. ltb (key e) i) es) + sum_of f (keep (λ e. leb i (key e)) es) ≡ sum_of f es
  unfolding sum_of keep
  sum-two f i [] = omega arith
  sum-two f i (e ∷ es) =
      let rest = sum-two f i es in
      elim (dec_le i (key e)) [
        | yes h ↦ rw (le-ltb (key e) i h, le-leb i (key e) h) (omega arith)
        | no h ↦ rw (lt-ltb (key e) i (omega arith), lt-leb i (key e) (omega arith)) (omega arith)
      ]

  pub sum-put-between : (f : E → ℕ) (i : ℕ) (new es : List E) → sum_of f (put_rows key i i new es) ≡ sum_of f new + sum_of f es
  sum-put-between f i new es = omega (arith, sum-parts i i new es f, sum-two f i es)

  -- the same of the number of rows
  pub length-put : (i : ℕ) (new es : List E) → length (put_rows key i (suc i) new es) + length (keep (λ e. eqb (key e) i) es) ≡ length new + length es
  length-put i new es = simp length-sum (sum-put (λ e. 1) i new es)

  pub length-put-between : (i : ℕ) (new es : List E) → length (put_rows key i i new es) ≡ length new + length es
  length-put-between i new es = simp length-sum (sum-put-between (λ e. 1) i new es)

  -- where no row has the key
  pub keep-absent : (i : ℕ) (es : List E) → elem i (map key es) ≡ false → keep (λ e. eqb (key e) i) es ≡ []
  unfolding any keep
  keep-absent i [] a = refl
  keep-absent i (e ∷ es) a =
      let ne = eqb-false i (key e) (or_left _ _ a) in
      rw (ne_eqb (key e) i (omega (arith, ne))) (keep-absent i es (or_right (eqb i (key e)) _ a))

  pub keep_all : (i : ℕ) (es : List E) → elem i (map key es) ≡ false → keep (λ e. not (eqb (key e) i)) es ≡ es
  unfolding any keep
  keep_all i [] a = refl
  keep_all i (e ∷ es) a =
      let ne = eqb-false i (key e) (or_left _ _ a) in
      rw (ne_eqb (key e) i (omega (arith, ne))) (ap (λ (x : List E). e ∷ x) (keep_all i es (or_right (eqb i (key e)) _ a)))

  pub put-absent : (i : ℕ) (new es : List E) → sorted_from 0 (map key es) ≡ true → elem i (map key es) ≡ false
      → put_rows key i (suc i) new es ≡ take (place i (map key es)) es ++ (new ++ drop (place i (map key es)) es)
  put-absent i new es o a = put_rows-places key i (suc i) new es o ∙ rw (place-absent i (map key es) a)

  -- rows in order without those of a key: first where the key is not above any of them
  others-over : (i lo : ℕ) (es : List E) → i ≤ lo → sorted_from lo (map key es) ≡ true
      → (keep (λ e. ltb (key e) i) es ≡ []) × (keep (λ e. not (eqb (key e) i)) es ≡ keep (λ e. leb (suc i) (key e)) es)
  unfolding keep
  others-over i lo [] h o = (refl, refl)
  others-over i lo (e ∷ es) h o =
      let l = sorted_head lo (key e) (map key es) o in
      let (below, rest) = others-over i (key e) es (omega arith) (sorted_tail lo (key e) (map key es) o) in
      elim (dec_le (suc i) (key e)) [
        | yes g ↦ rw (le-ltb (key e) i (omega arith), le-leb (suc i) (key e) g, ne_eqb (key e) i (omega arith)) (below, ap (λ (x : List E). e ∷ x) rest)
        | no g ↦ rw (le-ltb (key e) i (omega arith), lt-leb (suc i) (key e) (omega arith), eq-eqb (key e) i (omega arith)) (below, rest)
      ]

  pub keep-others : (i lo : ℕ) (es : List E) → sorted_from lo (map key es) ≡ true → keep (λ e. not (eqb (key e) i)) es ≡ put_rows key i (suc i) [] es
  unfolding put_rows keep
  keep-others i lo [] o = refl
  keep-others i lo (e ∷ es) o =
      let r = sorted_tail lo (key e) (map key es) o in
      elim (dec_le i (key e)) [
        | yes h ↦
            let (below, rest) = others-over i (key e) es h r in
            elim (dec_le (suc i) (key e)) [
              | yes g ↦ rw (le-ltb (key e) i h, le-leb (suc i) (key e) g, ne_eqb (key e) i (omega arith), below) (ap (λ (x : List E). e ∷ x) rest)
              | no g ↦ rw (le-ltb (key e) i h, lt-leb (suc i) (key e) (omega arith), eq-eqb (key e) i (omega arith), below) rest
            ]
        | no h ↦ rw (ne_eqb (key e) i (omega arith), lt-ltb (key e) i (omega arith), lt-leb (suc i) (key e) (omega arith)) (ap (λ (x : List E). e ∷ x) (keep-others i (key e) es r))
      ]

  -- where the row at the key's place has it
  pub keep-hit : (i : ℕ) (es : List E) (k : ℕ) → ascending_from 0 (map key es) ≡ true → k ≡ place i (map key es) → k < length es → get_or (map key es) k 0 ≡ i
      → keep (λ e. not (eqb (key e) i)) es ≡ take k es ++ drop (suc k) es
  keep-hit i es k a here l e =
      let o = ascending-sorted 0 (map key es) a in
      keep-others i 0 es o ∙ put_rows-places key i (suc i) [] es o
      ∙ rw (behind-hit i (map key es) k here a o (rw (length-map es key) l) e, ← here)

-- rows of another kind with the same keys
pub map-put : {E F : Type 0} (key : F → ℕ) (f : E → F) (lo hi : ℕ) (new es : List E)
    → map f (put_rows (λ e. key (f e)) lo hi new es) ≡ put_rows key lo hi (map f new) (map f es)
unfolding put_rows
map-put key f lo hi new es = simp (map-append, keep-map (λ x. ltb (key x) lo) f es, keep-map (λ x. leb hi (key x)) f es)
