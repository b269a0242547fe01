-- The count at each index: after one is set, after two are; and counts in order that agree at every index are the same.
-- Assumes nothing.
use Rattle.std.specs.Prelude.{◌≡◌, Bool}
use Rattle.std.proofs.Math.Path.{refl, sym, ap}
use Rattle.std.proofs.Common.{ap₂, ◌∙◌, true≢false, arith}
use Rattle.std.proofs.Math.Bool.{true, false}
use mathlib.Core.List.{List, [], ◌∷◌, ◌++◌, map, append-nil}
use Prim.Native.Nat.{ℕ, suc, ◌+◌, ◌≤◌, ◌<◌, max}
use Rattle.std.proofs.Math.Decide.{dec_le}
use Rattle.std.proofs.Math.ListN.{length, length-append}
use Rattle.std.proofs.Math.Dec.{leb, ltb, eqb}
use borrow.Author.Tests.{le-ltb, lt-ltb, le-leb, lt-leb, leb-true, leb-false, ltb-true, eqb-true, eqb-false, eq-eqb, ne_eqb}
use Rattle.base.specs.Logic.{pick, all, keep, ascending_from}
use Rattle.base.specs.Laws.{and_left, and_right, and_both, ascending-head, ascending-tail}
use Rattle.base.specs.ListLaws.{all_weaker}
use Rattle.counters.specs.Counts.{Entry, stored_at, count_at, row_of, set_count}
use Rattle.counters.specs.Layout.{sound, ordered}
use Rattle.rows.proofs.OrderLaws.{within, put_rows-again, put_rows-ascending, put_rows-swap}
use Rattle.rows.proofs.RowLaws.{all-put}
use Rattle.rows.proofs.KeyLaws.{put_rows}

-- what a count stores: 0 and 1 store nothing
abbrev pub stored_of : ℕ → ℕ
stored_of n = pick (leb 2 n) n 0

-- a row's index; and that it is below the next index, with a count of at least 2
abbrev index : Entry → ℕ
index e = e.idx

-- ---- looking an index up among the rows that pass a test of their index
module _ (p : ℕ → Bool) (j : ℕ) (zs : List Entry) where
  found : (es : List Entry) → p j ≡ true → stored_at j zs ≡ 0 → stored_at j (keep (λ e. p e.idx) es ++ zs) ≡ stored_at j es
  unfolding stored_at keep
  found [] h z = z
  found (e ∷ es) h z = go (p e.idx) (eqb e.idx j) refl refl (found es h z)
    where
      go : (b c : Bool) → p e.idx ≡ b → eqb e.idx j ≡ c → stored_at j (keep (λ e. p e.idx) es ++ zs) ≡ stored_at j es
          → stored_at j (pick b (e ∷ keep (λ e. p e.idx) es) (keep (λ e. p e.idx) es) ++ zs) ≡ pick c e.count (stored_at j es)
      go true true t q r = rw q
      go true false t q r = rw q r
      go false true t q r = absurd (true≢false (sym h ∙ ap p (sym (eqb-true e.idx j q)) ∙ t))
      go false false t q r = r

  passed : (es : List Entry) → p j ≡ false → stored_at j (keep (λ e. p e.idx) es ++ zs) ≡ stored_at j zs
  unfolding stored_at keep
  passed [] h = refl
  passed (e ∷ es) h = go (p e.idx) (eqb e.idx j) refl refl (passed es h)
    where
      go : (b c : Bool) → p e.idx ≡ b → eqb e.idx j ≡ c → stored_at j (keep (λ e. p e.idx) es ++ zs) ≡ stored_at j zs
          → stored_at j (pick b (e ∷ keep (λ e. p e.idx) es) (keep (λ e. p e.idx) es) ++ zs) ≡ stored_at j zs
      go true true t q r = absurd (true≢false (sym t ∙ ap p (eqb-true e.idx j q) ∙ h))
      go true false t q r = rw q r
      go false c t q r = r

module _ (p : ℕ → Bool) (j : ℕ) (es : List Entry) where
  found-alone : p j ≡ true → stored_at j (keep (λ e. p e.idx) es) ≡ stored_at j es
  unfolding stored_at
  found-alone h = ap (stored_at j) (sym (append-nil (keep (λ e. p e.idx) es))) ∙ found p j [] es h refl

  passed-alone : p j ≡ false → stored_at j (keep (λ e. p e.idx) es) ≡ 0
  unfolding stored_at
  passed-alone h = ap (stored_at j) (sym (append-nil (keep (λ e. p e.idx) es))) ∙ passed p j [] es h

-- ---- after a count is set
module _ (i n : ℕ) where
  row_here : (zs : List Entry) → stored_at i zs ≡ 0 → stored_at i (row_of i n ++ zs) ≡ stored_of n
  unfolding stored_at row_of
  row_here zs z = go (leb 2 n)
    where
      go : (b : Bool) → stored_at i (pick b (record { idx = i; count = n } ∷ []) [] ++ zs) ≡ pick b n 0
      go true = rw (eq-eqb i i refl)
      go false = z

  row_other : (j : ℕ) (zs : List Entry) → (j ≡ i → ⊥) → stored_at j (row_of i n ++ zs) ≡ stored_at j zs
  unfolding stored_at row_of
  row_other j zs h = go (leb 2 n)
    where
      go : (b : Bool) → stored_at j (pick b (record { idx = i; count = n } ∷ []) [] ++ zs) ≡ stored_at j zs
      go true = rw (ne_eqb i j (λ q. h (sym q)))
      go false = refl

  module _ (es : List Entry) where
    behind : List Entry
    behind = keep (λ e. leb (suc i) e.idx) es

    -- the stored count: what n stores at i, as before elsewhere
    pub stored_here : stored_at i (set_count i n es) ≡ stored_of n
    unfolding set_count put_rows behind
    stored_here =
        passed (λ k. ltb k i) i (row_of i n ++ behind) es (le-ltb i i (omega arith))
        ∙ row_here behind (passed-alone (λ k. leb (suc i) k) i es (lt-leb (suc i) i (omega arith)))

    pub stored_other : (j : ℕ) → (j ≡ i → ⊥) → stored_at j (set_count i n es) ≡ stored_at j es
    unfolding set_count put_rows behind
    stored_other j h =
        elim (dec_le i j) [
          | yes g ↦
              passed (λ k. ltb k i) j (row_of i n ++ behind) es (le-ltb j i g)
              ∙ row_other j behind h
              ∙ found-alone (λ k. leb (suc i) k) j es (le-leb (suc i) j (omega arith))
          | no g ↦
              found (λ k. ltb k i) j (row_of i n ++ behind) es (lt-ltb j i (omega arith))
              (row_other j behind h ∙ passed-alone (λ k. leb (suc i) k) j es (lt-leb (suc i) j (omega arith)))
        ]

    pub stored_at-set_count : (j : ℕ) → stored_at j (set_count i n es) ≡ pick (eqb j i) (stored_of n) (stored_at j es)
    stored_at-set_count j = go (eqb j i) refl
      where
        go : (b : Bool) → eqb j i ≡ b → stored_at j (set_count i n es) ≡ pick b (stored_of n) (stored_at j es)
        go true q = rw (eqb-true j i q) stored_here
        go false q = stored_other j (eqb-false j i q)

    -- the count: n, or 1 for 0, at i, as before elsewhere
    pub count_at-set_count : (j : ℕ) → count_at j (set_count i n es) ≡ pick (eqb j i) (max n 1) (count_at j es)
    unfolding count_at
    count_at-set_count j = rw (stored_at-set_count j) (go (eqb j i) (leb 2 n) refl)
      where
        go : (b c : Bool) → leb 2 n ≡ c → max (pick b (pick c n 0) (stored_at j es)) 1 ≡ pick b (max n 1) (max (stored_at j es) 1)
        go true true q = refl
        go true false q = omega (arith, leb-false 2 n q)
        go false c q = refl

  -- ---- the row that is put
  pub row_within : within index i (suc i) (row_of i n) ≡ true
  unfolding row_of all
  row_within = go (leb 2 n)
    where
      go : (b : Bool) → within index i (suc i) (pick b (record { idx = i; count = n } ∷ []) []) ≡ true
      go true = rw (le-leb i i (omega arith), lt-ltb i (suc i) (omega arith))
      go false = refl

  pub row-ascending : ascending_from i (map index (row_of i n)) ≡ true
  unfolding row_of ascending_from
  row-ascending = go (leb 2 n)
    where
      go : (b : Bool) → ascending_from i (map index (pick b (record { idx = i; count = n } ∷ []) [])) ≡ true
      go true = rw (le-leb i i (omega arith))
      go false = refl

  row-sound : (next : ℕ) → i < next → all (sound next) (row_of i n) ≡ true
  unfolding row_of all
  row-sound next h = go (leb 2 n) refl
    where
      go : (b : Bool) → leb 2 n ≡ b → all (sound next) (pick b (record { idx = i; count = n } ∷ []) []) ≡ true
      go true q = rw (lt-ltb i next h, q)
      go false q = refl

  -- the later of two counts set at one index stays
  pub set_count-again : (m : ℕ) (es : List Entry) → set_count i m (set_count i n es) ≡ set_count i m es
  unfolding set_count put_rows
  set_count-again m es = put_rows-again index i (suc i) (row_of i n) es (omega arith) row_within (row_of i m)

-- counts set at two indices come to the same in either order
pub set_count-swap : (i n j m : ℕ) (es : List Entry) → (i ≡ j → ⊥) → set_count j m (set_count i n es) ≡ set_count i n (set_count j m es)
unfolding set_count put_rows
set_count-swap i n j m es h =
    elim (dec_le (suc i) j) [
      | yes g ↦ put_rows-swap index i (suc i) j (suc j) (row_of i n) (row_of j m) es (omega arith) g (omega arith) (row_within i n) (row_within j m)
      | no g ↦ sym (put_rows-swap index j (suc j) i (suc i) (row_of j m) (row_of i n) es (omega arith) (omega arith) (omega arith) (row_within j m) (row_within i n))
    ]

-- ---- rows in order
-- a row's index is not looked up further, another index is
stored-first : (e : Entry) (es : List Entry) → stored_at e.idx (e ∷ es) ≡ e.count
unfolding stored_at
stored-first e es = rw (eq-eqb e.idx e.idx refl)

stored_next : (e : Entry) (es : List Entry) (j : ℕ) → (e.idx ≡ j → ⊥) → stored_at j (e ∷ es) ≡ stored_at j es
unfolding stored_at
stored_next e es j h = rw (ne_eqb e.idx j h)

-- nothing is stored below the bound that ascending rows start from
stored-before : (lo : ℕ) (es : List Entry) (j : ℕ) → ascending_from lo (map index es) ≡ true → j < lo → stored_at j es ≡ 0
unfolding stored_at
stored-before lo [] j a h = refl
stored-before lo (e ∷ es) j a h =
    let l = ascending-head lo e.idx (map index es) a in
    stored_next e es j (omega arith) ∙ stored-before (suc e.idx) es j (ascending-tail lo e.idx (map index es) a) (omega arith)

two-or-none : (n : ℕ) → stored_of n ≡ n → 0 < n → 2 ≤ n
two-or-none n e h =
    elim (dec_le 2 n) [
      | yes g ↦ g
      | no g ↦ absurd (omega (arith, rw (lt-leb 2 n (omega arith)) at e))
    ]

module _ (next : ℕ) where
  -- what a sound row says
  sound-below : (e : Entry) (es : List Entry) → all (sound next) (e ∷ es) ≡ true → e.idx < next
  unfolding all
  sound-below e es s = ltb-true e.idx next (and_left (ltb e.idx next) (leb 2 e.count) (and_left (sound next e) (all (sound next) es) s))

  sound-two : (e : Entry) (es : List Entry) → all (sound next) (e ∷ es) ≡ true → 2 ≤ e.count
  unfolding all
  sound-two e es s = leb-true 2 e.count (and_right (ltb e.idx next) (leb 2 e.count) (and_left (sound next e) (all (sound next) es) s))

  sound-rest : (e : Entry) (es : List Entry) → all (sound next) (e ∷ es) ≡ true → all (sound next) es ≡ true
  unfolding all
  sound-rest e es s = and_right (sound next e) (all (sound next) es) s

  sound_none : (es : List Entry) → all (sound next) es ≡ true → (j : ℕ) → next ≤ j → stored_at j es ≡ 0
  unfolding stored_at
  sound_none [] s j h = refl
  sound_none (e ∷ es) s j h = let l = sound-below e es s in stored_next e es j (omega arith) ∙ sound_none es (sound-rest e es s) j h

  sound-stored : (es : List Entry) → all (sound next) es ≡ true → (j : ℕ) → stored_of (stored_at j es) ≡ stored_at j es
  unfolding stored_at
  sound-stored [] s j = refl
  sound-stored (e ∷ es) s j = go (eqb e.idx j) (sound-stored es (sound-rest e es s) j)
    where
      go : (b : Bool) → stored_of (stored_at j es) ≡ stored_at j es → stored_of (pick b e.count (stored_at j es)) ≡ pick b e.count (stored_at j es)
      go true r = rw (le-leb 2 e.count (sound-two e es s))
      go false r = r

  module _ (es : List Entry) (o : ordered next es ≡ true) where
    ascends : ascending_from 0 (map index es) ≡ true
    unfolding ordered
    ascends = and_left (ascending_from 0 (map index es)) (all (sound next) es) o

    sounds : all (sound next) es ≡ true
    unfolding ordered
    sounds = and_right (ascending_from 0 (map index es)) (all (sound next) es) o

    -- nothing is stored from the next index on
    pub stored-unallocated : (j : ℕ) → next ≤ j → stored_at j es ≡ 0
    stored-unallocated j h = sound_none es sounds j h

    pub count-unallocated : (j : ℕ) → next ≤ j → count_at j es ≡ 1
    unfolding count_at
    count-unallocated j h = rw (stored-unallocated j h)

    -- a stored count is at least 2
    pub stored-two : (j : ℕ) → 0 < stored_at j es → 2 ≤ stored_at j es
    stored-two j h = two-or-none (stored_at j es) (sound-stored es sounds j) h

    -- they are in order below any higher next index
    pub ordered-more : (more : ℕ) → next ≤ more → ordered more es ≡ true
    unfolding ordered
    ordered-more more h =
        and_both (ascending_from 0 (map index es)) (all (sound more) es) ascends
        (all_weaker (sound more) (sound next)
        (λ e s. and_both (ltb e.idx more) (leb 2 e.count)
        (lt-ltb e.idx more (omega (arith, ltb-true e.idx next (and_left (ltb e.idx next) (leb 2 e.count) s))))
        (and_right (ltb e.idx next) (leb 2 e.count) s)) es sounds)

    -- they stay in order where a count is set below the next index
    pub ordered-set_count : (i n : ℕ) → i < next → ordered next (set_count i n es) ≡ true
    unfolding ordered set_count put_rows
    ordered-set_count i n h =
        and_both (ascending_from 0 (map index (set_count i n es))) (all (sound next) (set_count i n es))
        (put_rows-ascending index i (suc i) (row_of i n) es (omega arith) (row_within i n) (row-ascending i n) ascends)
        (all-put index i (suc i) (row_of i n) es (sound next) sounds (row-sound i n next h))

-- ---- counts in order that agree at every index are the same
-- the first rows of both: neither index is before the other
no-earlier : (next : ℕ) (e : Entry) (es : List Entry) (f : Entry) (fs : List Entry) → all (sound next) (e ∷ es) ≡ true
    → ascending_from (suc f.idx) (map index fs) ≡ true → stored_at e.idx (e ∷ es) ≡ stored_at e.idx (f ∷ fs) → f.idx ≤ e.idx
no-earlier next e es f fs s b h =
    elim (dec_le f.idx e.idx) [
      | yes g ↦ g
      | no g ↦ absurd
          (omega (arith, stored-first e es, sound-two next e es s, h, stored_next f fs e.idx (omega arith), stored-before (suc f.idx) fs e.idx b (omega arith)))
    ]

same_rows : (next lo : ℕ) (es fs : List Entry) → ascending_from lo (map index es) ≡ true → all (sound next) es ≡ true
    → ascending_from lo (map index fs) ≡ true → all (sound next) fs ≡ true → ((j : ℕ) → stored_at j es ≡ stored_at j fs) → es ≡ fs
unfolding stored_at
same_rows next lo [] [] a s b t h = refl
same_rows next lo [] (f ∷ fs) a s b t h = absurd (omega (arith, h f.idx, stored-first f fs, sound-two next f fs t))
same_rows next lo (e ∷ es) [] a s b t h = absurd (omega (arith, h e.idx, stored-first e es, sound-two next e es s))
same_rows next lo (e ∷ es) (f ∷ fs) a s b t h =
    let a' = ascending-tail lo e.idx (map index es) a in
    let b' = ascending-tail lo f.idx (map index fs) b in
    let u = no-earlier next e es f fs s b' (h e.idx) in
    let v = no-earlier next f fs e es t a' (sym (h f.idx)) in
    let i : e.idx ≡ f.idx = omega arith in
    let n : e.count ≡ f.count = sym (stored-first e es) ∙ h e.idx ∙ ap (λ (j : ℕ). stored_at j (f ∷ fs)) i ∙ stored-first f fs in
    let rest : (j : ℕ) → stored_at j es ≡ stored_at j fs =
    λ j.
    elim (dec_le j e.idx) [
      | yes g ↦ stored-before (suc e.idx) es j a' (omega arith) ∙ sym (stored-before (suc f.idx) fs j b' (omega arith))
      | no g ↦ sym (stored_next e es j (omega arith)) ∙ h j ∙ stored_next f fs j (omega arith)
    ] in
    ap₂ (λ (x : Entry) (xs : List Entry). x ∷ xs) (λ k. record { idx = i k; count = n k })
    (same_rows next (suc e.idx) es fs a' (sound-rest next e es s) (rw i b') (sound-rest next f fs t) rest)

stored-of-count : (m n : ℕ) → (0 < m → 2 ≤ m) → (0 < n → 2 ≤ n) → max m 1 ≡ max n 1 → m ≡ n
stored-of-count m n h k e =
    elim (dec_le m 0) [
      | yes g ↦ elim (dec_le n 0) [
        | yes f ↦ omega arith
        | no f ↦ absurd (omega (arith, k (omega arith)))
      ]
      | no g ↦ omega (arith, h (omega arith))
    ]

module _ (next : ℕ) (es fs : List Entry) (o : ordered next es ≡ true) (r : ordered next fs ≡ true) where
  -- by the stored counts
  pub same-stored : ((j : ℕ) → stored_at j es ≡ stored_at j fs) → es ≡ fs
  same-stored h = same_rows next 0 es fs (ascends next es o) (sounds next es o) (ascends next fs r) (sounds next fs r) h

  -- by the counts at the allocated indices
  pub same-counts : ((j : ℕ) → j < next → count_at j es ≡ count_at j fs) → es ≡ fs
  unfolding count_at
  same-counts h =
      same-stored (λ j.
      elim (dec_le next j) [
        | yes g ↦ stored-unallocated next es o j g ∙ sym (stored-unallocated next fs r j g)
        | no g ↦ stored-of-count (stored_at j es) (stored_at j fs) (stored-two next es o j) (stored-two next fs r j) (h j (omega arith))
      ])

-- ---- how many counts are stored
-- a count of at least 2 has a row, 0 and 1 have none
pub length-row_of : (i n : ℕ) → length (row_of i n) ≡ pick (leb 2 n) 1 0
unfolding row_of
length-row_of i n = go (leb 2 n)
  where
    go : (b : Bool) → length {A = Entry} (pick b (record { idx = i; count = n } ∷ []) []) ≡ pick b 1 0
    go true = refl
    go false = refl

one-row : (i n : ℕ) → 2 ≤ n → length (row_of i n) ≡ 1
one-row i n h = rw (length-row_of i n, le-leb 2 n h)

no_row : (i n : ℕ) → n ≤ 1 → length (row_of i n) ≡ 0
no_row i n h = rw (length-row_of i n, lt-leb 2 n (omega arith))

module _ (next : ℕ) (es : List Entry) (o : ordered next es ≡ true) (i : ℕ) where
  -- setting what is stored changes nothing
  pub set_count-stored : set_count i (stored_at i es) es ≡ es
  set_count-stored =
      let more : ℕ = next + suc i in
      let p = ordered-more next es o more (omega arith) in
      same-stored more (set_count i (stored_at i es) es) es (ordered-set_count more es p i (stored_at i es) (omega arith)) p
      (λ j. stored_at-set_count i (stored_at i es) es j ∙ go j (eqb j i) refl)
    where
      go : (j : ℕ) (b : Bool) → eqb j i ≡ b → pick b (stored_of (stored_at i es)) (stored_at j es) ≡ stored_at j es
      go j true q = sound-stored next es (sounds next es o) i ∙ ap (λ (k : ℕ). stored_at k es) (sym (eqb-true j i q))
      go j false q = refl

  module _ (n : ℕ) where
    -- the row of what was stored goes, the row of what is stored comes
    pub length-set_count : length (set_count i n es) + length (row_of i (stored_at i es)) ≡ length es + length (row_of i n)
    unfolding set_count put_rows
    length-set_count = omega (arith, size n, size (stored_at i es), ap length set_count-stored)
      where
        size : (m : ℕ) → length (set_count i m es) ≡ length (keep (λ e. ltb e.idx i) es) + (length (row_of i m) + length (keep (λ e. leb (suc i) e.idx) es))
        size m = simp length-append

    -- so there is one more where none was stored and one is, one less where one was and none is, and else as many
    pub set_count-more : stored_at i es ≡ 0 → 2 ≤ n → length (set_count i n es) ≡ length es + 1
    set_count-more z h = omega (arith, length-set_count, no_row i (stored_at i es) (omega arith), one-row i n h)

    pub set_count-less : 2 ≤ stored_at i es → n ≤ 1 → length (set_count i n es) + 1 ≡ length es
    set_count-less z h = omega (arith, length-set_count, one-row i (stored_at i es) z, no_row i n h)

    pub set_count-as-many : leb 2 (stored_at i es) ≡ leb 2 n → length (set_count i n es) ≡ length es
    set_count-as-many e = omega (arith, length-set_count, length-row_of i (stored_at i es) ∙ ap (λ (b : Bool). pick {A = ℕ} b 1 0) e ∙ sym (length-row_of i n))
