-- A table in key order into which a row is put, or from which one goes: its words, and the number of its rows.
-- Assumes nothing.
use Rattle.std.specs.Prelude.{◌≡◌, true, List, [], ◌∷◌, ◌++◌, ℕ, suc, ◌+◌, ◌*◌, ◌-◌, ◌≤◌, ◌<◌, length, take, drop}
use Rattle.std.proofs.Common.{ap, ◌∙◌, arith, length-append, length-drop, take-append-drop, length-take-le}
use Rattle.base.specs.Logic.{zeros, sorted_from}
use Rattle.rows.specs.Table.{Coding, rows_of, table_of, Laid}
use Rattle.rows.proofs.TableLaws.{Lawful, length-rows_of, inserted, removed, replaced}
use Rattle.rows.specs.Keys.{keys, place}
use Rattle.rows.proofs.KeyLaws.{put_rows, place-le, length-keys, keys-rows_of, put_rows-places}

module _ {E : Type 0} {c : Coding E} (law : Lawful c) (key : E → ℕ) (word : List ℕ → ℕ) (same : (t : List ℕ) → key (c.dec t) ≡ word t)
    (n : ℕ) (t : List ℕ) (laid : Laid c.width n t) (sorted : sorted_from 0 (keys word c.width n t) ≡ true) (lo hi : ℕ) where
  -- what stands between the places k and j gives way to other rows
  put-places : (k j : ℕ) (new : List E) → k ≡ place lo (keys word c.width n t) → j ≡ place hi (keys word c.width n t)
      → put_rows key lo hi new (rows_of c n t) ≡ take k (rows_of c n t) ++ (new ++ drop j (rows_of c n t))
  put-places k j new a b =
      let e = keys-rows_of c key word same n t in
      rw (put_rows-places key lo hi new (rows_of c n t) (ap (sorted_from 0) e ∙ sorted), e, a, b)

  pub place-fits : (i k : ℕ) → k ≡ place i (keys word c.width n t) → k ≤ n
  place-fits i k a = omega (arith, place-le i (keys word c.width n t), length-keys word c.width n t)

  size : (k j : ℕ) (new : List E) → k ≤ n → length (take k (rows_of c n t) ++ (new ++ drop j (rows_of c n t))) ≡ k + (length new + (n - j))
  size k j new h =
      simp (length-append, length-take-le k (rows_of c n t) (rw (length-rows_of c n t) h), length-drop, length-rows_of c n t)

  -- no row gives way: a row goes in
  module _ (k : ℕ) (a : k ≡ place lo (keys word c.width n t)) (b : k ≡ place hi (keys word c.width n t)) where
    pub put-more : (e : E) → length (put_rows key lo hi (e ∷ []) (rows_of c n t)) ≡ n + 1
    put-more e = ap length (put-places k k (e ∷ []) a b) ∙ size k k (e ∷ []) (place-fits lo k a) ∙ omega (arith, place-fits lo k a)

    pub put-inserted : (e : E) → n * c.width + c.width ≤ length t
        → take (k * c.width) t ++ (c.enc e ++ (take (n * c.width - k * c.width) (drop (k * c.width) t) ++ drop (n * c.width + c.width) t))
        ≡ table_of c (length t) (put_rows key lo hi (e ∷ []) (rows_of c n t))
    put-inserted e room = rw (put-places k k (e ∷ []) a b) (inserted law n t laid k e (place-fits lo k a) room)

    -- and no row goes in
    pub put-none : put_rows key lo hi [] (rows_of c n t) ≡ rows_of c n t
    put-none = put-places k k [] a b ∙ take-append-drop k (rows_of c n t)

  -- a row gives way
  module _ (k : ℕ) (a : k ≡ place lo (keys word c.width n t)) (b : suc k ≡ place hi (keys word c.width n t)) where
    pub hit-fits : k < n
    hit-fits = place-fits hi (suc k) b

    pub put_same : (e : E) → length (put_rows key lo hi (e ∷ []) (rows_of c n t)) ≡ n
    put_same e = ap length (put-places k (suc k) (e ∷ []) a b) ∙ size k (suc k) (e ∷ []) (place-fits lo k a) ∙ omega (arith, hit-fits)

    pub put-replaced : (e : E)
        → take (k * c.width) t ++ (c.enc e ++ drop (k * c.width + c.width) t) ≡ table_of c (length t) (put_rows key lo hi (e ∷ []) (rows_of c n t))
    put-replaced e = rw (put-places k (suc k) (e ∷ []) a b) (replaced law n t laid k e hit-fits)

    pub put-less : length (put_rows key lo hi [] (rows_of c n t)) ≡ n - 1
    put-less = ap length (put-places k (suc k) [] a b) ∙ size k (suc k) [] (place-fits lo k a) ∙ omega (arith, hit-fits)

    pub put-removed : take (k * c.width) t ++ (take (n * c.width - (k * c.width + c.width)) (drop (k * c.width + c.width) t) ++ (zeros c.width ++ drop (n * c.width) t))
        ≡ table_of c (length t) (put_rows key lo hi [] (rows_of c n t))
    put-removed = rw (put-places k (suc k) [] a b) (removed law n t laid k hit-fits)
