-- The large counts: read in the order of the bytes, and the first from an index on, found by going through them.
-- Assumes nothing.
use Rattle.std.specs.Prelude.{◌≡◌, refl, true, false, ◌&&◌, ◌||◌, List, [], ◌∷◌, take, drop, Option}
use Rattle.std.specs.Option.{is_some}
use Rattle.std.proofs.Common.{sym, ap, ◌∙◌, true≢false}
use Rattle.std.proofs.Math.Bool.{Bool}
use Prim.Native.Nat.{ℕ, zero, suc, ◌+◌, ◌-◌, ◌*◌, ◌≤◌, ◌<◌}
use native.Mathlib.Omega.{arith}
use Rattle.std.proofs.Math.Seq.{drop-drop}
use Rattle.std.proofs.Math.Dec.{leb, ltb}
use borrow.Author.Tests.{le-leb, lt-leb, le-ltb, lt-ltb, leb-true, ltb-true, ltb-false}
use Rattle.base.specs.Logic.{pick, all, any, keep, fold}
use Rattle.base.specs.Laws.{and_both}
use Rattle.base.specs.ListLaws.{or-false, all_weaker, keep-empty, keep_append, keep-swap, keep-narrow, all-kept}
use Rattle.base.specs.Bytes.{unle}
use Rattle.base.specs.Answers.{Outcome, taken, ◌>>◌, refuse_if}
use Rattle.base.specs.declared.Refusal.TheVariants.{BadLarge}
use Rattle.rows.proofs.KeyLaws.{put_rows}
use Rattle.counters.specs.Counts.{Entry, row_of, set_count}
use Rattle.snapshot.specs.Read.{read_large}
use Rattle.snapshot_tiers.specs.declared.Head.{Head}
use Rattle.snapshot_tiers.specs.TierLaws.{from_idx, Above, set-behind}
use Rattle.snapshot_tiers.specs.Heads.{low, entry, no_head, raw_of, set_all, lower_from, head_at, idx_of, count_of}
use Rattle.snapshot_tiers.specs.JoinLaws.{Large}

pub large-read : (n : ℕ) (es : List Entry) (bs : List ℕ) → read_large n es bs ≡ (refuse_if (any low (raw_of n bs)) BadLarge >> taken (set_all (raw_of n bs) es))
unfolding read_large raw_of any fold
large-read zero es bs = refl
large-read (suc n) es bs = go (ltb (unle (take 8 (drop 8 bs))) 257) _ _ (any low (raw_of n (drop 16 bs))) (large-read n (set_count (unle (take 8 bs)) (unle (take 8 (drop 8 bs))) es) (drop 16 bs))
  where
    go : (b : Bool) (o p : Outcome (List Entry)) (c : Bool) → o ≡ (refuse_if c BadLarge >> p) → (refuse_if b BadLarge >> o) ≡ (refuse_if (b || c) BadLarge >> p)
    go true o p c e = refl
    go false o p c e = e

-- ---- a count set, and those from an index on
module _ (i n : ℕ) (two : 2 ≤ n) (es : List Entry) where
  from-set : (lo : ℕ) → lo ≤ i → from_idx lo (set_count i n es) ≡ set_count i n (from_idx lo es)
  unfolding set_count put_rows row_of keep
  from-set lo h =
      let p : Entry → Bool = λ e. leb lo e.idx in
      rw (
        le-leb 2 n two,
        keep_append p (keep (λ e. ltb e.idx i) es) (entry i n ∷ keep (λ e. leb (suc i) e.idx) es),
        le-leb lo i h,
        keep-swap p (λ e. ltb e.idx i) es,
        keep-swap p (λ e. leb (suc i) e.idx) es,
      )

  from-unset : (lo : ℕ) → i < lo → from_idx lo (set_count i n es) ≡ from_idx lo es
  unfolding set_count put_rows row_of keep
  from-unset lo h =
      let p : Entry → Bool = λ e. leb lo e.idx in
      rw (
        le-leb 2 n two,
        keep_append p (keep (λ e. ltb e.idx i) es) (entry i n ∷ keep (λ e. leb (suc i) e.idx) es),
        lt-leb lo i h,
        keep-empty p (λ e. ltb e.idx i) (λ e q. lt-leb lo e.idx (omega (arith, ltb-true e.idx i q))) (keep (λ e. ltb e.idx i) es) (all-kept (λ e. ltb e.idx i) es),
      )
      (keep-narrow p (λ e. leb (suc i) e.idx) (λ e q. le-leb (suc i) e.idx (omega (arith, leb-true lo e.idx q))) es)

  -- a count set before all, or at the first
  set_first : Above i es → set_count i n es ≡ entry i n ∷ from_idx (suc i) es
  unfolding set_count put_rows row_of
  set_first a =
      rw (le-leb 2 n two, keep-empty (λ e. ltb e.idx i) (λ e. leb i e.idx) (λ e q. le-ltb e.idx i (leb-true i e.idx q)) es a)

-- ---- the first from an index on, after one more count is set
module _ (lo i n : ℕ) (two : 2 ≤ n) (es : List Entry) (h : Option Head) (l : Large lo es h) where
  first_rows : is_some h ≡ true → from_idx lo es ≡ entry (idx_of h) (count_of h) ∷ from_idx (suc (idx_of h)) es
  first_rows f = rw f at l.rows

  -- it is not asked for
  unasked : i < lo → Large lo (set_count i n es) h
  unasked g = record { rows = from-unset i n two es lo g ∙ l.rows ∙ go (is_some h) refl; from = l.from; two = l.two }
    where
      go : (b : Bool) → is_some h ≡ b
          → pick b (entry (idx_of h) (count_of h) ∷ from_idx (suc (idx_of h)) es) [] ≡ pick b (entry (idx_of h) (count_of h) ∷ from_idx (suc (idx_of h)) (set_count i n es)) []
      go true f = rw (from-unset i n two es (suc (idx_of h)) (omega (arith, l.from f)))
      go false f = refl

  -- it is behind the first
  behind : lo ≤ i → is_some h ≡ true → idx_of h < i → Large lo (set_count i n es) h
  behind g f b =
      record {
        rows =
            from-set i n two es lo g
            ∙ rw (first_rows f, set-behind i n (from_idx (suc (idx_of h)) es) (entry (idx_of h) (count_of h)) b, f, from-set i n two es (suc (idx_of h)) (omega arith));
        from = l.from;
        two = l.two;
      }

  -- it is the first
  before : lo ≤ i → Above i (from_idx lo es) → Large lo (set_count i n es) (head_at i n)
  before g a =
      record {
        rows =
            from-set i n two es lo g
            ∙ set_first i n two (from_idx lo es) a
            ∙ ap (λ (x : List Entry). entry i n ∷ x)
            (keep-narrow (λ x. leb (suc i) x.idx) (λ x. leb lo x.idx) (λ x q. le-leb lo x.idx (omega (arith, leb-true (suc i) x.idx q))) es
            ∙ sym (from-unset i n two es (suc i) (omega arith)));
        from = λ q. g;
        two = λ q. two;
      }

  above-none : is_some h ≡ false → Above i (from_idx lo es)
  unfolding all
  above-none f = rw (l.rows, f)

  above-some : is_some h ≡ true → i ≤ idx_of h → Above i (from_idx lo es)
  unfolding all
  above-some f g =
      rw (first_rows f)
      (and_both (leb i (idx_of h)) (all (λ x. leb i x.idx) (from_idx (suc (idx_of h)) es)) (le-leb i (idx_of h) g)
      (all_weaker (λ x. leb i x.idx) (λ x. leb (suc (idx_of h)) x.idx) (λ x q. le-leb i x.idx (omega (arith, leb-true (suc (idx_of h)) x.idx q)))
      (from_idx (suc (idx_of h)) es) (all-kept (λ x. leb (suc (idx_of h)) x.idx) es)))

  scan_step : Large lo (set_count i n es) (lower_from lo (entry i n) h)
  scan_step = go (ltb i lo) (is_some h) (ltb (idx_of h) i) refl refl refl
    where
      go : (u v w : Bool) → ltb i lo ≡ u → is_some h ≡ v → ltb (idx_of h) i ≡ w
          → Large lo (set_count i n es) (pick u h (pick (v && w) h (head_at i n)))
      go true v w p q r = unasked (ltb-true i lo p)
      go false true true p q r = behind (ltb-false i lo p) q (ltb-true (idx_of h) i r)
      go false true false p q r = before (ltb-false i lo p) (above-some q (ltb-false (idx_of h) i r))
      go false false w p q r = before (ltb-false i lo p) (above-none q)

scan-all : (lo : ℕ) (raw es : List Entry) (h : Option Head) → any low raw ≡ false → Large lo es h → Large lo (set_all raw es) (fold (lower_from lo) raw h)
unfolding any fold
scan-all lo [] es h a l = l
scan-all lo (e ∷ raw) es h a l =
    let p = or-false (low e) (any low raw) a in
    let q = ltb-false e.count 257 p.0 in
    scan-all lo raw (set_count e.idx e.count es) (lower_from lo e h) p.1 (scan_step lo e.idx e.count (omega arith) es h l)

no-large : (lo : ℕ) → Large lo [] no_head
unfolding keep
no-large lo = record { rows = refl; from = λ e. absurd (true≢false (sym e)); two = λ e. absurd (true≢false (sym e)) }

-- the first from lo on, of all
pub scanned : (lo : ℕ) (raw : List Entry) → any low raw ≡ false → Large lo (set_all raw []) (fold (lower_from lo) raw no_head)
scanned lo raw a = scan-all lo raw [] no_head a (no-large lo)

-- ---- the counts one after the other
module _ (s : List ℕ) (at n i : ℕ) (h : i < n) where
  pub raw-next : raw_of (n - i) (drop (at + 16 * i) s)
      ≡ entry (unle (take 8 (drop (at + 16 * i) s))) (unle (take 8 (drop (at + 16 * i + 8) s))) ∷ raw_of (n - (i + 1)) (drop (at + 16 * (i + 1)) s)
  unfolding raw_of
  raw-next =
      let e : n - i ≡ suc (n - (i + 1)) = omega arith in
      let z : at + 16 * i + 16 ≡ at + 16 * (i + 1) = omega arith in
      rw (e, drop-drop 8 (at + 16 * i) s, drop-drop 16 (at + 16 * i) s, z)

pub raw-end : (s : List ℕ) (at n i : ℕ) → n ≤ i → raw_of (n - i) (drop (at + 16 * i) s) ≡ []
unfolding raw_of
raw-end s at n i h = let e : n - i ≡ 0 = omega arith in rw e

pub raw-start : (s : List ℕ) (at n : ℕ) → raw_of (n - 0) (drop (at + 16 * 0) s) ≡ raw_of n (drop at s)
raw-start s at n = let e : n - 0 ≡ n = omega arith in let z : at + 16 * 0 ≡ at = omega arith in rw (e, z)

-- ---- the lower of two
module _ (lo i n : ℕ) (h : Option Head) where
  pub from-unasked : i < lo → h ≡ lower_from lo (entry i n) h
  from-unasked g = rw (lt-ltb i lo g)

  pub from-kept : lo ≤ i → is_some h ≡ true → idx_of h < i → h ≡ lower_from lo (entry i n) h
  from-kept g f b = rw (le-ltb i lo g, f, lt-ltb (idx_of h) i b)

  pub from-lower : lo ≤ i → i ≤ idx_of h → head_at i n ≡ lower_from lo (entry i n) h
  from-lower g b = rw (le-ltb i lo g, le-ltb (idx_of h) i b) (go (is_some h))
    where
      go : (q : Bool) → head_at i n ≡ pick (q && false) h (head_at i n)
      go true = refl
      go false = refl

  pub from_first : lo ≤ i → is_some h ≡ false → head_at i n ≡ lower_from lo (entry i n) h
  from_first g f = rw (le-ltb i lo g, f)

-- ---- tests and the lowest, a count at a time
module _ (s : List ℕ) (at n i : ℕ) (h : i < n) where
  pub low-found : unle (take 8 (drop (at + 16 * i + 8) s)) < 257 → true ≡ any low (raw_of (n - i) (drop (at + 16 * i) s))
  unfolding any
  low-found g = rw (raw-next s at n i h, lt-ltb (unle (take 8 (drop (at + 16 * i + 8) s))) 257 g)

  pub low-passed : 257 ≤ unle (take 8 (drop (at + 16 * i + 8) s))
      → any low (raw_of (n - i) (drop (at + 16 * i) s)) ≡ any low (raw_of (n - (i + 1)) (drop (at + 16 * (i + 1)) s))
  unfolding any
  low-passed g = rw (raw-next s at n i h, le-ltb (unle (take 8 (drop (at + 16 * i + 8) s))) 257 g)

pub low-none : (s : List ℕ) (at n i : ℕ) → n ≤ i → false ≡ any low (raw_of (n - i) (drop (at + 16 * i) s))
unfolding any
low-none s at n i h = rw (raw-end s at n i h)

pub scan-next : (s : List ℕ) (at n i lo : ℕ) (h : Option Head) → i < n
    → fold (lower_from lo) (raw_of (n - i) (drop (at + 16 * i) s)) h
    ≡ fold (lower_from lo) (raw_of (n - (i + 1)) (drop (at + 16 * (i + 1)) s)) (lower_from lo (entry (unle (take 8 (drop (at + 16 * i) s))) (unle (take 8 (drop (at + 16 * i + 8) s)))) h)
unfolding fold
scan-next s at n i lo h g = ap (λ (r : List Entry). fold (lower_from lo) r h) (raw-next s at n i g)

pub scan-end : (s : List ℕ) (at n i lo : ℕ) (h : Option Head) → n ≤ i → h ≡ fold (lower_from lo) (raw_of (n - i) (drop (at + 16 * i) s)) h
unfolding fold
scan-end s at n i lo h g = rw (raw-end s at n i g)
