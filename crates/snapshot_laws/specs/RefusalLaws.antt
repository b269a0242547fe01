-- Each refusal of parsing and of reading a snapshot, exactly under document 01's condition; neither is refused with another number.
-- Assumes nothing.
use Rattle.std.specs.Prelude.{◌≡◌, ◌↔◌, ◌⊎◌, Bool, not, ◌||◌, take, drop, get_or, leb, eqb}
use Rattle.std.proofs.Math.Path.{refl, ap}
use Rattle.std.proofs.Common.{sym, ◌∙◌, zero-add, leb-false, ltb-false, leb-true, le-leb, eqb-true, eq-eqb, ne_eqb, ltb-true, lt-ltb}
use Rattle.std.proofs.Math.Logic.{inl, inr}
use Rattle.std.proofs.Math.Bool.{true, false, false≢true, or-true}
use Rattle.std.proofs.Math.Option.{Option, none, some}
use mathlib.Core.List.{List, [], ◌∷◌, map}
use Prim.Native.Nat.{ℕ, zero, suc, ◌+◌, ◌-◌, ◌/◌, ◌%◌, ◌≤◌, ◌<◌}
use native.Mathlib.Omega.{arith}
use Rattle.std.proofs.Math.Decide.{dec_le, dec_lt}
use Rattle.std.proofs.Math.ListN.{length}
use Rattle.std.proofs.Math.Dec.{ltb}
use Rattle.std.proofs.lemmas.Bool.{not-true, eqb-false}
use Rattle.base.specs.Logic.{all, any, fold, from, elem, ascending_from}
use Rattle.base.specs.Laws.{and_left, and_right, and_both}
use Rattle.counters.specs.Layout.{sound, ordered}
use Rattle.base.specs.Maybe.{maybe}
use Rattle.base.specs.Bytes.{unle}
use Rattle.base.specs.Answers.{Outcome, refused, taken, ◌>>=◌, ◌>>◌, refuse_if, or_refuse, number_of, either}
use Rattle.base.specs.ListLaws.{ltb-lt, or-false, fails-not, or-either, any_some}
use Rattle.base.specs.OutcomeLaws.{other-number, refused-taken, taken_refused, taken-same, ends-here, ends-later, never_ends, flat-three, flat-four, flat-five, Refuses, refuses-none, refuses-step}
use Rattle.base.specs.AnswerLaws.{exactly}
use Rattle.base.specs.declared.Refusal.{Refusal}
use Rattle.base.specs.declared.Refusal.TheVariants.{TableFull, Version, TornSnapshot, BadBitmap, BadLarge, TierClash, FewCells}
use Rattle.slices.specs.NumberLaws.{cut_at, cut_short, read_le-at, read_le-short}
use Rattle.roaring.specs.Read.{parse64}
use Rattle.counters.specs.Counts.{Entry, State, stored_at, fresh_maintenance}
use Rattle.counters.proofs.BoundLaws.{bound-other, bound-few, bound-taken, bound-numbers}
use Rattle.snapshot.specs.Read.{lay_bit, read_sets, read_large, joined, parse_snapshot, read_snapshot}
use Rattle.snapshot_laws.specs.SetLaws.{index, set_row}
use Rattle.snapshot_laws.specs.StoredLaws.{two, stored_some, any-stored, rows-stored, lay_bit-stored, rows-two, lay_bit-two, rows-ascend, lay_bit-ascends}
use Rattle.snapshot_laws.specs.Parts.{next_of, live_of, start, payload, set_of, small_of, rest_of, pairs, large_of, counts_of, Good, GoodBefore, Whole, Torn, BadPayload, BadRest, InSmall, InLarge, InBoth, NotBelow, Clash, Exceeds, ExceedsCells}

-- ---- one set after the other
module _ (bs : List ℕ) where
  -- the sets before k end where set k starts
  reaches : (k : ℕ) → 17 ≤ length bs → GoodBefore bs k → start bs k ≤ length bs
  unfolding start
  reaches zero h g = h
  reaches (suc k) h g = (g k (omega arith)).ends

  module _ (k n : ℕ) (rows : List Entry) where
    set-torn : start bs k ≤ length bs → length bs < start bs (suc k) → read_sets (from k (suc n)) rows (drop (start bs k) bs) ≡ refused TornSnapshot
    unfolding read_sets from start
    set-torn h t =
        elim (dec_lt (length bs) (start bs k + 8)) [
          | yes g ↦ rw (read_le-short 8 (start bs k) bs (omega arith) g)
          | no g ↦ rw (read_le-at 8 (start bs k) bs (omega arith), cut_short (unle (take 8 (drop (start bs k) bs))) (start bs k + 8) bs (omega arith) t)
        ]

    module _ (ends : start bs (suc k) ≤ length bs) where
      set-bad : parse64 (payload bs k) ≡ none → read_sets (from k (suc n)) rows (drop (start bs k) bs) ≡ refused BadBitmap
      unfolding read_sets from start
      set-bad e = rw (read_le-at 8 (start bs k) bs (omega arith), cut_at (unle (take 8 (drop (start bs k) bs))) (start bs k + 8) bs ends, e)

      set-good : ¬ (parse64 (payload bs k) ≡ none)
          → read_sets (from k (suc n)) rows (drop (start bs k) bs) ≡ read_sets (from (suc k) n) (lay_bit k (set_of bs k) rows) (drop (start bs (suc k)) bs)
      unfolding read_sets from start set_of
      set-good g = rw (read_le-at 8 (start bs k) bs (omega arith), cut_at (unle (take 8 (drop (start bs k) bs))) (start bs k + 8) bs ends) (go (parse64 (payload bs k)) g)
        where
          go : (o : Option (List ℕ)) → ¬ (o ≡ none)
              → (or_refuse BadBitmap o >>= (λ ms. read_sets (from (suc k) n) (lay_bit k ms rows) (drop (start bs k + 8 + unle (take 8 (drop (start bs k) bs))) bs)))
              ≡ read_sets (from (suc k) n) (lay_bit k (maybe [] (λ ms. ms) o) rows) (drop (start bs k + 8 + unle (take 8 (drop (start bs k) bs))) bs)
          go none h = absurd (h refl)
          go (some ms) h = refl

  -- good sets are passed
  pass : (k n : ℕ) → GoodBefore bs k → read_sets (from 0 (k + n)) [] (drop 17 bs) ≡ read_sets (from k n) (small_of bs k) (drop (start bs k) bs)
  unfolding start small_of
  pass zero n g = rw (zero-add n)
  pass (suc k) n g =
      let e : suc k + n ≡ k + suc n = omega arith in
      let h = g k (omega arith) in
      rw e (pass k (suc n) (λ i l. g i (omega arith)) ∙ set-good k n (small_of bs k) h.ends h.bitmap)

  -- the sets start behind the first 17 bytes
  starts : (k : ℕ) → 17 ≤ start bs k
  unfolding start
  starts zero = omega arith
  starts (suc k) = omega (arith, starts k)

-- ---- the large tier
two-refusals : {A : Type 0} (a b : Bool) (o : Outcome A) → (refuse_if a BadLarge >> (refuse_if b BadLarge >> o)) ≡ (refuse_if (a || b) BadLarge >> o)
two-refusals true b o = refl
two-refusals false b o = refl

read_pairs : (n : ℕ) (rows : List Entry) (bs : List ℕ)
    → read_large n rows bs ≡ (refuse_if (any (λ e. ltb e.count 257) (pairs n bs)) BadLarge >> taken (fold set_row (pairs n bs) rows))
unfolding read_large pairs any fold
read_pairs zero rows bs = refl
read_pairs (suc n) rows bs =
    let e : Entry = record { idx = unle (take 8 bs); count = unle (take 8 (drop 8 bs)) } in
    rw (read_pairs n (set_row e rows) (drop 16 bs))
    (two-refusals (ltb e.count 257) (any (λ x. ltb x.count 257) (pairs n (drop 16 bs))) (taken (fold set_row (pairs n (drop 16 bs)) (set_row e rows))))

-- ---- the whole of it
-- the tests of what is read, where all payloads are good
module _ (bs : List ℕ) where
  abbrev bad_rest : Bool
  bad_rest = not (eqb (length (rest_of bs) % 16) 0) || any (λ e. ltb e.count 257) (large_of bs)

  abbrev in_both : Bool
  in_both = any (λ e. ltb 0 (stored_at e.idx (small_of bs 8))) (fold set_row (large_of bs) [])

  abbrev not_below : Bool
  not_below = any (λ e. leb (next_of bs) e.idx) (counts_of bs)

-- the state that is read
abbrev pub state_read : ℕ → List ℕ → State
state_read base bs = record { next = next_of bs; live = live_of bs; counts = counts_of bs; maintenance = fresh_maintenance base }

module _ (base room : ℕ) where
  -- the steps behind the eighth payload
  abbrev tested : List ℕ → Outcome State
  tested bs = refuse_if (bad_rest bs) BadLarge >> (refuse_if (in_both bs || not_below bs) TierClash >> (refuse_if (ltb room (length (counts_of bs))) TableFull >> taken (state_read base bs)))

  abbrev after : List ℕ → List Entry × List ℕ → Outcome State
  after bs x =
      refuse_if (not (eqb (length x.1 % 16) 0)) BadLarge
      >> (read_large (length x.1 / 16) [] x.1 >>= (λ big. joined base room (next_of bs) (live_of bs) x.0 big))

  after-tested : (bs : List ℕ) → after bs (small_of bs 8, rest_of bs) ≡ tested bs
  unfolding joined counts_of
  after-tested bs =
      rw (read_pairs (length (rest_of bs) / 16) [] (rest_of bs))
      (go (not (eqb (length (rest_of bs) % 16) 0)) (any (λ e. ltb e.count 257) (large_of bs)) (fold set_row (large_of bs) [])
      (λ big. joined base room (next_of bs) (live_of bs) (small_of bs 8) big))
    where
      go : (a b : Bool) (big : List Entry) (f : List Entry → Outcome State)
          → (refuse_if a BadLarge >> ((refuse_if b BadLarge >> taken big) >>= f)) ≡ (refuse_if (a || b) BadLarge >> f big)
      go true b big f = refl
      go false true big f = refl
      go false false big f = refl

  -- ---- the version byte, next and live
  empty-read : (bs : List ℕ) → length bs ≡ 0 → parse_snapshot base room bs ≡ refused TornSnapshot
  unfolding parse_snapshot
  empty-read [] e = refl
  empty-read (v ∷ r) e = absurd (omega arith)

  version-read : (bs : List ℕ) → 0 < length bs → ¬ (get_or bs 0 0 ≡ 1) → parse_snapshot base room bs ≡ refused Version
  unfolding parse_snapshot
  version-read [] h e = absurd (omega arith)
  version-read (v ∷ r) h e = rw (ne_eqb v 1 e)

  short-read : (bs : List ℕ) → get_or bs 0 0 ≡ 1 → length bs < 17 → parse_snapshot base room bs ≡ refused TornSnapshot
  unfolding parse_snapshot
  short-read [] e h = absurd (omega arith)
  short-read (v ∷ r) e h =
      elim (dec_lt (length (v ∷ r)) 9) [
        | yes g ↦ rw (eq-eqb v 1 e, read_le-short 8 1 (v ∷ r) (omega arith) g)
        | no g ↦ rw (eq-eqb v 1 e, read_le-at 8 1 (v ∷ r) (omega arith), read_le-short 8 9 (v ∷ r) (omega arith) h)
      ]

  headed : (bs : List ℕ) → get_or bs 0 0 ≡ 1 → 17 ≤ length bs → parse_snapshot base room bs ≡ (read_sets (from 0 8) [] (drop 17 bs) >>= after bs)
  unfolding parse_snapshot
  headed [] e h = absurd (omega arith)
  headed (v ∷ r) e h = rw (eq-eqb v 1 e, read_le-at 8 1 (v ∷ r) (omega arith), read_le-at 8 9 (v ∷ r) h)

  -- ---- the ways that parsing goes
  torn-read : (bs : List ℕ) → get_or bs 0 0 ≡ 1 → Torn bs → parse_snapshot base room bs ≡ refused TornSnapshot
  torn-read bs e t =
      elim (dec_lt (length bs) 17) [
        | yes g ↦ short-read bs e g
        | no g ↦
            let k : ℕ = t.set in
            let n : ℕ = 7 - k in
            let q : 8 ≡ k + suc n = omega (arith, t.among) in
            headed bs e (omega arith)
            ∙ rw (q, pass bs k (suc n) t.before, set-torn bs k n (small_of bs k) (reaches bs k (omega arith) t.before) t.ends_early)
      ]

  bad-read : (bs : List ℕ) → get_or bs 0 0 ≡ 1 → BadPayload bs → parse_snapshot base room bs ≡ refused BadBitmap
  bad-read bs e t =
      let k : ℕ = t.set in
      let n : ℕ = 7 - k in
      let q : 8 ≡ k + suc n = omega (arith, t.among) in
      headed bs e (omega (arith, starts bs (suc k), t.ends))
      ∙ rw (q, pass bs k (suc n) t.before, set-bad bs k n (small_of bs k) t.ends t.breaks)

  good-read : (bs : List ℕ) → get_or bs 0 0 ≡ 1 → GoodBefore bs 8 → parse_snapshot base room bs ≡ tested bs
  unfolding read_sets from
  good-read bs e g =
      headed bs e (omega (arith, starts bs 8, (g 7 (omega arith)).ends)) ∙ ap (λ (o : Outcome (List Entry × List ℕ)). o >>= after bs) (pass bs 8 0 g) ∙ after-tested bs

-- ---- which way it goes
data Way (bs : List ℕ) : Type 0 where
  empty : length bs ≡ 0 → Way bs
  version : 0 < length bs → ¬ (get_or bs 0 0 ≡ 1) → Way bs
  torn : get_or bs 0 0 ≡ 1 → Torn bs → Way bs
  bad : get_or bs 0 0 ≡ 1 → BadPayload bs → Way bs
  good : Whole bs → Way bs

module _ (bs : List ℕ) where
  one-more : (k : ℕ) → GoodBefore bs k → Good bs k → GoodBefore bs (suc k)
  one-more k g h i l =
      elim (dec_lt i k) [
        | yes m ↦ g i m
        | no m ↦ let e : i ≡ k = omega arith in rw e h
      ]

  walk : get_or bs 0 0 ≡ 1 → (n k : ℕ) → k + n ≡ 8 → GoodBefore bs k → Way bs
  walk v zero k q g = good (record { version = v; sets = λ i l. g i (omega arith) })
  walk v (suc n) k q g =
      elim (dec_lt (length bs) (start bs (suc k))) [
        | yes h ↦ torn v (record { set = k; among = omega arith; before = g; ends_early = h })
        | no h ↦ go (omega arith) (parse64 (payload bs k)) refl (walk v n (suc k) (omega arith))
      ]
    where
      go : start bs (suc k) ≤ length bs → (o : Option (List ℕ)) → parse64 (payload bs k) ≡ o → (GoodBefore bs (suc k) → Way bs) → Way bs
      go h none p next = bad v (record { set = k; among = omega arith; before = g; ends = h; breaks = p })
      go h (some ms) p next = next (one-more k g (record { ends = h; bitmap = λ e. some-none (sym p ∙ e) }))
        where
          some-none : some ms ≡ none → ⊥
          some-none e = let z : ◌≡◌ {A = ℕ} 0 1 = cc in omega arith

  way : Way bs
  way =
      elim (dec_le (length bs) 0) [
        | yes h ↦ empty (omega arith)
        | no h ↦ go (omega arith) (eqb (get_or bs 0 0) 1) refl
      ]
    where
      go : 0 < length bs → (b : Bool) → eqb (get_or bs 0 0) 1 ≡ b → Way bs
      go h true q = walk (eqb-true (get_or bs 0 0) 1 q) 8 0 (omega arith) (λ i l. absurd (omega arith))
      go h false q = version h (eqb-false (get_or bs 0 0) 1 q)

-- ---- the tests of what is read
module _ (bs : List ℕ) where
  bad_rest-test : (bad_rest bs ≡ true) ↔ BadRest bs
  bad_rest-test =
      or-either (not (eqb (length (rest_of bs) % 16) 0)) (any (λ e. ltb e.count 257) (large_of bs)) (ragged (length (rest_of bs) % 16))
      (any_some (λ e. ltb e.count 257) (λ e. ltb-lt e.count 257) (large_of bs))
    where
      ragged : (n : ℕ) → (not (eqb n 0) ≡ true) ↔ (¬ (n ≡ 0))
      ragged n = (λ e. eqb-false n 0 (not-true (eqb n 0) e), λ h. rw (ne_eqb n 0 h))

  -- an index has a count of the small tier exactly where one of the sets has it
  small-stored : (j k : ℕ) → (0 < stored_at j (small_of bs k)) ↔ ((i : ℕ) × (i < k) × (elem j (set_of bs i) ≡ true))
  unfolding small_of stored_at
  small-stored j zero = (λ h. absurd (omega arith), λ w. absurd (omega (arith, w.1)))
  small-stored j (suc k) = (to (small-stored j k).0, from (small-stored j k).1)
    where
      Before : Type 0
      Before = (i : ℕ) × (i < k) × (elem j (set_of bs i) ≡ true)

      r : (0 < stored_at j (lay_bit k (set_of bs k) (small_of bs k))) ↔ ((elem j (set_of bs k) ≡ true) ⊎ (0 < stored_at j (small_of bs k)))
      r = lay_bit-stored j k (set_of bs k) (small_of bs k)

      to : (0 < stored_at j (small_of bs k) → Before) → 0 < stored_at j (lay_bit k (set_of bs k) (small_of bs k)) → (i : ℕ) × (i < suc k) × (elem j (set_of bs i) ≡ true)
      to before h = elim (r.0 h) [ inl e ↦ (k, omega arith, e) | inr g ↦ let w = before g in (w.0, omega (arith, w.1), w.2) ]

      from : (Before → 0 < stored_at j (small_of bs k)) → (i : ℕ) × (i < suc k) × (elem j (set_of bs i) ≡ true) → 0 < stored_at j (lay_bit k (set_of bs k) (small_of bs k))
      from before w =
          elim (dec_lt w.0 k) [
            | yes l ↦ r.1 (inr (before (w.0, l, w.2)))
            | no l ↦ let e : k ≡ w.0 = omega (arith, w.1) in r.1 (inl (rw e w.2))
          ]

  small-two : (k : ℕ) → all two (small_of bs k) ≡ true
  unfolding small_of all
  small-two zero = refl
  small-two (suc k) = lay_bit-two k (set_of bs k) (small_of bs k) (small-two k)

  in_small : (j : ℕ) → (0 < stored_at j (small_of bs 8)) ↔ InSmall bs j
  in_small j =
      let r = small-stored j 8 in
      (λ h. let w = r.0 h in record { set = w.0; among = w.1; member = w.2 }, λ s. r.1 (s.set, s.among, s.member))

  module _ (counts : all two (large_of bs) ≡ true) where
    abbrev big : List Entry
    big = fold set_row (large_of bs) []

    big-two : all two big ≡ true
    unfolding all
    big-two = rows-two (large_of bs) [] refl

    in-large : (j : ℕ) → (0 < stored_at j big) ↔ InLarge bs j
    unfolding stored_at
    in-large j =
        let r = rows-stored j (large_of bs) [] counts in
        (λ h. elim (r.0 h) [ inl s ↦ s | inr g ↦ absurd (omega arith) ], λ s. r.1 (inl s))

    in_either : (j : ℕ) → (0 < stored_at j (counts_of bs)) ↔ (InSmall bs j ⊎ InLarge bs j)
    unfolding counts_of
    in_either j =
        let r = rows-stored j big (small_of bs 8) big-two in
        let l = stored_some j big big-two in (
          λ h. elim (r.0 h) [ inl s ↦ inr ((in-large j).0 (l.1 s)) | inr g ↦ inl ((in_small j).0 g) ],
          λ s. elim s [ inl g ↦ r.1 (inr ((in_small j).1 g)) | inr g ↦ r.1 (inl (l.0 ((in-large j).1 g))) ],
        )

    counts-two : all two (counts_of bs) ≡ true
    unfolding counts_of
    counts-two = rows-two big (small_of bs 8) (small-two 8)

    clash-test : ((in_both bs || not_below bs) ≡ true) ↔ Clash bs
    clash-test = or-either (in_both bs) (not_below bs) both high
      where
        both : (in_both bs ≡ true) ↔ InBoth bs
        both =
            let r = any-stored (λ j. ltb 0 (stored_at j (small_of bs 8))) big big-two in (
              λ e. let w = r.0 e in record { index = w.0; small = (in_small w.0).0 (ltb-true 0 (stored_at w.0 (small_of bs 8)) w.2); large = (in-large w.0).0 w.1 },
              λ c. r.1 (c.index, (in-large c.index).1 c.large, lt-ltb 0 (stored_at c.index (small_of bs 8)) ((in_small c.index).1 c.small)),
            )

        high : (not_below bs ≡ true) ↔ NotBelow bs
        high =
            let r = any-stored (leb (next_of bs)) (counts_of bs) counts-two in (
              λ e. let w = r.0 e in record { index = w.0; stored = (in_either w.0).0 w.1; high = leb-true (next_of bs) w.0 w.2 },
              λ c. r.1 (c.index, (in_either c.index).1 c.stored, le-leb (next_of bs) c.index c.high),
            )

-- counts that aren't below 257 are at least 2
large-two : (xs : List Entry) → any (λ e. ltb e.count 257) xs ≡ false → all two xs ≡ true
unfolding any all
large-two [] e = refl
large-two (x ∷ xs) e =
    let f = or-false (ltb x.count 257) (any (λ y. ltb y.count 257) xs) e in
    rw (le-leb 2 x.count (omega (arith, ltb-false x.count 257 f.0))) (large-two xs f.1)

-- a condition that is another under a first one
under : {X A B C : Type 0} → X ↔ (A × B) → (A → B ↔ C) → X ↔ (A × C)
under h f = (λ x. let p = h.0 x in (p.0, (f p.0).0 p.1), λ p. h.1 (p.0, (f p.0).1 p.1))

not_iff : {A B : Type 0} → A ↔ B → (¬ A) ↔ (¬ B)
not_iff h = (λ n b. n (h.1 b), λ n a. n (h.0 a))

both_iff : {A B C : Type 0} → A ↔ B → (A × C) ↔ (B × C)
both_iff h = (λ p. (h.0 p.0, p.1), λ p. (h.1 p.0, p.1))

itself : (b : Bool) → (b ≡ true) ↔ (b ≡ true)
itself b = (λ e. e, λ e. e)

module _ (base room : ℕ) (bs : List ℕ) where
  abbrev clashes : Bool
  clashes = in_both bs || not_below bs

  abbrev exceeds : Bool
  exceeds = ltb room (length (counts_of bs))

  exceeds-test : (exceeds ≡ true) ↔ Exceeds bs room
  exceeds-test = ltb-lt room (length (counts_of bs))

  no-low : ¬ BadRest bs → all two (large_of bs) ≡ true
  no-low n =
      let none = or-false (not (eqb (length (rest_of bs) % 16) 0)) (any (λ e. ltb e.count 257) (large_of bs)) ((fails-not (bad_rest bs) (bad_rest-test bs)).1 n) in
      large-two (large_of bs) none.1

  clashes-test : ¬ BadRest bs → (clashes ≡ true) ↔ Clash bs
  clashes-test n = clash-test bs (no-low n)

  -- ---- the steps behind the eighth payload
  tested-bad : (tested base room bs ≡ refused BadLarge) ↔ BadRest bs
  tested-bad = ends-here (bad_rest-test bs) (never_ends (itself clashes) (other-number (omega arith)) (never_ends exceeds-test (other-number (omega arith)) taken_refused))

  tested-clash : (tested base room bs ≡ refused TierClash) ↔ ((¬ BadRest bs) × Clash bs)
  tested-clash =
      under (ends-later (bad_rest-test bs) (other-number (omega arith)) (ends-here (itself clashes) (never_ends exceeds-test (other-number (omega arith)) taken_refused))) clashes-test

  tested-full : (tested base room bs ≡ refused TableFull) ↔ ((¬ BadRest bs) × ((¬ Clash bs) × Exceeds bs room))
  tested-full =
      under (ends-later (bad_rest-test bs) (other-number (omega arith)) (ends-later (itself clashes) (other-number (omega arith)) (ends-here exceeds-test taken_refused)))
      (λ n. both_iff (not_iff (clashes-test n)))

  tested-taken : (s : State) → (tested base room bs ≡ taken s) ↔ ((¬ BadRest bs) × ((¬ Clash bs) × ((¬ Exceeds bs room) × (s ≡ state_read base bs))))
  tested-taken s =
      under (ends-later (bad_rest-test bs) refused-taken (ends-later (itself clashes) refused-taken (ends-later exceeds-test refused-taken (taken-same (state_read base bs) s))))
      (λ n. both_iff (not_iff (clashes-test n)))

  -- they give no other number
  tested-numbers : Refuses (10 ∷ 11 ∷ 6 ∷ []) (tested base room bs)
  tested-numbers =
      refuses-step BadLarge (11 ∷ 6 ∷ []) (bad_rest-test bs)
      (refuses-step TierClash (6 ∷ []) (itself clashes) (refuses-step TableFull [] exceeds-test (refuses-none [] (state_read base bs))))

  -- ---- each refusal
  -- what parsing comes to, by the way that it goes
  by_way : {P : Type 0} (o : Outcome State) → parse_snapshot base room bs ≡ o → (length bs ≡ 0 → refused TornSnapshot ≡ o → P)
      → (0 < length bs → ¬ (get_or bs 0 0 ≡ 1) → refused Version ≡ o → P) → (get_or bs 0 0 ≡ 1 → Torn bs → refused TornSnapshot ≡ o → P)
      → (get_or bs 0 0 ≡ 1 → BadPayload bs → refused BadBitmap ≡ o → P) → (Whole bs → tested base room bs ≡ o → P) → P
  by_way {P} o e f-empty f-version f-torn f-bad f-good = go (way bs)
    where
      go : Way bs → P
      go (empty h) = f-empty h (sym (empty-read base room bs h) ∙ e)
      go (version h n) = f-version h n (sym (version-read base room bs h n) ∙ e)
      go (torn v t) = f-torn v t (sym (torn-read base room bs v t) ∙ e)
      go (bad v t) = f-bad v t (sym (bad-read base room bs v t) ∙ e)
      go (good w) = f-good w (sym (good-read base room bs w.version w.sets) ∙ e)

  -- 7, version: the first byte isn't 1
  pub parse-version : (parse_snapshot base room bs ≡ refused Version) ↔ ((0 < length bs) × (¬ (get_or bs 0 0 ≡ 1)))
  unfolding any
  parse-version = (
    (λ e. by_way (refused Version) e (λ h q. absurd (other-number (omega arith) q)) (λ h n q. (h, n)) (λ v t q. absurd (other-number (omega arith) q))
        (λ v t q. absurd (other-number (omega arith) q)) (λ w q. absurd (false≢true (tested-numbers Version q)))),
    λ p. version-read base room bs p.0 p.1,
  )

  -- 8, torn snapshot: empty, or it ends before the eighth payload does, and those before the one that is cut are good
  pub parse-torn : (parse_snapshot base room bs ≡ refused TornSnapshot) ↔ ((length bs ≡ 0) ⊎ ((get_or bs 0 0 ≡ 1) × Torn bs))
  unfolding any
  parse-torn = (
    (λ e. by_way (refused TornSnapshot) e (λ h q. inl h) (λ h n q. absurd (other-number (omega arith) q)) (λ v t q. inr (v, t))
        (λ v t q. absurd (other-number (omega arith) q)) (λ w q. absurd (false≢true (tested-numbers TornSnapshot q)))),
    λ s. elim s [ inl h ↦ empty-read base room bs h | inr p ↦ torn-read base room bs p.0 p.1 ],
  )

  -- 9, bad bitmap: a payload breaks the rules, and those before it are good
  pub parse-bad-bitmap : (parse_snapshot base room bs ≡ refused BadBitmap) ↔ ((get_or bs 0 0 ≡ 1) × BadPayload bs)
  unfolding any
  parse-bad-bitmap = (
    (λ e. by_way (refused BadBitmap) e (λ h q. absurd (other-number (omega arith) q)) (λ h n q. absurd (other-number (omega arith) q))
        (λ v t q. absurd (other-number (omega arith) q)) (λ v t q. (v, t)) (λ w q. absurd (false≢true (tested-numbers BadBitmap q)))),
    λ p. bad-read base room bs p.0 p.1,
  )

  -- any other answer comes where the version is 1 and all payloads are good
  behind : {Q : Type 0} (o : Outcome State) → (refused TornSnapshot ≡ o → ⊥) → (refused Version ≡ o → ⊥) → (refused BadBitmap ≡ o → ⊥) → (tested base room bs ≡ o) ↔ Q
      → (parse_snapshot base room bs ≡ o) ↔ (Whole bs × Q)
  behind o f g h r = (
    (λ e. by_way o e (λ l q. absurd (f q)) (λ l n q. absurd (g q)) (λ v t q. absurd (f q)) (λ v t q. absurd (h q)) (λ w q. (w, r.0 q))),
    λ p. good-read base room bs p.0.version p.0.sets ∙ r.1 p.1,
  )

  -- 10, bad large: the rest isn't a multiple of 16, or a count is below 257
  pub parse-bad-large : (parse_snapshot base room bs ≡ refused BadLarge) ↔ (Whole bs × BadRest bs)
  parse-bad-large = behind (refused BadLarge) (other-number (omega arith)) (other-number (omega arith)) (other-number (omega arith)) tested-bad

  -- 11, tier clash: an index is in both tiers, or not below the next index
  pub parse-tier-clash : (parse_snapshot base room bs ≡ refused TierClash) ↔ (Whole bs × (¬ BadRest bs) × Clash bs)
  parse-tier-clash = flat-three (behind (refused TierClash) (other-number (omega arith)) (other-number (omega arith)) (other-number (omega arith)) tested-clash)

  -- 6, table full: the counts exceed the table
  pub parse-table-full : (parse_snapshot base room bs ≡ refused TableFull) ↔ (Whole bs × (¬ BadRest bs) × (¬ Clash bs) × Exceeds bs room)
  parse-table-full = flat-four (behind (refused TableFull) (other-number (omega arith)) (other-number (omega arith)) (other-number (omega arith)) tested-full)

  -- taken: none of the six
  pub parse-taken : (s : State) → (parse_snapshot base room bs ≡ taken s) ↔ (Whole bs × (¬ BadRest bs) × (¬ Clash bs) × (¬ Exceeds bs room) × (s ≡ state_read base bs))
  parse-taken s = flat-five (behind (taken s) refused-taken refused-taken refused-taken (tested-taken s))

  -- it is refused with no other number
  pub parse-numbers : Refuses (8 ∷ 7 ∷ 9 ∷ 10 ∷ 11 ∷ 6 ∷ []) (parse_snapshot base room bs)
  unfolding any
  parse-numbers q e =
      by_way (refused q) e (λ h p. same TornSnapshot refl p) (λ h n p. same Version refl p) (λ v t p. same TornSnapshot refl p) (λ v t p. same BadBitmap refl p)
      (λ w p. rw (tested-numbers q p) (or-three (eqb (number_of q) 8) (eqb (number_of q) 7) (eqb (number_of q) 9)))
    where
      ns : List ℕ
      ns = 8 ∷ 7 ∷ 9 ∷ 10 ∷ 11 ∷ 6 ∷ []

      same : (r : Refusal) → elem (number_of r) ns ≡ true → ◌≡◌ {A = Outcome State} (refused r) (refused q) → elem (number_of q) ns ≡ true
      same r m p = ap (λ (n : ℕ). elem n ns) (sym (ap (either number_of (λ a. 0)) p)) ∙ m

      or-three : (a b c : Bool) → (a || (b || (c || true))) ≡ true
      or-three a b c = rw (or-true c, or-true b, or-true a)

-- ---- reading: what the snapshot says, and 25 last
module _ (base room : ℕ) (bs : List ℕ) where
  -- a refusal with another number than 25 is parsing's
  before : {q : Refusal} → (number_of FewCells ≡ number_of q → ⊥) → (read_snapshot base room bs ≡ refused q) ↔ (parse_snapshot base room bs ≡ refused q)
  unfolding read_snapshot
  before other = bound-other (parse_snapshot base room bs) other

  -- 7, version
  pub read-version : (read_snapshot base room bs ≡ refused Version) ↔ ((0 < length bs) × (¬ (get_or bs 0 0 ≡ 1)))
  read-version = exactly (before (omega arith)) (parse-version base room bs)

  -- 8, torn snapshot
  pub read-torn : (read_snapshot base room bs ≡ refused TornSnapshot) ↔ ((length bs ≡ 0) ⊎ ((get_or bs 0 0 ≡ 1) × Torn bs))
  read-torn = exactly (before (omega arith)) (parse-torn base room bs)

  -- 9, bad bitmap
  pub read-bad-bitmap : (read_snapshot base room bs ≡ refused BadBitmap) ↔ ((get_or bs 0 0 ≡ 1) × BadPayload bs)
  read-bad-bitmap = exactly (before (omega arith)) (parse-bad-bitmap base room bs)

  -- 10, bad large
  pub read-bad-large : (read_snapshot base room bs ≡ refused BadLarge) ↔ (Whole bs × BadRest bs)
  read-bad-large = exactly (before (omega arith)) (parse-bad-large base room bs)

  -- 11, tier clash
  pub read-tier-clash : (read_snapshot base room bs ≡ refused TierClash) ↔ (Whole bs × (¬ BadRest bs) × Clash bs)
  read-tier-clash = exactly (before (omega arith)) (parse-tier-clash base room bs)

  -- 6, table full
  pub read-table-full : (read_snapshot base room bs ≡ refused TableFull) ↔ (Whole bs × (¬ BadRest bs) × (¬ Clash bs) × Exceeds bs room)
  read-table-full = exactly (before (omega arith)) (parse-table-full base room bs)

  -- 25, few cells: none of the six, and the counts exceed the live total
  pub read-few : (read_snapshot base room bs ≡ refused FewCells) ↔ (Whole bs × (¬ BadRest bs) × (¬ Clash bs) × (¬ Exceeds bs room) × ExceedsCells bs)
  unfolding read_snapshot any
  read-few =
      exactly (bound-few (parse_snapshot base room bs) (λ e. false≢true (parse-numbers base room bs FewCells e))) (
        (λ (s, e, few). let (w, r, c, x, same) = (parse-taken base room bs s).0 e in (w, r, c, x, rw same at few)),
        λ (w, r, c, x, few). (state_read base bs, (parse-taken base room bs (state_read base bs)).1 (w, r, c, x, refl), few),
      )

  -- taken: none of the seven
  pub read_taken : (s : State) → (read_snapshot base room bs ≡ taken s)
      ↔ (Whole bs × (¬ BadRest bs) × (¬ Clash bs) × (¬ Exceeds bs room) × (¬ ExceedsCells bs) × (s ≡ state_read base bs))
  unfolding read_snapshot
  read_taken s =
      exactly (bound-taken (parse_snapshot base room bs) s) (
        (λ (e, many). let (w, r, c, x, same) = (parse-taken base room bs s).0 e in (w, r, c, x, enough same many, same)),
        λ (w, r, c, x, many, same). ((parse-taken base room bs s).1 (w, r, c, x, same), rw same (omega (arith, many))),
      )
    where
      enough : s ≡ state_read base bs → length s.counts ≤ s.live → ¬ ExceedsCells bs
      enough same many few = let h : length (counts_of bs) ≤ live_of bs = rw same at many in omega arith

  -- it is refused with no other number
  pub read-numbers : Refuses (8 ∷ 7 ∷ 9 ∷ 10 ∷ 11 ∷ 6 ∷ 25 ∷ []) (read_snapshot base room bs)
  unfolding read_snapshot
  read-numbers = bound-numbers (parse_snapshot base room bs) (8 ∷ 7 ∷ 9 ∷ 10 ∷ 11 ∷ 6 ∷ []) (parse-numbers base room bs)

-- ---- what is read
module _ (bs : List ℕ) where
  small-ascends : (k : ℕ) → ascending_from 0 (map index (small_of bs k)) ≡ true
  unfolding small_of ascending_from
  small-ascends zero = refl
  small-ascends (suc k) = lay_bit-ascends k (set_of bs k) (small_of bs k) (small-ascends k)

  pub counts-ascend : ascending_from 0 (map index (counts_of bs)) ≡ true
  unfolding counts_of
  counts-ascend = rows-ascend (fold set_row (large_of bs) []) (small_of bs 8) (small-ascends 8)

-- rows none of which is at or above a bound
below_all : (next : ℕ) (es : List Entry) → any (λ e. leb next e.idx) es ≡ false → all two es ≡ true → all (sound next) es ≡ true
unfolding any all
below_all next [] e t = refl
below_all next (x ∷ xs) e t =
    let f = or-false (leb next x.idx) (any (λ y. leb next y.idx) xs) e in
    rw (lt-ltb x.idx next (leb-false next x.idx f.0), and_left (two x) (all two xs) t) (below_all next xs f.1 (and_right (two x) (all two xs) t))

module _ (base room : ℕ) (bs : List ℕ) (s : State) (ok : parse_snapshot base room bs ≡ taken s) where
  pub parse-state : s ≡ state_read base bs
  parse-state = ((parse-taken base room bs s).0 ok).4

  -- the counts are ascending, at least 2, below the next index
  pub parse-ordered : ordered s.next s.counts ≡ true
  unfolding ordered
  parse-ordered =
      let r = (parse-taken base room bs s).0 ok in
      let apart = or-false (in_both bs) (not_below bs) ((fails-not (clashes base room bs) (clashes-test base room bs r.1)).1 r.2) in
      rw parse-state
      (and_both (ascending_from 0 (map index (counts_of bs))) (all (sound (next_of bs)) (counts_of bs)) (counts-ascend bs)
      (below_all (next_of bs) (counts_of bs) apart.1 (counts-two bs (no-low base room bs r.1))))

  -- and there is room for them
  pub parse-fits : length s.counts ≤ room
  parse-fits = rw parse-state (omega (arith, ((parse-taken base room bs s).0 ok).3))

  -- every count of the large tier is at least 2
  pub large-parsed : all two (large_of bs) ≡ true
  large-parsed = no-low base room bs ((parse-taken base room bs s).0 ok).1

-- a snapshot that is read is one that parses, with no more counts than cells
module _ (base room : ℕ) (bs : List ℕ) (s : State) (ok : read_snapshot base room bs ≡ taken s) where
  pub read-parsed : parse_snapshot base room bs ≡ taken s
  unfolding read_snapshot
  read-parsed = ((bound-taken (parse_snapshot base room bs) s).0 ok).0

  pub read-bounded : length s.counts ≤ s.live
  unfolding read_snapshot
  read-bounded = ((bound-taken (parse_snapshot base room bs) s).0 ok).1
