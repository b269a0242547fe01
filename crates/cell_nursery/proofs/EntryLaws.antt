-- What an insert and a remove leave: the entry of each hash, the numbers of rows and bytes, and the order.
-- Assumes nothing.
use Rattle.std.specs.Prelude.{◌≡◌, Bool, ◌||◌, ℕ, zero, suc, ◌+◌, ◌^◌, ◌≤◌, ◌<◌, get_or}
use Rattle.std.proofs.Math.Path.{refl, ap}
use Rattle.std.proofs.Common.{◌∙◌}
use Rattle.std.proofs.Math.Bool.{true, false, not}
use Rattle.std.proofs.Math.Option.{Option, none, some}
use mathlib.Core.List.{List, [], ◌∷◌, ◌++◌, map}
use native.Mathlib.Omega.{arith}
use Rattle.std.proofs.Math.Decide.{dec_le, ℕ_discrete}
use Rattle.std.proofs.Math.ListN.{length}
use Rattle.std.proofs.lemmas.List.{length-map}
use Rattle.std.proofs.Math.Dec.{leb, ltb, eqb}
use borrow.Author.Tests.{lt-ltb, le-ltb, le-leb, lt-leb, eq-eqb, ne_eqb, eqb-false, ltb-false}
use Rattle.base.specs.Logic.{pick, all, any, elem, fold, keep, repeated, sum_of, ascending, ascending_from, sorted_from}
use Rattle.base.specs.Maybe.{maybe}
use Rattle.base.specs.Laws.{and_left, and_right, ascending-tail, ascending-sorted}
use Rattle.rows.proofs.KeyLaws.{put_rows, sorted-over}
use Rattle.cell_nursery.specs.Entries.{Entry, Waiting, State, empty, tied, cell_bytes, put_entry, insert, remove}
use Rattle.cell_nursery.proofs.PutLaws.{put_waiting-rows}
use Rattle.cell_nursery.specs.Items.{Delta}
use Rattle.cell_nursery.specs.Delta.{Room, present, full, state_after}
use Rattle.cell_nursery.specs.Drain.{due, drained, lookup}
use Rattle.base.specs.ListLaws.{eqb-sym, all_keep, ascending-keep}
use Rattle.base.specs.SumLaws.{or_left, or_right, all_one, sum-keep, length-keep, keep-sorted}
use Rattle.cell_nursery.proofs.ItemLaws.{item-fits}
use Rattle.cell_nursery.specs.Held.{fits_item, Absent, fits_waiting, WellFormed}
use Rattle.cell_nursery.proofs.WaitLaws.{gone_of, waits-insert, waits-remove, waits-drained, tied-waits, waits-tied, present-absent, first_absent, still-absent}
use Rattle.rows.proofs.RowLaws.{put-one-ascending, put-one-sorted, all-put, sum-put, length-put, length-put-between, keep-absent}

-- ---- the entry of a hash

-- the entry of a hash, or none
unfoldable pub entry_at : ℕ → List Entry → Option Entry
entry_at h [] = none
entry_at h (e ∷ es) = pick (eqb e.hash h) (some e) (entry_at h es)

-- a lookup gives its index
pub lookup-entry_at : (h : ℕ) (es : List Entry) → lookup h es ≡ maybe none (λ e. some e.idx) (entry_at h es)
unfolding lookup entry_at
lookup-entry_at h [] = refl
lookup-entry_at h (e ∷ es) =
    let rest = lookup-entry_at h es in
    elim (eqb e.hash h) as (λ b. pick b (some e.idx) (lookup h es) ≡ maybe none (λ x. some x.idx) (pick b (some e) (entry_at h es))) [ true ↦ refl | false ↦ rest ]

-- a hash is among the entries' exactly where it has one
pub elem-entry_at : (h : ℕ) (es : List Entry) → elem h (map (λ e. e.hash) es) ≡ maybe false (λ e. true) (entry_at h es)
unfolding entry_at any
elem-entry_at h [] = refl
elem-entry_at h (e ∷ es) = rw (eqb-sym h e.hash, elem-entry_at h es) (go (eqb e.hash h))
  where
    go : (b : Bool) → (b || maybe false (λ x. true) (entry_at h es)) ≡ maybe false (λ x. true) (pick b (some e) (entry_at h es))
    go true = refl
    go false = refl

module _ (h : ℕ) where
  at-append : (xs ys : List Entry) → entry_at h (xs ++ ys) ≡ maybe (entry_at h ys) some (entry_at h xs)
  unfolding entry_at
  at-append [] ys = refl
  at-append (x ∷ xs) ys =
      let rest = at-append xs ys in
      elim (eqb x.hash h) as (λ b. pick b (some x) (entry_at h (xs ++ ys)) ≡ maybe (entry_at h ys) some (pick b (some x) (entry_at h xs))) [ true ↦ refl | false ↦ rest ]

  -- what a test on hashes keeps
  at-keep : (q : ℕ → Bool) (es : List Entry) → entry_at h (keep (λ e. q e.hash) es) ≡ pick (q h) (entry_at h es) none
  unfolding entry_at keep
  at-keep q [] = elim (q h) as (λ b. none ≡ pick {A = Option Entry} b none none) [ true ↦ refl | false ↦ refl ]
  at-keep q (e ∷ es) = go (ℕ_discrete e.hash h) (at-keep q es)
    where
      kept : List Entry
      kept = keep (λ x. q x.hash) es

      here : e.hash ≡ h → (b : Bool) → entry_at h kept ≡ pick b (entry_at h es) none → entry_at h (pick b (e ∷ kept) kept) ≡ pick b (some e) none
      here m true r = rw (eq-eqb e.hash h m)
      here m false r = r

      there : (e.hash ≡ h → ⊥) → (b : Bool) → entry_at h (pick b (e ∷ kept) kept) ≡ entry_at h kept
      there m true = rw (ne_eqb e.hash h m)
      there m false = refl

      go : Dec (e.hash ≡ h) → entry_at h kept ≡ pick (q h) (entry_at h es) none
          → entry_at h (pick (q e.hash) (e ∷ kept) kept) ≡ pick (q h) (pick (eqb e.hash h) (some e) (entry_at h es)) none
      go (yes m) r = rw (eq-eqb e.hash h m, ap q m) (here m (q h) r)
      go (no m) r = rw (ne_eqb e.hash h m) (there m (q e.hash) ∙ r)

  maybe-none : (x : Option Entry) → maybe none some x ≡ x
  maybe-none none = refl
  maybe-none (some e) = refl

  -- after an entry is put, and after those of a hash are gone
  pub entry_at-put : (e : Entry) (es : List Entry) → entry_at h (put_entry e es) ≡ pick (eqb h e.hash) (some e) (entry_at h es)
  unfolding put_entry put_rows entry_at
  entry_at-put e es =
      let i = e.hash in
      at-append (keep (λ x. ltb x.hash i) es) (e ∷ keep (λ x. leb (suc i) x.hash) es)
      ∙ rw (at-keep (λ x. ltb x i) es, at-keep (λ x. leb (suc i) x) es)
      (elim (dec_le i h) [
        | yes g ↦ elim (dec_le (suc i) h) [
          | yes l ↦ rw (le-ltb h i g, le-leb (suc i) h l, ne_eqb i h (omega arith), ne_eqb h i (omega arith))
          | no l ↦ rw (le-ltb h i g, eq-eqb i h (omega arith), eq-eqb h i (omega arith))
        ]
        | no g ↦ rw (lt-ltb h i (omega arith), lt-leb (suc i) h (omega arith), ne_eqb i h (omega arith), ne_eqb h i (omega arith)) (maybe-none (entry_at h es))
      ])

  pub entry_at-removed : (g : ℕ) (es : List Entry) → entry_at h (keep (λ e. not (eqb e.hash g)) es) ≡ pick (eqb h g) none (entry_at h es)
  entry_at-removed g es =
      at-keep (λ x. not (eqb x g)) es ∙ elim (eqb h g) as (λ b. pick (not b) (entry_at h es) none ≡ pick b none (entry_at h es)) [ true ↦ refl | false ↦ refl ]

-- lookup after an insert, and after a remove
pub lookup-insert : (h : ℕ) (e : Entry) (s : State) → lookup h (insert e s).entries ≡ pick (eqb h e.hash) (some e.idx) (lookup h s.entries)
unfolding insert
lookup-insert h e s =
    rw (lookup-entry_at h (put_entry e s.entries), lookup-entry_at h s.entries, entry_at-put h e s.entries)
    (elim (eqb h e.hash) as (λ b. maybe none (λ x. some x.idx) (pick b (some e) (entry_at h s.entries)) ≡ pick b (some e.idx) (maybe none (λ x. some x.idx) (entry_at h s.entries))) [ true ↦ refl | false ↦ refl ])

pub lookup-remove : (h g : ℕ) (s : State) → lookup h (remove g s).entries ≡ pick (eqb h g) none (lookup h s.entries)
unfolding remove
lookup-remove h g s =
    rw (lookup-entry_at h (keep (λ e. not (eqb e.hash g)) s.entries), lookup-entry_at h s.entries, entry_at-removed h g s.entries)
    (elim (eqb h g) as (λ b. maybe none (λ x. some x.idx) (pick b none (entry_at h s.entries)) ≡ pick b none (maybe none (λ x. some x.idx) (entry_at h s.entries))) [ true ↦ refl | false ↦ refl ])

-- the entry of a hash that stands at a place, and of one that is not there
pub entry_at-hit : (h lo : ℕ) (es : List Entry) (k : ℕ) (d : Entry) → ascending_from lo (map (λ e. e.hash) es) ≡ true → k < length es → get_or (map (λ e. e.hash) es) k 0 ≡ h
    → entry_at h es ≡ some (get_or es k d)
unfolding entry_at
entry_at-hit h lo [] k d o l m = absurd (omega arith)
entry_at-hit h lo (e ∷ es) zero d o l m = rw (eq-eqb e.hash h m)
entry_at-hit h lo (e ∷ es) (suc k) d o l m =
    let r = ascending-tail lo e.hash (map (λ x. x.hash) es) o in
    let over = sorted-over (suc e.hash) (map (λ x. x.hash) es) k (ascending-sorted (suc e.hash) (map (λ x. x.hash) es) r) (rw (length-map es (λ x. x.hash)) (omega arith)) in
    rw (ne_eqb e.hash h (omega arith)) (entry_at-hit h (suc e.hash) es k d r (omega arith) m)

pub entry_at-miss : (h : ℕ) (es : List Entry) → elem h (map (λ e. e.hash) es) ≡ false → entry_at h es ≡ none
unfolding entry_at any
entry_at-miss h [] a = refl
entry_at-miss h (e ∷ es) a =
    let ne = eqb-false h e.hash (or_left _ _ a) in
    rw (ne_eqb e.hash h (omega (arith, ne))) (entry_at-miss h es (or_right (eqb h e.hash) _ a))

-- ---- how many rows and bytes

module _ (e : Entry) (s : State) where
  -- an entry of a hash that was there gives way
  bytes-put : cell_bytes (insert e s).entries + cell_bytes (keep (λ x. eqb x.hash e.hash) s.entries) ≡ length e.cell + cell_bytes s.entries
  unfolding insert put_entry cell_bytes put_rows
  bytes-put = sum-put (λ x. x.hash) (λ x. length x.cell) e.hash (e ∷ []) s.entries ∙ unfold sum_of in (omega arith)

  number_put : length (insert e s).entries + length (keep (λ x. eqb x.hash e.hash) s.entries) ≡ suc (length s.entries)
  unfolding insert put_entry put_rows
  number_put = length-put (λ x. x.hash) e.hash (e ∷ []) s.entries ∙ omega arith

  pub waiting-insert : length (insert e s).waiting ≡ suc (length s.waiting)
  unfolding insert
  waiting-insert =
      ap length (put_waiting-rows (record { born = e.born; hash = e.hash }) s.waiting)
      ∙ length-put-between (λ w. w.born) (suc e.born) (record { born = e.born; hash = e.hash } ∷ []) s.waiting ∙ omega arith

  -- at most one row and the cell's bytes more
  pub bytes-insert-le : cell_bytes (insert e s).entries ≤ cell_bytes s.entries + length e.cell
  bytes-insert-le = omega (arith, bytes-put)

  pub number-insert-le : length (insert e s).entries ≤ suc (length s.entries)
  number-insert-le = omega (arith, number_put)

  -- exactly so where the hash was absent
  module _ (absent : elem e.hash (map (λ x. x.hash) s.entries) ≡ false) where
    pub bytes-insert : cell_bytes (insert e s).entries ≡ cell_bytes s.entries + length e.cell
    unfolding cell_bytes sum_of
    bytes-insert = omega (arith, rw (keep-absent (λ x. x.hash) e.hash s.entries absent) at bytes-put)

    pub number-insert : length (insert e s).entries ≡ suc (length s.entries)
    number-insert = omega (arith, rw (keep-absent (λ x. x.hash) e.hash s.entries absent) at number_put)

module _ (h : ℕ) (s : State) where
  pub bytes-remove : cell_bytes (remove h s).entries + cell_bytes (keep (λ e. eqb e.hash h) s.entries) ≡ cell_bytes s.entries
  unfolding remove cell_bytes
  bytes-remove = omega (arith, sum-keep (λ e. eqb e.hash h) (λ e. length e.cell) s.entries)

  pub number-remove : length (remove h s).entries + length (keep (λ e. eqb e.hash h) s.entries) ≡ length s.entries
  unfolding remove
  number-remove = omega (arith, length-keep (λ e. eqb e.hash h) s.entries)

  pub waiting-remove : length (remove h s).waiting + length (keep (λ w. eqb w.hash h) s.waiting) ≡ length s.waiting
  unfolding remove
  waiting-remove = omega (arith, length-keep (λ w. eqb w.hash h) s.waiting)

-- ---- the order
module _ (e : Entry) (s : State) where
  pub hashes-insert : ascending (map (λ x. x.hash) s.entries) ≡ true → ascending (map (λ x. x.hash) (insert e s).entries) ≡ true
  unfolding insert put_entry put_rows
  hashes-insert o = put-one-ascending (λ x. x.hash) e s.entries o

  pub rounds-insert : sorted_from 0 (map (λ w. w.born) s.waiting) ≡ true → sorted_from 0 (map (λ w. w.born) (insert e s).waiting) ≡ true
  unfolding insert
  rounds-insert o =
      let w : Waiting = record { born = e.born; hash = e.hash } in
      rw (put_waiting-rows w s.waiting) (put-one-sorted (λ x. x.born) w s.waiting o)

module _ (h : ℕ) (s : State) where
  pub hashes-remove : ascending (map (λ e. e.hash) s.entries) ≡ true → ascending (map (λ e. e.hash) (remove h s).entries) ≡ true
  unfolding remove
  hashes-remove o = ascending-keep (λ e. e.hash) (λ e. not (eqb e.hash h)) 0 s.entries o

  pub rounds-remove : sorted_from 0 (map (λ w. w.born) s.waiting) ≡ true → sorted_from 0 (map (λ w. w.born) (remove h s).waiting) ≡ true
  unfolding remove
  rounds-remove o = keep-sorted (λ w. not (eqb w.hash h)) (λ w. w.born) 0 s.waiting o

-- ---- states that tables can hold

waiter-fits : (e : Entry) → fits_item e ≡ true → fits_waiting (record { born = e.born; hash = e.hash }) ≡ true
unfolding fits_waiting
waiter-fits e f = let g = item-fits e f in rw (lt-ltb e.hash (2 ^ 256) g.hash, lt-ltb e.born (2 ^ 32) g.born)

pub well-empty : WellFormed empty
unfolding empty tied ascending_from sorted_from all repeated
well-empty = record { hashes = refl; entries = refl; rounds = refl; waiting = refl; ties = refl }

pub well-insert : (e : Entry) (s : State) → fits_item e ≡ true → elem e.hash (map (λ x. x.hash) s.entries) ≡ false → WellFormed s → WellFormed (insert e s)
unfolding insert put_entry put_rows
well-insert e s f a w =
    let x : Waiting = record { born = e.born; hash = e.hash } in
    record {
      hashes = hashes-insert e s w.hashes;
      entries = all-put (λ y. y.hash) e.hash (suc e.hash) (e ∷ []) s.entries fits_item w.entries (all_one fits_item e f);
      rounds = rounds-insert e s w.rounds;
      waiting =
          rw (put_waiting-rows x s.waiting)
          (all-put (λ y. y.born) (suc e.born) (suc e.born) (x ∷ []) s.waiting fits_waiting w.waiting (all_one fits_waiting x (waiter-fits e f)));
      ties = waits-tied (insert e s) (hashes-insert e s w.hashes) (gone_of s) (waits-insert (gone_of s) e s a (tied-waits s w.hashes w.ties));
    }

pub well-remove : (h : ℕ) (s : State) → WellFormed s → WellFormed (remove h s)
unfolding remove
well-remove h s w =
    record {
      hashes = hashes-remove h s w.hashes;
      entries = all_keep fits_item (λ e. not (eqb e.hash h)) s.entries w.entries;
      rounds = rounds-remove h s w.rounds;
      waiting = all_keep fits_waiting (λ x. not (eqb x.hash h)) s.waiting w.waiting;
      ties = waits-tied (remove h s) (hashes-remove h s w.hashes) _ (waits-remove (gone_of s) h s (tied-waits s w.hashes w.ties));
    }

pub well-drained : (delay round : ℕ) (s : State) → WellFormed s → WellFormed (drained delay round s)
unfolding drained
well-drained delay round s w =
    let left : Waiting → Bool = λ x. not (due delay round x) in
    record {
      hashes = w.hashes;
      entries = w.entries;
      rounds = keep-sorted left (λ x. x.born) 0 s.waiting w.rounds;
      waiting = all_keep fits_waiting left s.waiting w.waiting;
      ties = waits-tied (drained delay round s) w.hashes _ (waits-drained delay round (gone_of s) s (tied-waits s w.hashes w.ties));
    }

-- ---- a whole delta

inserts-well : (es : List Entry) (s : State) → all fits_item es ≡ true → Absent es s → WellFormed s → WellFormed (fold insert es s)
unfolding fold all
inserts-well [] s f a w = w
inserts-well (e ∷ es) s f a w =
    inserts-well es (insert e s) (and_right (fits_item e) _ f) (still-absent e es s a) (well-insert e s (and_left _ _ f) (first_absent e es s a) w)

removes-well : (hs : List ℕ) (s : State) → WellFormed s → WellFormed (fold remove hs s)
unfolding fold
removes-well [] s w = w
removes-well (h ∷ hs) s w = removes-well hs (remove h s) (well-remove h s w)

-- one whose inserts are neither there nor come twice
pub well-after : (d : Delta) (s : State) → all fits_item d.inserts ≡ true → present s d ≡ false → WellFormed s → WellFormed (state_after d s)
unfolding state_after
well-after d s f p w = removes-well d.removes (fold insert d.inserts s) (inserts-well d.inserts s f (present-absent s d p) w)

-- what the tables have room for
pub record InRoom (rows bytes : ℕ) (s : State) : Type 0 where
  pub rows_fit : length s.entries ≤ rows
  pub bytes_fit : cell_bytes s.entries ≤ bytes

-- an empty nursery fits any tables
pub room-empty : (rows bytes : ℕ) → InRoom rows bytes empty
unfolding empty cell_bytes sum_of
room-empty rows bytes = record { rows_fit = omega arith; bytes_fit = omega arith }

inserts-fit : (rows bytes : ℕ) (es : List Entry) (s : State) → length s.entries + length es ≤ rows → cell_bytes s.entries + cell_bytes es ≤ bytes → InRoom rows bytes (fold insert es s)
unfolding fold cell_bytes sum_of
inserts-fit rows bytes [] s h g = record { rows_fit = omega arith; bytes_fit = omega arith }
inserts-fit rows bytes (e ∷ es) s h g =
    inserts-fit rows bytes es (insert e s) (omega (arith, number-insert-le e s)) (omega (arith, bytes-insert-le e s))

removes-fit : (rows bytes : ℕ) (hs : List ℕ) (s : State) → InRoom rows bytes s → InRoom rows bytes (fold remove hs s)
unfolding fold
removes-fit rows bytes [] s f = f
removes-fit rows bytes (h ∷ hs) s f =
    removes-fit rows bytes hs (remove h s) (record { rows_fit = omega (arith, number-remove h s); bytes_fit = omega (arith, bytes-remove h s) })

-- a delta that is not refused for want of room leaves a state that fits it
pub room_after : (m : Room) (d : Delta) (s : State) → full m s d ≡ false → InRoom m.entries m.cells (state_after d s)
unfolding full state_after
room_after m d s e =
    let rows = ltb-false m.entries (length s.entries + length d.inserts) (or_left _ _ e) in
    let bytes = ltb-false m.cells (cell_bytes s.entries + cell_bytes d.inserts) (or_right (ltb m.entries (length s.entries + length d.inserts)) _ e) in
    removes-fit m.entries m.cells d.removes (fold insert d.inserts s) (inserts-fit m.entries m.cells d.inserts s rows bytes)
