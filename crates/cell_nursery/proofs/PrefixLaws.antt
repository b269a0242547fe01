-- Draining in the tables: the waiting rows that are due stand first, each hands out the entry of its hash and round or nothing, and
-- the others move to the front.
-- Assumes nothing.
use Rattle.std.specs.Prelude.{◌≡◌, Bool, not, take, drop, get_or, eqb}
use Rattle.std.proofs.Math.Path.{refl, sym, ap}
use Rattle.std.proofs.Common.{◌∙◌, get_or-drop, get_or-take, length-take-le}
use Rattle.std.proofs.Math.Bool.{true, false}
use mathlib.Core.List.{List, [], ◌∷◌, ◌++◌, map, append-nil}
use Prim.Native.Nat.{ℕ, zero, suc, ◌+◌, ◌-◌, ◌*◌, ◌≤◌, ◌<◌}
use native.Mathlib.Omega.{arith}
use Rattle.std.proofs.Math.Decide.{dec_le}
use Rattle.std.proofs.Math.ListN.{length, length-drop, replicate-append-replicate, get_or-map}
use borrow.Author.Tests.{lt-ltb, le-ltb, eq-eqb, ne_eqb}
use Rattle.base.specs.Logic.{pick, keep, elem, flat, overlay, zeros, ascending, sorted_from}
use Rattle.base.specs.Output.{fitting}
use Rattle.base.specs.Laws.{flat_append}
use Rattle.base.specs.Answers.{Taken, Refused}
use Rattle.base.specs.declared.Refusal.TheVariants.{Broken, OutputFull}
use Rattle.rows.specs.Table.{rows_of, table_of}
use Rattle.rows.proofs.TableLaws.{row_at, length-rows_of, drop-rows_of, words-rows_of}
use Rattle.rows.specs.Keys.{first_word, first_four, keys, place}
use Rattle.rows.proofs.KeyLaws.{length-keys, place-le}
use Rattle.cell_nursery.specs.declared.Nursery.{Nursery}
use Rattle.cell_nursery.specs.Entries.{Waiting}
use Rattle.cell_nursery.specs.Drain.{due, named, promoted, drained, promoted_bytes, drain_bytes}
use Rattle.cell_nursery.specs.Layout.{hash_of, hash_at, WaitingRow, waiting_row, entry_of, waiting_row_of, waiter_of, record_of, waiting_table, entries_of, waiting_of, state_of, holds}
use Rattle.cell_nursery.specs.Calls.{on_state, drain_effect, drained_out, drain_call}
use Rattle.cell_nursery.proofs.HashLaws.{hash-first}
use Rattle.cell_nursery.proofs.EntryLaws.{entry_at-hit, entry_at-miss}
use Rattle.cell_nursery.proofs.LayoutLaws.{number-entries, entries-keys, bytes_same, number-waiting, waiting-keys, waiters-same}
use Rattle.cell_nursery.specs.Held.{CellsHeld, EntriesHeld, WaitingHeld, U64}
use Rattle.cell_nursery.proofs.CodingLaws.{waiting-lawful}
use Rattle.cell_nursery.proofs.DrainLaws.{due-first, due-rest, due-none, due-all-rest, named-entry_at}
use Rattle.cell_nursery.proofs.CheckLaws.{waiting-row}
use Rattle.cell_nursery.specs.Rows.{entry_at_row, handed_out, index_of, promoted_row, waiter_at_row}
use Rattle.cell_nursery.proofs.SearchLaws.{index-found, index-none}
use Rattle.cell_nursery.proofs.OutputLaws.{no_entry, entry-of-row, row_fits, length-promoted}

-- ---- the rows that are due
module _ (delay round : ℕ) (r : Nursery) (ws : List ℕ) (y : WaitingHeld r ws) where
  in_order : sorted_from 0 (map (λ w. w.born) (waiting_of r.waiting ws)) ≡ true
  in_order = rw (waiting-keys r ws) y.rounds

  module _ (h : delay ≤ round) (k : ℕ) (here : k ≡ place (suc (round - delay)) (keys first_word 5 r.waiting ws)) where
    there : k ≡ place (suc (round - delay)) (map (λ w. w.born) (waiting_of r.waiting ws))
    there = rw (waiting-keys r ws) here

    within : k ≤ r.waiting
    within = omega (arith, place-le (suc (round - delay)) (keys first_word 5 r.waiting ws), length-keys first_word 5 r.waiting ws)

    pub due-late : k ≡ length (keep (due delay round) (waiting_of r.waiting ws))
    due-late =
        sym (ap length (due-first delay round (waiting_of r.waiting ws) in_order h k there)
        ∙ length-take-le k (waiting_of r.waiting ws) (rw (number-waiting r ws) within))

  pub due-early : round < delay → 0 ≡ length (keep (due delay round) (waiting_of r.waiting ws))
  due-early h = sym (ap length (due-none delay round h (waiting_of r.waiting ws)))

  -- they stand first, and the others behind them
  module _ (k : ℕ) (number : k ≡ length (keep (due delay round) (waiting_of r.waiting ws))) where
    place_here : delay ≤ round → k ≡ place (suc (round - delay)) (keys first_word 5 r.waiting ws)
    place_here h = number ∙ sym (due-late h (place (suc (round - delay)) (keys first_word 5 r.waiting ws)) refl)

    none-early : round < delay → k ≡ 0
    none-early h = number ∙ sym (due-early h)

    pub due-take : keep (due delay round) (waiting_of r.waiting ws) ≡ take k (waiting_of r.waiting ws)
    due-take =
        elim (dec_le delay round) [
          | yes h ↦ due-first delay round (waiting_of r.waiting ws) in_order h k (there h k (place_here h))
          | no h ↦ let z : k ≡ 0 = none-early (omega arith) in rw z (due-none delay round (omega arith) (waiting_of r.waiting ws))
        ]

    pub due-drop : keep (λ w. not (due delay round w)) (waiting_of r.waiting ws) ≡ drop k (waiting_of r.waiting ws)
    due-drop =
        elim (dec_le delay round) [
          | yes h ↦ due-rest delay round (waiting_of r.waiting ws) in_order h k (there h k (place_here h))
          | no h ↦ let z : k ≡ 0 = none-early (omega arith) in rw z (due-all-rest delay round (omega arith) (waiting_of r.waiting ws))
        ]

    pub due-within : k ≤ r.waiting
    due-within =
        elim (dec_le delay round) [
          | yes h ↦ within h k (place_here h)
          | no h ↦ let z : k ≡ 0 = none-early (omega arith) in omega arith
        ]

-- ---- what a waiting row hands out

-- row i of those that are due
pub waiter-of-row : (n : ℕ) (ws : List ℕ) (k i : ℕ) → i < k → k ≤ n → get_or (take k (waiting_of n ws)) i (waiter_of (waiting_row.dec [])) ≡ waiter_of (waiter_at_row ws i)
unfolding waiting_of
waiter-of-row n ws k i h l =
    get_or-take k (map waiter_of (rows_of waiting_row n ws)) i (waiter_of (waiting_row.dec [])) h
    ∙ get_or-map waiter_of (rows_of waiting_row n ws) i (waiting_row.dec [])
    ∙ ap waiter_of (row_at waiting_row n ws i (waiting_row.dec []) (omega arith) ∙ waiting-row ws i)

-- the key that a search for its entry reads
pub waiter-key : (ws : List ℕ) (i : ℕ) → first_four (drop (i * 5 + 1) ws) ≡ hash_of (hash_at (i * 5 + 1) ws)
waiter-key ws i =
    let j : ℕ = i * 5 + 1 in
    let q : j + 0 ≡ j = omega arith in
    let e : hash_at 0 (drop j ws) ≡ hash_at j ws = rw (get_or-drop j ws 0 0, get_or-drop j ws 1 0, get_or-drop j ws 2 0, get_or-drop j ws 3 0, q) in
    sym (hash-first (drop j ws)) ∙ ap hash_of e

module _ (r : Nursery) (es : List ℕ) (w : WaitingRow) (k : ℕ) (here : k ≡ index_of (hash_of w.hash) (keys first_four 8 r.entries es)) where
  pub row-same-round : get_or es (k * 8 + 5) 0 ≡ w.born → k ≡ promoted_row r es w
  unfolding promoted_row
  row-same-round e = rw (← here, eq-eqb (get_or es (k * 8 + 5) 0) w.born e)

  pub row-other-round : (get_or es (k * 8 + 5) 0 ≡ w.born → ⊥) → r.entries ≡ promoted_row r es w
  unfolding promoted_row
  row-other-round e = rw (← here, ne_eqb (get_or es (k * 8 + 5) 0) w.born e)

  pub row-missing : k ≡ r.entries → r.entries ≡ promoted_row r es w
  unfolding promoted_row
  row-missing e =
      rw (← here, e) (elim (eqb (get_or es (r.entries * 8 + 5) 0) w.born) as (λ b. r.entries ≡ pick b r.entries r.entries) [ true ↦ refl | false ↦ refl ])

pub index-within : (x : ℕ) (ks : List ℕ) → index_of x ks ≤ length ks
unfolding index_of
index-within x [] = omega arith
index-within x (k ∷ ks) =
    let rest = index-within x ks in
    elim (eqb k x) as (λ b. pick b 0 (suc (index_of x ks)) ≤ suc (length ks)) [ true ↦ omega arith | false ↦ omega arith ]

module _ (r : Nursery) (es cs : List ℕ) (x : EntriesHeld r es) (z : CellsHeld r cs) (w : WaitingRow) (k : ℕ) (here : k ≡ promoted_row r es w) where
  ascends : ascending (map (λ e. e.hash) (entries_of r.entries es cs)) ≡ true
  ascends = rw (entries-keys r es cs x) x.hashes

  -- by the row of its hash and by whether the rounds agree
  by_row : (j : ℕ) → j ≡ index_of (hash_of w.hash) (keys first_four 8 r.entries es) → j < r.entries
      → named (entries_of r.entries es cs) (waiter_of w) ≡ pick (eqb (get_or es (j * 8 + 5) 0) w.born) (entry_of cs (entry_at_row es j) ∷ []) []
  by_row j q l =
      let same = entries-keys r es cs x in
      let hit : get_or (keys first_four 8 r.entries es) j 0 ≡ hash_of w.hash =
      rw q (index-found (hash_of w.hash) (keys first_four 8 r.entries es) (omega (arith, length-keys first_four 8 r.entries es))) in
      rw (
        named-entry_at (waiter_of w) 0 (entries_of r.entries es cs) ascends,
        entry_at-hit (hash_of w.hash) 0 (entries_of r.entries es cs) j (no_entry cs) ascends (rw (number-entries r es cs) l) (rw same hit),
        entry-of-row r es cs x z j l,
      )

  by-none : r.entries ≤ index_of (hash_of w.hash) (keys first_four 8 r.entries es) → named (entries_of r.entries es cs) (waiter_of w) ≡ []
  by-none l =
      let no : elem (hash_of w.hash) (keys first_four 8 r.entries es) ≡ false = index-none (hash_of w.hash) (keys first_four 8 r.entries es) (omega (arith, length-keys first_four 8 r.entries es)) in
      rw (
        named-entry_at (waiter_of w) 0 (entries_of r.entries es cs) ascends,
        entry_at-miss (hash_of w.hash) (entries_of r.entries es cs) (rw (entries-keys r es cs x) no),
      )

  pub named_some : k < r.entries → named (entries_of r.entries es cs) (waiter_of w) ≡ entry_of cs (entry_at_row es k) ∷ []
  unfolding promoted_row
  named_some l = go (eqb (get_or es (index_of (hash_of w.hash) (keys first_four 8 r.entries es) * 8 + 5) 0) w.born) refl here
    where
      j : ℕ
      j = index_of (hash_of w.hash) (keys first_four 8 r.entries es)

      go : (b : Bool) → eqb (get_or es (j * 8 + 5) 0) w.born ≡ b → k ≡ pick b j r.entries → named (entries_of r.entries es cs) (waiter_of w) ≡ entry_of cs (entry_at_row es k) ∷ []
      go true e q = by_row j refl (omega arith) ∙ rw (e, ← q)
      go false e q = absurd (omega arith)

  pub named_none : r.entries ≤ k → named (entries_of r.entries es cs) (waiter_of w) ≡ []
  unfolding promoted_row
  named_none l = go (dec_le r.entries j) (eqb (get_or es (j * 8 + 5) 0) w.born) refl here
    where
      j : ℕ
      j = index_of (hash_of w.hash) (keys first_four 8 r.entries es)

      go : Dec (r.entries ≤ j) → (b : Bool) → eqb (get_or es (j * 8 + 5) 0) w.born ≡ b → k ≡ pick b j r.entries → named (entries_of r.entries es cs) (waiter_of w) ≡ []
      go (yes m) b e q = by-none m
      go (no m) true e q = absurd (omega arith)
      go (no m) false e q = by_row j refl (omega arith) ∙ rw e

  pub handed-some : k < r.entries → handed_out (entries_of r.entries es cs) (waiter_of w) ≡ promoted_bytes (entry_of cs (entry_at_row es k))
  unfolding flat
  handed-some l = rw (named_some l) (append-nil (promoted_bytes (entry_of cs (entry_at_row es k))))

  pub handed-none : r.entries ≤ k → handed_out (entries_of r.entries es cs) (waiter_of w) ≡ []
  unfolding flat
  handed-none l = rw (named_none l)

  pub handed-length : k < r.entries → 42 + get_or es (k * 8 + 7) 0 ≡ length (handed_out (entries_of r.entries es cs) (waiter_of w))
  handed-length l = sym (ap length (handed-some l) ∙ length-promoted es cs k (row_fits r es cs x z k l))

-- ---- all that is handed out
flat-flat : {A B C : Type 0} (f : B → List C) (g : A → List B) (xs : List A) → flat f (flat g xs) ≡ flat (λ a. flat f (g a)) xs
unfolding flat
flat-flat f g [] = refl
flat-flat {C = C} f g (a ∷ xs) = flat_append f (g a) (flat g xs) ∙ ap (λ (l : List C). flat f (g a) ++ l) (flat-flat f g xs)

map-drop : (j : ℕ) (xs : List Waiting) → drop j (map waiting_row_of xs) ≡ map waiting_row_of (drop j xs)
map-drop zero xs = refl
map-drop (suc j) [] = refl
map-drop (suc j) (w ∷ xs) = map-drop j xs

module _ (round : ℕ) (r : Nursery) (es ws cs : List ℕ) where
  pub drain-broken : (out : List ℕ) → holds r es ws cs ≡ false → drain_effect (record { answer = Refused Broken; len = 0; nursery = r }) out ws ≡ drain_call r es ws cs round out
  unfolding drain_call drained_out on_state fitting
  drain-broken out e = rw e

  module _ (x : EntriesHeld r es) (y : WaitingHeld r ws) (z : CellsHeld r cs) (k : ℕ) (number : k ≡ length (keep (due r.delay round) (waiting_of r.waiting ws))) where
    pub drain-bytes : drain_bytes r.delay round (state_of r es ws cs) ≡ flat (handed_out (entries_of r.entries es cs)) (take k (waiting_of r.waiting ws))
    unfolding drain_bytes promoted state_of
    drain-bytes =
        flat-flat promoted_bytes (named (entries_of r.entries es cs)) (keep (due r.delay round) (waiting_of r.waiting ws))
        ∙ ap (flat (handed_out (entries_of r.entries es cs))) (due-take r.delay round r ws y k number)

    after : record_of r.delay (drained r.delay round (state_of r es ws cs)) ≡ record { entries = r.entries; waiting = r.waiting - k; cell_bytes = r.cell_bytes; delay = r.delay }
    unfolding record_of drained state_of
    after =
        rw (due-drop r.delay round r ws y k number, number-entries r es cs, bytes_same r es cs x z, length-drop k (waiting_of r.waiting ws), number-waiting r ws)

    -- the rows behind at the front, and zeros
    table-after : U64 ws → take 0 ws ++ (take (r.waiting * 5 - (0 + k * 5)) (drop (0 + k * 5) ws) ++ (zeros (k * 5) ++ drop (r.waiting * 5) ws)) ≡ waiting_table (length ws) (drained r.delay round (state_of r es ws cs))
    unfolding waiting_table drained state_of table_of
    table-after v =
        let n = r.waiting in
        let l = due-within r.delay round r ws y k number in
        let f = y.laid.fits in
        let rows : map waiting_row_of (drop k (waiting_of n ws)) ≡ rows_of waiting_row (n - k) (drop (k * 5) ws) =
        sym (map-drop k (waiting_of n ws)) ∙ ap (drop k) (waiters-same r ws v) ∙ drop-rows_of waiting_row k n ws l in
        let a : n * 5 - (0 + k * 5) ≡ (n - k) * 5 = omega arith in
        let b : 0 + k * 5 ≡ k * 5 = omega arith in
        let c : k * 5 + (length ws - n * 5) ≡ length ws - (n - k) * 5 = omega arith in
        let m : (n - k) * 5 ≤ length (drop (k * 5) ws) = simp length-drop (omega arith) in
        let wide : length (rows_of waiting_row (n - k) (drop (k * 5) ws)) ≡ n - k = length-rows_of waiting_row (n - k) (drop (k * 5) ws) in
        rw (due-drop r.delay round r ws y k number, rows, words-rows_of waiting-lawful (n - k) (drop (k * 5) ws) m, wide, a, b, y.laid.rest, replicate-append-replicate {A = ℕ} (k * 5) (length ws - n * 5) 0, c)

    module _ (out : List ℕ) (ok : holds r es ws cs ≡ true) where
      pub drain-full : length out < length (flat (handed_out (entries_of r.entries es cs)) (take k (waiting_of r.waiting ws)))
          → drain_effect (record { answer = Refused OutputFull; len = 0; nursery = r }) out ws ≡ drain_call r es ws cs round out
      unfolding drain_call drained_out on_state fitting
      drain-full l = rw (ok, drain-bytes, lt-ltb (length out) (length (flat (handed_out (entries_of r.entries es cs)) (take k (waiting_of r.waiting ws)))) l)

      pub drain-done : U64 ws → (bs : List ℕ) → bs ≡ flat (handed_out (entries_of r.entries es cs)) (take k (waiting_of r.waiting ws)) → length bs ≤ length out
          → drain_effect (record { answer = Taken; len = length bs; nursery = record { entries = r.entries; waiting = r.waiting - k; cell_bytes = r.cell_bytes; delay = r.delay } }) (overlay bs out) (take 0 ws ++ (take (r.waiting * 5 - (0 + k * 5)) (drop (0 + k * 5) ws) ++ (zeros (k * 5) ++ drop (r.waiting * 5) ws)))
          ≡ drain_call r es ws cs round out
      unfolding drain_call drained_out on_state fitting
      drain-done v bs e l = rw (ok, drain-bytes, ← e, le-ltb (length out) (length bs) l, after, ← table-after v)
