-- The journal that a box's calls leave is the records of the deltas that were accepted and have items, and a nursery that started empty
-- and drains nothing accepts them one after the other: after each it has the entries that the box had.
-- Assumes nothing.
use Rattle.std.specs.Prelude.{◌≡◌, Bool, not, drop, leb, eqb}
use Rattle.std.proofs.Math.Path.{refl, ap}
use Rattle.std.proofs.Common.{sym, ◌∙◌, arith, take_at}
use Rattle.std.proofs.Math.Bool.{true, false}
use Rattle.std.proofs.Math.Option.{some}
use mathlib.Core.List.{List, [], ◌∷◌, ◌++◌, map}
use Prim.Native.Nat.{ℕ, ◌+◌, ◌-◌}
use Rattle.std.proofs.Math.ListN.{length, length-replicate}
use borrow.Author.Tests.{le-ltb, eqb-true}
use Rattle.base.specs.Logic.{pick, all, fold, flat, keep, zeros, overlay}
use Rattle.base.specs.Laws.{and_left, and_right}
use Rattle.base.specs.ListLaws.{fold-reads}
use Rattle.blake3.specs.Mode.{Mode, bad_key, hash_by}
use Rattle.cell_nursery.specs.Entries as entries
use Rattle.cell_nursery.specs.Entries.{Entry, put_entry, insert, remove}
use Rattle.cell_nursery.specs.Items.{Delta, delta_of}
use Rattle.cell_nursery.specs.Delta.{too_long, state_after}
use Rattle.cell_nursery.specs.Drain.{drained, listing_bytes}
use Rattle.cell_nursery.specs.Calls.{length_width}
use Rattle.counters.specs.Counts as counts
use Rattle.format.specs.Record.{record_bytes, encode}
use Rattle.format.specs.Calls.{encoded_out, encode_call, encode_under}
use Rattle.journal_laws.specs.DeltaLaws.{Accepted, Read, delta-read}
use Rattle.journal_laws.specs.ReadLaws.{accepted-again, bytes_of, whole_in, applied-all, Applies, done, more}
use Rattle.node_box.specs.Box.{Box, Call, allocate, batch, batch_records, delta, drain, get, shrink, adjust, measure, serialize, lookup, locate, listing, step, accepted, listing_of}
use Rattle.node_box.specs.Journal.{Logged, encoded, logged_of, records, whole, listing_after}
use Rattle.node_box.specs.Demand.{typed}
use Rattle.demand3.specs.States.{counters_after, nursery_after}
use Rattle.demand3.specs.NurseryHeld.{room_for, DeltaTaken, delta-taken, delta-carried}
use Rattle.demand3.specs.Holding.{Fixed, Holds, answer-taken, DeltaTyped, delta-typed, holds-taken, refused-same}
use Rattle.demand3.specs.Outputs.{listing-is}

-- a delta that was accepted and has items, its record's id, and the box's listing after it
pub record Step : Type 0 where
  pub id : ℕ
  pub change : Delta
  pub after : List ℕ

-- ---- the entries after a delta follow from those before it
without_hash : ℕ → List Entry → List Entry
without_hash h es = keep (λ e. not (eqb e.hash h)) es

entries_after : Delta → List Entry → List Entry
entries_after d es = fold without_hash d.removes (fold put_entry d.inserts es)

entries-made : (d : Delta) (s : entries.State) → (state_after d s).entries ≡ entries_after d s.entries
unfolding state_after entries_after without_hash insert remove
entries-made d s =
    fold-reads remove without_hash (λ x. x.entries) (λ h x. refl) d.removes (fold insert d.inserts s)
    ∙ ap (λ (es : List Entry). fold without_hash d.removes es) (fold-reads insert put_entry (λ x. x.entries) (λ e x. refl) d.inserts s)

entries-after : (d : Delta) (s u : entries.State) → u.entries ≡ s.entries → (state_after d u).entries ≡ (state_after d s).entries
entries-after d s u e = entries-made d u ∙ ap (entries_after d) e ∙ sym (entries-made d s)

-- a delta with no items changes nothing
no-items : {A : Type 0} (xs : List A) → length xs ≡ 0 → xs ≡ []
no-items [] e = refl
no-items (x ∷ xs) e = absurd (omega arith)

idle : (inserts removes : ℕ) (d : Delta) (s : entries.State) → Read inserts removes d → inserts + removes ≡ 0 → state_after d s ≡ s
unfolding state_after fold
idle inserts removes d s r z = rw (no-items d.inserts (omega (arith, r.number_inserts)), no-items d.removes (omega (arith, r.number_removes)))

-- ---- the records of such deltas, under any hash
module _ (hash : List ℕ → List ℕ) where
  -- its record, as the journal has it
  abbrev pub logged : Step → Logged
  logged s = record { bytes = record_bytes hash s.id s.change; after = s.after }

  -- the listing after each delta is that of the entries that the nursery has then
  pub data Listed : entries.State → List Step → Type 0 where
    listed-none : {u : entries.State} → Listed u []
    listed_more : {u : entries.State} {t : Step} {ts : List Step} → t.after ≡ listing_bytes (state_after t.change u).entries → Listed (state_after t.change u) ts → Listed u (t ∷ ts)

  pub record Traced (z : Fixed) (u : entries.State) (rs : List Logged) : Type 0 where
    pub steps : List Step
    pub same : rs ≡ map logged steps
    pub applies : Applies hash (λ s. s.id) (λ s. s.change) (room_for z.entries z.waiting z.cells) u steps
    pub listed : Listed u steps

  -- ---- the whole records, and the listing after the last of them
  abbrev pub whole_steps : ℕ → List Step → List Step
  whole_steps k ts = whole_in hash (λ s. s.id) (λ s. s.change) k ts

  abbrev pub step_bytes : List Step → List ℕ
  step_bytes ts = flat (bytes_of hash (λ s. s.id) (λ s. s.change)) ts

  abbrev pub after_steps : List Step → entries.State → entries.State
  after_steps ts u = applied-all hash (λ s. s.id) (λ s. s.change) ts u

  pub bytes-logged : (ts : List Step) → flat (λ r. r.bytes) (map logged ts) ≡ step_bytes ts
  unfolding flat
  bytes-logged [] = refl
  bytes-logged (t ∷ ts) = ap (λ (bs : List ℕ). record_bytes hash t.id t.change ++ bs) (bytes-logged ts)

  pub whole-logged : (k : ℕ) (ts : List Step) → whole k (map logged ts) ≡ map logged (whole_steps k ts)
  unfolding whole whole_in
  whole-logged k [] = refl
  whole-logged k (t ∷ ts) = go (leb (length (record_bytes hash t.id t.change)) k) (whole-logged (k - length (record_bytes hash t.id t.change)) ts)
    where
      left : ℕ
      left = k - length (record_bytes hash t.id t.change)

      go : (b : Bool) → whole left (map logged ts) ≡ map logged (whole_steps left ts)
          → pick b (logged t ∷ whole left (map logged ts)) [] ≡ map logged (pick b (t ∷ whole_steps left ts) [])
      go true e = ap (λ (rs : List Logged). logged t ∷ rs) e
      go false e = refl

  pub listed-whole : {u : entries.State} {ts : List Step} → Listed u ts → (k : ℕ) → Listed u (whole_steps k ts)
  unfolding whole_in
  listed-whole listed-none k = listed-none
  listed-whole (listed_more {u = u} {t = t} {ts = ts} e l) k =
      go (leb (length (record_bytes hash t.id t.change)) k) (listed-whole l (k - length (record_bytes hash t.id t.change)))
    where
      left : ℕ
      left = k - length (record_bytes hash t.id t.change)

      go : (b : Bool) → Listed (state_after t.change u) (whole_steps left ts) → Listed u (pick b (t ∷ whole_steps left ts) [])
      go true q = listed_more e q
      go false q = listed-none

  pub listing-last : {u : entries.State} {ts : List Step} → Listed u ts → listing_after (listing_bytes u.entries) (map logged ts) ≡ listing_bytes (after_steps ts u).entries
  unfolding listing_after applied-all fold
  listing-last listed-none = refl
  listing-last (listed_more {ts = ts} e l) = ap (λ (bs : List ℕ). listing_after bs (map logged ts)) e ∙ listing-last l

-- ---- a box's journal in a mode whose key isn't bad, read by a nursery that has the box's entries, whichever of them wait
-- the nursery that reads has the box's entries
abbrev pub Reads : entries.State → entries.State → Type 0
Reads n u = u.entries ≡ n.entries

module _ (m : Mode) (good : bad_key m ≡ false) where
  -- the record of an accepted delta
  record_is : (id : ℕ) (wide : Bool) (inserts removes : ℕ) (items : List ℕ) (d : Delta) → delta_of (length_width wide) inserts removes items ≡ some d → too_long d ≡ false
      → encoded m id wide inserts removes items ≡ record_bytes (hash_by m) id d
  unfolding encoded encode_under encode_call encode encoded_out overlay
  record_is id wide inserts removes items d e t =
      let bs = record_bytes (hash_by m) id d in
      rw (good, e, t, length-replicate {A = ℕ} (length bs) 0, le-ltb (length bs) (length bs) (omega arith)) (take_at bs (drop (length bs) (zeros (length bs))) (length bs) refl)

  module _ {z : Fixed} {b : Box} {c : counts.State} {n u : entries.State} (h : Holds z b c n) (r : Reads n u) where
    -- the record of an accepted delta, and those after it
    traced-delta : (id : ℕ) (wide : Bool) (inserts removes : ℕ) (items : List ℕ) (rs : List Logged)
        → let x : Call = delta id wide inserts removes items in
        typed x ≡ true → accepted (step b x).0 ≡ true → ((v : entries.State) → Reads (nursery_after z.settings.delay x n) v → Traced (hash_by m) z v rs)
        → Traced (hash_by m) z u (logged_of m x (listing_of (step b x).1) ++ rs)
    unfolding logged_of nursery_after step
    traced-delta id wide inserts removes items rs t e rest = go (eqb (inserts + removes) 0) refl
      where
        x : Call
        x = delta id wide inserts removes items

        args : DeltaTyped id items
        args = delta-typed id wide inserts removes items t

        taken : DeltaTaken h.nursery wide inserts removes items
        taken = delta-taken h.nursery wide inserts removes items (answer-taken _ e)

        change : Delta
        change = taken.change

        v : entries.State
        v = state_after change u

        next : nursery_after z.settings.delay x n ≡ state_after change n
        next = rw taken.spelled

        again : Accepted (room_for z.entries z.waiting z.cells) u change
        again = accepted-again (room_for z.entries z.waiting z.cells) n u change r taken.accepted

        same_after : v.entries ≡ (nursery_after z.settings.delay x n).entries
        same_after = entries-after change n u r ∙ sym (ap (λ (s : entries.State). s.entries) next)

        listing-after : listing_of (step b x).1 ≡ listing_bytes v.entries
        listing-after = listing-is (step b x).1 (holds-taken h x t e).nursery ∙ ap listing_bytes (sym same_after)

        rest-after : Traced (hash_by m) z v rs
        rest-after = rest v same_after

        go : (none : Bool) → eqb (inserts + removes) 0 ≡ none
            → Traced (hash_by m) z u (pick none [] (record { bytes = encoded m id wide inserts removes items; after = listing_of (step b x).1 } ∷ []) ++ rs)
        go true q =
            let stays = idle inserts removes change n (delta-read (length_width wide) inserts removes items change args.bytes taken.spelled) (eqb-true (inserts + removes) 0 q) in
            rest u (r ∙ sym (ap (λ (s : entries.State). s.entries) (next ∙ stays)))
        go false q =
            record {
              steps = record { id = id; change = change; after = listing_of (step b x).1 } ∷ rest-after.steps;
              same = rw (record_is id wide inserts removes items change taken.spelled taken.accepted.short, ← rest-after.same);
              applies = more (delta-carried h.nursery wide inserts removes items id args.small_id args.bytes taken) again rest-after.applies;
              listed = listed_more listing-after rest-after.listed;
            }

    -- the records of an accepted call and of the calls after it
    traced-call : (x : Call) (rs : List Logged) → typed x ≡ true → accepted (step b x).0 ≡ true
        → ((v : entries.State) → Reads (nursery_after z.settings.delay x n) v → Traced (hash_by m) z v rs) → Traced (hash_by m) z u (logged_of m x (listing_of (step b x).1) ++ rs)
    unfolding logged_of nursery_after drained
    traced-call allocate rs t e rest = rest u r
    traced-call (batch words) rs t e rest = rest u r
    traced-call (batch_records ts) rs t e rest = rest u r
    traced-call (delta id wide inserts removes items) rs t e rest = traced-delta id wide inserts removes items rs t e rest
    traced-call (drain round out) rs t e rest = rest u r
    traced-call (get idx) rs t e rest = rest u r
    traced-call (shrink saved) rs t e rest = rest u r
    traced-call (adjust saved) rs t e rest = rest u r
    traced-call measure rs t e rest = rest u r
    traced-call (serialize out) rs t e rest = rest u r
    traced-call (lookup key) rs t e rest = rest u r
    traced-call (locate key) rs t e rest = rest u r
    traced-call (listing out) rs t e rest = rest u r

  pub traced : {z : Fixed} {b : Box} {c : counts.State} {n u : entries.State} (xs : List Call) → all typed xs ≡ true → Holds z b c n → Reads n u → Traced (hash_by m) z u (records m b xs)
  unfolding records all
  traced [] t h r = record { steps = []; same = refl; applies = done; listed = listed-none }
  traced {z} {b} {c} {n} {u} (x ∷ xs) t h r =
      go (accepted (step b x).0) refl (λ c' n' v g q. traced {b = (step b x).1} {c = c'} {n = n'} {u = v} xs (and_right (typed x) (all typed xs) t) g q)
    where
      go : (ok : Bool) → accepted (step b x).0 ≡ ok
          → ((c' : counts.State) (n' v : entries.State) → Holds z (step b x).1 c' n' → Reads n' v → Traced (hash_by m) z v (records m (step b x).1 xs))
          → Traced (hash_by m) z u (pick ok (logged_of m x (listing_of (step b x).1)) [] ++ records m (step b x).1 xs)
      go true e rest =
          traced-call h r x (records m (step b x).1 xs) (and_left (typed x) (all typed xs) t) e
          (λ v q. rest (counters_after z.settings.shrink x c) (nursery_after z.settings.delay x n) v (holds-taken h x (and_left (typed x) (all typed xs) t) e) q)
      go false e rest = rest c n u (rw (refused-same b h.nursery x e) h) r
