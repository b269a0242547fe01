-- An entry is handed out exactly once: what is claimed, without its proof.
-- Assumes nothing.
use Rattle.std.specs.Prelude.{◌≡◌, Bool, true, false, not, ◌&&◌, ◌||◌, List, [], ◌∷◌, ◌++◌, map, ℕ, ◌+◌, ◌^◌, ◌≤◌, ◌<◌, length, leb, ltb, eqb}
use Rattle.std.proofs.Math.Option.{Option, none, some}
use Rattle.base.specs.Logic.{pick, all, elem, flat, keep, overlay}
use Rattle.base.specs.ListLaws.{Among}
use Rattle.base.specs.Maybe.{maybe}
use Rattle.base.specs.Answers.{Taken}
use Rattle.blake3.specs.Mode.{Mode}
use Rattle.cell_nursery.specs.Entries.{Entry}
use Rattle.cell_nursery.specs.Items.{Delta, delta_of}
use Rattle.cell_nursery.specs.Drain.{promoted, promoted_bytes}
use Rattle.cell_nursery.specs.Layout.{delay_in_range, holds}
use Rattle.cell_nursery.specs.Calls.{length_width}
use Rattle.node_box.specs.Box.{Settings, Box, Call, allocate, batch, batch_records, delta, drain, get, shrink, adjust, measure, serialize, lookup, locate, listing, made, accepted, drain_into, step, run, nursery_of}
use Rattle.node_box.specs.Journal.{rebuild}
use Rattle.node_box.specs.Demand.{typed}

-- the nursery's record and tables hold a state; the words of its tables are u64, as a slice's are
pub record HoldsState (b : Box) : Type 0 where
  pub held : holds b.nursery b.entries b.waiting b.cells ≡ true
  pub words : all (λ w. ltb w (2 ^ 64)) (b.entries ++ b.waiting) ≡ true

-- the delta that a call lends; none where it lends none
unfoldable pub lent_delta : Call → Option Delta
lent_delta allocate = none
lent_delta (batch words) = none
lent_delta (batch_records ts) = none
lent_delta (delta id wide inserts removes items) = delta_of (length_width wide) inserts removes items
lent_delta (drain round out) = none
lent_delta (get idx) = none
lent_delta (shrink saved) = none
lent_delta (adjust saved) = none
lent_delta measure = none
lent_delta (serialize out) = none
lent_delta (lookup h) = none
lent_delta (locate h) = none
lent_delta (listing out) = none

-- the entries that it is to insert, and the hashes that it is to remove
abbrev pub inserts_of : Call → List Entry
inserts_of x = maybe [] (λ d. d.inserts) (lent_delta x)

abbrev pub removes_of : Call → List ℕ
removes_of x = maybe [] (λ d. d.removes) (lent_delta x)

-- the round of a drain; none where a call drains nothing
unfoldable pub round_of : Call → Option ℕ
round_of allocate = none
round_of (batch words) = none
round_of (batch_records ts) = none
round_of (delta id wide inserts removes items) = none
round_of (drain round out) = some round
round_of (get idx) = none
round_of (shrink saved) = none
round_of (adjust saved) = none
round_of measure = none
round_of (serialize out) = none
round_of (lookup h) = none
round_of (locate h) = none
round_of (listing out) = none

-- the entries that a call hands out: those of an accepted drain
unfoldable pub promoted_by : Box → Call → List Entry
promoted_by b x = maybe [] (λ round. pick (accepted (step b x).0) (promoted b.nursery.delay round (nursery_of b)) []) (round_of x)

-- the entries that a list of calls hands out
unfoldable pub promoted_in : Box → List Call → List Entry
promoted_in b [] = []
promoted_in b (x ∷ xs) = promoted_by b x ++ promoted_in (step b x).1 xs

-- one of the calls is accepted and passes a test
unfoldable pub any_accepted : (Call → Bool) → Box → List Call → Bool
any_accepted p b [] = false
any_accepted p b (x ∷ xs) = (accepted (step b x).0 && p x) || any_accepted p (step b x).1 xs

-- one of them is an accepted drain at a round of at least m
abbrev pub drains_from : ℕ → Box → List Call → Bool
drains_from m b xs = any_accepted (λ x. maybe false (leb m) (round_of x)) b xs

-- one of them is an accepted delta that removes the hash
abbrev pub removes_hash : ℕ → Box → List Call → Bool
removes_hash h b xs = any_accepted (λ x. elem h (removes_of x)) b xs

-- the entries of a hash
abbrev pub with_hash : ℕ → List Entry → List Entry
with_hash h es = keep (λ e. eqb e.hash h) es

-- the first round at which an entry of a box is due, by the box's delay
abbrev pub due_from : Box → Entry → ℕ
due_from b e = e.born + b.nursery.delay

-- a drain right after the calls xs on b is the one that hands out e: it is accepted, e is due at its round, and no accepted drain among the
-- calls was at such a round
abbrev pub promotes : Entry → Box → List Call → ℕ → ℕ → Bool
promotes e b xs round out = accepted (step (run b xs) (drain round out)).0 && leb (due_from b e) round && not (drains_from (due_from b e) b xs)

-- The call x inserts e: on a box that holds a state, an accepted delta with e among its inserts.
-- Neither it nor any accepted delta among the calls xs after it removes e's hash.
pub record Inserted (e : Entry) (b : Box) (x : Call) (xs : List Call) : Type 0 where
  pub state : HoldsState b
  pub arguments : all typed (x ∷ xs) ≡ true
  pub inserts : Among e (inserts_of x)
  pub taken : (step b x).0 ≡ Taken
  pub stays : removes_hash e.hash b (x ∷ xs) ≡ false

-- What a drain right after the calls xs on b hands out under e's hash.
pub record PromotedOnce (e : Entry) (b : Box) (xs : List Call) : Type 0 where
  -- all of it: e, once, or nothing
  pub whole : (round out : ℕ) → with_hash e.hash (promoted_by (run b xs) (drain round out)) ≡ pick (promotes e b xs round out) (e ∷ []) []
  -- the first accepted drain at a round at which e is due hands it out
  pub first : (round out : ℕ) → (step (run b xs) (drain round out)).0 ≡ Taken → due_from b e ≤ round → drains_from (due_from b e) b xs ≡ false
      → with_hash e.hash (promoted_by (run b xs) (drain round out)) ≡ e ∷ []
  -- no later one does, whatever its round
  pub later : (round out : ℕ) → drains_from (due_from b e) b xs ≡ true → with_hash e.hash (promoted_by (run b xs) (drain round out)) ≡ []
  -- none at an earlier round does, in whatever order the rounds come
  pub earlier : (round out : ℕ) → round < due_from b e → with_hash e.hash (promoted_by (run b xs) (drain round out)) ≡ []
  -- a refused one hands nothing out at all, and counts for nothing: the box is as it was
  pub refused : (round out : ℕ) → accepted (step (run b xs) (drain round out)).0 ≡ false
      → (promoted_by (run b xs) (drain round out) ≡ []) × ((step (run b xs) (drain round out)).1 ≡ run b xs)
  -- where e is due past the last round that there is, none does
  pub never : 2 ^ 32 ≤ due_from b e → (round out : ℕ) → round < 2 ^ 32 → with_hash e.hash (promoted_by (run b xs) (drain round out)) ≡ []
  -- all drains among the calls together hand it out once if one of them was accepted at such a round, and else not at all
  pub together : with_hash e.hash (promoted_in b xs) ≡ pick (drains_from (due_from b e) b xs) (e ∷ []) []
  -- in bytes: it writes what it hands out over the front of its output, and tells how many bytes that is; the rest of the output stays
  pub bytes : (round : ℕ) (out : List ℕ) → let written = flat promoted_bytes (promoted_by (run b xs) (drain round (length out))) in
      ((drain_into (run b xs) round out).result.len ≡ length written) × ((drain_into (run b xs) round out).out ≡ overlay written out)

pub record Promotion : Type 0 where
  -- a box that is made, or read in, in any mode, from any snapshot and journal that are taken, holds a state, and any call on one leaves one; the cells are a slice
  pub made_holds : (g : Settings) (next : ℕ) (t es ws cs : List ℕ) → delay_in_range g.delay ≡ true → length cs < 2 ^ 64 → HoldsState (made g next t es ws cs)
  pub rebuilt-holds : (m : Mode) (g : Settings) (snapshot journal t es ws cs : List ℕ) → all (λ b. ltb b 256) journal ≡ true → length cs < 2 ^ 64
      → (rebuild m g snapshot journal t es ws cs).answer ≡ Taken → HoldsState (rebuild m g snapshot journal t es ws cs).box
  pub called-holds : (b : Box) (x : Call) → HoldsState b → typed x ≡ true → length b.cells < 2 ^ 64 → HoldsState (step b x).1
  -- an entry that isn't removed is handed out once, whatever is called from its insert on
  pub once : (e : Entry) (b : Box) (x : Call) (xs : List Call) → Inserted e b x xs → PromotedOnce e b (x ∷ xs)
  -- under a hash that has no entry, before its insert or after its remove, nothing is
  pub absent : (h : ℕ) (b : Box) → elem h (map (λ e. e.hash) (nursery_of b).entries) ≡ false → (round out : ℕ) → with_hash h (promoted_by b (drain round out)) ≡ []
