-- Batches taken back, and batches in either order, fixed by evaluation. A transition's words are index, old, new.
-- Assumes nothing.
use Rattle.std.specs.Prelude.{◌≡◌, refl, List, [], ◌∷◌, ℕ, ◌+◌, ◌-◌, replicate}
use mathlib.Core.List.Permᴰ.{swap as order-swap}
use Rattle.base.specs.Logic.{zeros, max64}
use Rattle.base.specs.Answers.{answer_number}
use Rattle.counters.specs.Steps.{transition}
use Rattle.node_box.specs.Box.{standard_settings, Box, batch, batch_records, made, with_counters, step, snapshot_of}
use Rattle.node_box.specs.Open.{evaluation}
use Rattle.batch_pairs.specs.Pairs.{RolledBack}
use Rattle.batch_pairs.proofs.PairLaws.{pairs}

-- a fresh box at next index 4 with room for some counts, and the number that answers a batch
abbrev four : ℕ → Box
four room = made standard_settings 4 (zeros (room + room)) [] [] []

abbrev answer : Box → List ℕ → ℕ
answer b ws = answer_number (step b (batch ws)).0

-- the box after a batch, and after two
abbrev batched : Box → List ℕ → Box
batched b ws = (step b (batch ws)).1

abbrev both : Box → List ℕ → List ℕ → Box
both b ws vs = batched (batched b ws) vs

-- a box with another live total
abbrev alive : ℕ → Box
alive n =
    let c = (four 2).counters in
    with_counters (four 2) (record { next_idx = c.next_idx; live_cells = n; stored = c.stored; maintenance = c.maintenance; settings = c.settings }) (four 2).counts

-- two births, and a transition that is dropped at an index past next; an inverse in another order, with one that is dropped
abbrev first : List ℕ
first = 1 ∷ 0 ∷ 3 ∷ 0 ∷ 0 ∷ 1 ∷ 9 ∷ 7 ∷ 7 ∷ []

abbrev inverse : List ℕ
inverse = 0 ∷ 1 ∷ 0 ∷ 2 ∷ 5 ∷ 5 ∷ 1 ∷ 3 ∷ 0 ∷ []

-- index 3 at 256, and the same after 257 and back
abbrev at256 : Box
at256 = batched (four 2) (3 ∷ 0 ∷ 256 ∷ [])

abbrev again256 : Box
again256 = both at256 (3 ∷ 256 ∷ 257 ∷ []) (3 ∷ 257 ∷ 256 ∷ [])

-- index 0 at 3 in a table for one count; a batch that frees the row and stores another, and an inverse
abbrev tight : Box
tight = batched (four 1) (0 ∷ 0 ∷ 3 ∷ [])

abbrev moves : List ℕ
moves = 0 ∷ 3 ∷ 1 ∷ 1 ∷ 0 ∷ 4 ∷ []

abbrev moves-back : List ℕ
moves-back = 0 ∷ 1 ∷ 3 ∷ 1 ∷ 4 ∷ 0 ∷ []

-- a birth with count 3 and a death, and a birth elsewhere
abbrev in-and-out : List ℕ
in-and-out = 0 ∷ 0 ∷ 3 ∷ 1 ∷ 1 ∷ 0 ∷ []

abbrev birth : List ℕ
birth = 2 ∷ 0 ∷ 1 ∷ []

pub record Lines : Type 0 where
  -- taken back: live 2, then 0, and the snapshot is as before
  two_births : (batched (four 2) first).counters.live_cells ≡ 2
  births_back : answer (batched (four 2) first) inverse ≡ 0
  births_back_live : (both (four 2) first inverse).counters.live_cells ≡ 0
  births_back_snapshot : snapshot_of (both (four 2) first inverse) ≡ snapshot_of (four 2)
  -- only dropped ones: their inverse may be empty
  dropped_back : answer (batched (four 2) (9 ∷ 7 ∷ 7 ∷ [])) [] ≡ 0
  dropped_box : both (four 2) (9 ∷ 7 ∷ 7 ∷ []) [] ≡ four 2
  -- 0 → 1 stores nothing, and 1 → 0 is then accepted; on the fresh box it is 4
  birth_back : answer (batched (four 2) (2 ∷ 0 ∷ 1 ∷ [])) (2 ∷ 1 ∷ 0 ∷ []) ≡ 0
  birth_back_box : both (four 2) (2 ∷ 0 ∷ 1 ∷ []) (2 ∷ 1 ∷ 0 ∷ []) ≡ four 2
  death_alone : answer (four 2) (2 ∷ 1 ∷ 0 ∷ []) ≡ 4
  -- with one alive, 1 → 5 and back; with none 1 → 5 is 25
  alive_back : answer (batched (alive 1) (2 ∷ 1 ∷ 5 ∷ [])) (2 ∷ 5 ∷ 1 ∷ []) ≡ 0
  alive_back_snapshot : snapshot_of (both (alive 1) (2 ∷ 1 ∷ 5 ∷ []) (2 ∷ 5 ∷ 1 ∷ [])) ≡ snapshot_of (alive 1)
  unborn : answer (four 2) (2 ∷ 1 ∷ 5 ∷ []) ≡ 25
  -- as many counts as cells before, between and after
  bound_back : answer (batched at256 (1 ∷ 1 ∷ 4 ∷ 3 ∷ 256 ∷ 1 ∷ [])) (3 ∷ 1 ∷ 256 ∷ 1 ∷ 4 ∷ 1 ∷ []) ≡ 0
  -- up into the large tier and back: the snapshot is as before, the removal counters aren't
  large_back : answer (batched at256 (3 ∷ 256 ∷ 257 ∷ [])) (3 ∷ 257 ∷ 256 ∷ []) ≡ 0
  large_snapshot : snapshot_of again256 ≡ snapshot_of at256
  none-removed : at256.counters.maintenance.small_removed_since_shrink ≡ zeros 8
  large_removed : again256.counters.maintenance.small_removed_since_shrink ≡ replicate 8 1
  -- in a table without a free row before, between and after
  tight_taken : answer tight moves ≡ 0
  tight_between : (batched tight moves).counts ≡ 1 ∷ 4 ∷ []
  tight_back : answer (batched tight moves) moves-back ≡ 0
  tight_table : (both tight moves moves-back).counts ≡ 0 ∷ 3 ∷ []
  -- at the largest total: a death and back, where a birth is 4
  largest_back : answer (batched (alive max64) (2 ∷ 1 ∷ 0 ∷ [])) birth ≡ 0
  largest_birth : answer (alive max64) birth ≡ 4
  -- the batch itself again isn't its inverse: 5
  same_again : answer (batched (four 2) first) first ≡ 5
  -- in either order
  either : both (four 2) (0 ∷ 0 ∷ 3 ∷ []) (1 ∷ 0 ∷ 257 ∷ []) ≡ both (four 2) (1 ∷ 0 ∷ 257 ∷ []) (0 ∷ 0 ∷ 3 ∷ [])
  either_counts : (both (four 2) (0 ∷ 0 ∷ 3 ∷ []) (1 ∷ 0 ∷ 257 ∷ [])).counts ≡ 0 ∷ 3 ∷ 1 ∷ 257 ∷ []
  -- with an index in common too: 0 → 1 and 1 → 0, one alive
  common_taken : (answer (batched (alive 1) (2 ∷ 0 ∷ 1 ∷ [])) (2 ∷ 1 ∷ 0 ∷ []) ≡ 0) × (answer (batched (alive 1) (2 ∷ 1 ∷ 0 ∷ [])) (2 ∷ 0 ∷ 1 ∷ []) ≡ 0)
  common : both (alive 1) (2 ∷ 0 ∷ 1 ∷ []) (2 ∷ 1 ∷ 0 ∷ []) ≡ both (alive 1) (2 ∷ 1 ∷ 0 ∷ []) (2 ∷ 0 ∷ 1 ∷ [])
  -- one order alone is accepted: a death first is 4, a row too many first 6, an old count that isn't stored yet 5, a count before its cell 25
  birth_death : answer (batched (four 2) (0 ∷ 0 ∷ 1 ∷ [])) (1 ∷ 1 ∷ 0 ∷ []) ≡ 0
  death_first : answer (four 2) (1 ∷ 1 ∷ 0 ∷ []) ≡ 4
  free_store : answer (batched tight (0 ∷ 3 ∷ 1 ∷ [])) (1 ∷ 0 ∷ 4 ∷ []) ≡ 0
  store_first : answer tight (1 ∷ 0 ∷ 4 ∷ []) ≡ 6
  up_twice : answer (batched (four 2) (0 ∷ 0 ∷ 3 ∷ [])) (0 ∷ 3 ∷ 4 ∷ []) ≡ 0
  later_first : answer (four 2) (0 ∷ 3 ∷ 4 ∷ []) ≡ 5
  birth_count : answer (batched (four 2) birth) (0 ∷ 1 ∷ 5 ∷ []) ≡ 0
  count_first : answer (four 2) (0 ∷ 1 ∷ 5 ∷ []) ≡ 25
  -- three answers of the four don't do: one below the largest total the last is 4, and the boxes differ
  three_taken : (answer (alive (max64 - 1)) in-and-out ≡ 0) × (answer (batched (alive (max64 - 1)) in-and-out) birth ≡ 0) × (answer (alive (max64 - 1)) birth ≡ 0)
  fourth_refused : answer (batched (alive (max64 - 1)) birth) in-and-out ≡ 4
  three_counts : (both (alive (max64 - 1)) in-and-out birth).counts ≡ 0 ∷ 3 ∷ 0 ∷ 0 ∷ []
  fourth_counts : (both (alive (max64 - 1)) birth in-and-out).counts ≡ zeros 4

pub lines : Lines
unfolding evaluation
lines =
    record {
      two_births = refl;
      births_back = refl;
      births_back_live = refl;
      births_back_snapshot = refl;
      dropped_back = refl;
      dropped_box = refl;
      birth_back = refl;
      birth_back_box = refl;
      death_alone = refl;
      alive_back = refl;
      alive_back_snapshot = refl;
      unborn = refl;
      bound_back = refl;
      large_back = refl;
      large_snapshot = refl;
      none-removed = refl;
      large_removed = refl;
      tight_taken = refl;
      tight_between = refl;
      tight_back = refl;
      tight_table = refl;
      largest_back = refl;
      largest_birth = refl;
      same_again = refl;
      either = refl;
      either_counts = refl;
      common_taken = (refl, refl);
      common = refl;
      birth_death = refl;
      death_first = refl;
      free_store = refl;
      store_first = refl;
      up_twice = refl;
      later_first = refl;
      birth_count = refl;
      count_first = refl;
      three_taken = (refl, refl, refl);
      fourth_refused = refl;
      three_counts = refl;
      fourth_counts = refl;
    }

-- the first line by the law: its words spell a batch and an inverse of it
pub by-law : RolledBack (four 2) (batch first) (batch inverse)
unfolding evaluation
by-law =
    pairs.rolled_back (four 2) first inverse (transition 1 0 3 ∷ transition 0 0 1 ∷ transition 9 7 7 ∷ []) (transition 0 1 0 ∷ transition 2 5 5 ∷ transition 1 3 0 ∷ [])
    refl refl (order-swap refl refl) refl

-- and of the same batches as records
pub records-by-law : RolledBack (four 2) (batch_records (transition 1 0 3 ∷ transition 0 0 1 ∷ [])) (batch_records (transition 0 1 0 ∷ transition 1 3 0 ∷ []))
unfolding evaluation
records-by-law =
    pairs.records_rolled_back (four 2) (transition 1 0 3 ∷ transition 0 0 1 ∷ []) (transition 0 1 0 ∷ transition 1 3 0 ∷ []) (order-swap refl refl) refl
