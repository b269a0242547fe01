-- The order of the nursery's refusals and the bound of each, fixed by evaluation.
-- Of two neighbours in an order: the smallest input that meets both conditions, and the number that is given.
-- Of each refusal: the smallest input that is given it, beside the nearest one that is not.
-- Long cells and long lists are any of a given length: written out they would take longer to evaluate than all the rest.
-- Assumes nothing.
use Rattle.std.specs.Prelude.{◌≡◌, refl, ℕ, ◌+◌, ◌*◌, ◌^◌, ◌-◌, true, false, List, [], ◌∷◌, ◌++◌, length, take, replicate, leb, ltb}
use Rattle.std.proofs.Common.{ap, ◌∙◌, arith, append_assoc, drop_of_length-le, take_all, le-leb, ltb-true, eq-eqb}
use Rattle.std.proofs.Math.Option.{Option, some}
use Rattle.base.specs.Logic.{any, fold, zeros}
use Rattle.base.specs.Bytes.{le32, le64, cut, read_list}
use Rattle.base.specs.Laws.{read_le-append}
use Rattle.base.specs.Answers.{answer_number, answer_of, or_refuse, ◌>>=◌, Taken, Refused}
use Rattle.base.specs.declared.Refusal.TheVariants.{Present, OutputFull, Broken, BadSetting}
use Rattle.cell_nursery.specs.declared.Nursery.{Nursery}
use Rattle.cell_nursery.specs.Entries.{Entry, State, empty, hash_bytes, insert, remove}
use Rattle.cell_nursery.specs.Items.{Delta, item_bytes, read_insert, delta_of}
use Rattle.cell_nursery.proofs.ItemLaws.{read_hash-append}
use Rattle.cell_nursery.specs.Delta.{Room, too_long, apply_delta}
use Rattle.cell_nursery.specs.Drain.{promotion_delay, drain_bytes, listing_bytes}
use Rattle.cell_nursery.specs.Layout.{record_of, entries_table, waiting_table, cells_table, room_of, delay_in_range}
use Rattle.cell_nursery.specs.Calls.{Changed, DrainedOut, laid_out, on_state, new_call, delta_call, drain_call, lookup_call, listing_call}
use Rattle.cell_nursery.specs.Open.{evaluation}

-- an entry of a hash, born at a round, with a cell of zeros
abbrev entry : ℕ → ℕ → ℕ → Entry
entry h round len = record { hash = h; idx = 7; born = round; cell = zeros len }

-- an entry of a hash, born at round 0, with a given cell
abbrev holding : ℕ → List ℕ → Entry
holding h c = record { hash = h; idx = 7; born = 0; cell = c }

-- the entry of a hash, born at round 0, with an empty cell
abbrev plain : ℕ → Entry
plain h = entry h 0 0

-- the nursery after some inserts
abbrev with : List Entry → State
with es = fold insert es empty

-- a delta's items with the cells' lengths in four bytes
abbrev wide_bytes : Entry → List ℕ
wide_bytes e = hash_bytes e.hash ++ le64 e.idx ++ le32 e.born ++ le32 (length e.cell) ++ e.cell

-- a delta on a state in tables with room for some entries and some cell bytes
abbrev delta_on : State → ℕ → ℕ → List Entry → List ℕ → Changed
delta_on s room bytes is rs =
    delta_call (record_of promotion_delay s) (entries_table (8 * room) s) (waiting_table (5 * room) s) (cells_table bytes s) false (length is) (length rs)
    (item_bytes (record { inserts = is; removes = rs }))

-- the same as a number; and of one insert with a wide length, in tables with room for it and for no cell byte
abbrev delta : State → ℕ → ℕ → List Entry → List ℕ → ℕ
delta s room bytes is rs = answer_number (delta_on s room bytes is rs).result.answer

abbrev wide : Entry → ℕ
wide e = answer_number (delta_call (record_of promotion_delay empty) (zeros 8) (zeros 5) [] true 1 0 (wide_bytes e)).result.answer

-- the number that the operation itself gives on some inserts: quicker where a cell is long
abbrev applied : State → ℕ → ℕ → List Entry → ℕ
applied s room bytes is =
    answer_number (answer_of (apply_delta (record { entries = room; cells = bytes }) s (record { inserts = is; removes = [] })))

-- the number that a delta of lent counts and items is answered with, in empty tables of given lengths
abbrev items : ℕ → ℕ → ℕ → ℕ → ℕ → List ℕ → ℕ
items le lw lc is rs bs = answer_number (delta_call (record_of promotion_delay empty) (zeros le) (zeros lw) (zeros lc) false is rs bs).result.answer

-- a draining of a state in tables that just fit n entries and no cell bytes
abbrev drain : State → ℕ → ℕ → List ℕ → DrainedOut
drain s n round out = drain_call (record_of promotion_delay s) (entries_table (8 * n) s) (waiting_table (5 * n) s) (cells_table 0 s) round out

-- the nursery with the hash 1, born at round 0, with an empty cell
abbrev one : State
one = with (plain 1 ∷ [])

-- that nursery after the hash was handed out
abbrev drained_one : State
drained_one = record { entries = plain 1 ∷ []; waiting = [] }

-- what draining `one` at round 100 gives: 42 bytes
abbrev handed : List ℕ
handed = drain_bytes promotion_delay 100 one

-- its listing: 46 bytes
abbrev listed : List ℕ
listed = listing_bytes (plain 1 ∷ [])

pub record RefusalOrder : Type 0 where
  -- delta: 14, 12, 13
  -- an insert of a hash that is there, with a cell of 65,536 bytes
  fourteen_before_twelve : (c : List ℕ) → length c ≡ 65536 → applied one 1 0 (holding 1 c ∷ []) ≡ 14
  -- an insert of a hash that is there, and no room for it
  twelve_before_thirteen : delta one 1 0 (plain 1 ∷ []) [] ≡ 12
  -- each test is over the whole delta
  fourteen_over_all : (c : List ℕ) → length c ≡ 65536 → applied one 1 0 (plain 1 ∷ holding 2 c ∷ []) ≡ 14
  twelve_over_all : delta empty 0 0 (plain 1 ∷ plain 1 ∷ []) [] ≡ 12
  -- 20 comes before all others: a word past the rows, and a cell of 65,536 bytes
  broken_before_fourteen : (c : List ℕ) → length c ≡ 65536
      → answer_number (delta_call (record_of promotion_delay empty) (3 ∷ []) [] [] true 1 0 (wide_bytes (holding 1 c))).result.answer ≡ 20
  -- 15 comes last: the same word, and no output
  broken_before_output : answer_number (drain_call (record_of promotion_delay one) (entries_table 8 one ++ 3 ∷ []) (waiting_table 5 one) [] 100 []).result.answer ≡ 20
  broken_before_listing : answer_number (listing_call (record_of promotion_delay one) (entries_table 8 one ++ 3 ∷ []) [] []).result.answer ≡ 20

-- no cell of these entries is over 65,535 bytes
abbrev Short : List Entry → Type 0
Short is = any (λ e. ltb 65535 (length e.cell)) is ≡ false

pub record RefusalBounds : Type 0 where
  -- 12: a hash that is there, also where the delta removes it, or twice in the delta; and another hash
  present : delta one 2 0 (plain 1 ∷ []) [] ≡ 12
  present_and_removed : delta one 2 0 (plain 1 ∷ []) (1 ∷ []) ≡ 12
  present_twice : delta empty 2 0 (plain 1 ∷ plain 1 ∷ []) [] ≡ 12
  absent : delta one 2 0 (plain 2 ∷ []) [] ≡ 0
  -- 13: entries, by the entries' table and by the waiting table
  full_entries : items 15 10 0 2 0 (item_bytes (record { inserts = plain 1 ∷ plain 2 ∷ []; removes = [] })) ≡ 13
  full_waiting : items 16 9 0 2 0 (item_bytes (record { inserts = plain 1 ∷ plain 2 ∷ []; removes = [] })) ≡ 13
  not_full : items 16 10 0 2 0 (item_bytes (record { inserts = plain 1 ∷ plain 2 ∷ []; removes = [] })) ≡ 0
  -- 13: the smaller table counts after a draining too, as in a box read in every entry waits again
  full_drained : answer_number (delta_call (record_of promotion_delay drained_one) (entries_table 16 drained_one) (waiting_table 5 drained_one) [] false 1 0
      (item_bytes (record { inserts = plain 2 ∷ []; removes = [] }))).result.answer ≡ 13
  -- 13: cell bytes
  full_cells : delta empty 2 2 (entry 1 0 1 ∷ entry 2 0 2 ∷ []) [] ≡ 13
  not_full_cells : delta empty 2 3 (entry 1 0 1 ∷ entry 2 0 2 ∷ []) [] ≡ 0
  -- 13: after the inserts and before the removes; room that a delta freed is there for the next one
  full_before_removes : delta one 1 0 (plain 2 ∷ []) (1 ∷ []) ≡ 13
  freed : let c = delta_on one 1 0 [] (1 ∷ []) in
      answer_number (delta_call c.result.nursery c.entries c.waiting c.cells false 1 0
      (item_bytes (record { inserts = plain 2 ∷ []; removes = [] }))).result.answer
      ≡ 0
  -- 14: a cell of 65,535 bytes, and of one more
  long-cell : (c : List ℕ) → length c ≡ 65535 → applied empty 1 65535 (holding 1 c ∷ []) ≡ 0
  too_long_cell : (c : List ℕ) → length c ≡ 65536 → wide (holding 1 c) ≡ 14
  -- 14: lists of 4,294,967,295 items, and of one more
  long_lists : (is : List Entry) (rs : List ℕ) → Short is → length is ≡ 4294967295 → length rs ≡ 4294967295
      → too_long (record { inserts = is; removes = rs }) ≡ false
  too_many_inserts : (is : List Entry) → Short is → length is ≡ 4294967296 → too_long (record { inserts = is; removes = [] }) ≡ true
  too_many_removes : (rs : List ℕ) → length rs ≡ 4294967296 → too_long (record { inserts = []; removes = rs }) ≡ true
  -- 20: an insert of 45 bytes and a remove of 31 are no delta; bytes after the last item are ignored
  insert-short : items 8 5 0 1 0 (zeros 45) ≡ 20
  insert-whole : items 8 5 0 1 0 (zeros 46) ≡ 0
  insert_and_more : items 8 5 0 1 0 (zeros 47) ≡ 0
  remove_short : items 8 5 0 0 1 (zeros 31) ≡ 20
  remove_whole : items 8 5 0 0 1 (zeros 32) ≡ 0
  -- a refused delta leaves the record and the tables; removing an absent hash does nothing
  unchanged : delta_on one 2 0 (plain 2 ∷ plain 1 ∷ []) []
      ≡ record {
        result = record { answer = Refused Present; nursery = record_of promotion_delay one };
        entries = entries_table 16 one;
        waiting = waiting_table 10 one;
        cells = [];
      }
  remove_absent : delta_on one 1 0 [] (2 ∷ [])
      ≡ record { result = record { answer = Taken; nursery = record_of promotion_delay one }; entries = entries_table 8 one; waiting = waiting_table 5 one; cells = [] }
  -- inserts precede removes: what a delta inserts and removes isn't there
  in-and-out : delta_on empty 1 0 (plain 1 ∷ []) (1 ∷ [])
      ≡ record { result = record { answer = Taken; nursery = record_of promotion_delay empty }; entries = zeros 8; waiting = zeros 5; cells = [] }
  -- a hash removed and put back with the same round is handed out once
  put_back : drain_bytes promotion_delay 100 (insert (plain 1) (remove 1 one)) ≡ handed
  -- draining: round 99 gives nothing and needs no output
  early : drain one 1 99 [] ≡ record { result = record { answer = Taken; len = 0; nursery = record_of promotion_delay one }; out = []; waiting = waiting_table 5 one }
  -- 15: an output one byte too short: nothing is handed out, and the entry waits on
  drain_short : drain one 1 100 (replicate 41 9)
      ≡ record { result = record { answer = Refused OutputFull; len = 0; nursery = record_of promotion_delay one }; out = replicate 41 9; waiting = waiting_table 5 one }
  -- an output with a byte beyond the answer: the entry stays and waits no more
  drain_long : drain one 1 100 (replicate 43 9)
      ≡ record {
        result = record { answer = Taken; len = 42; nursery = record { entries = 1; waiting = 0; cell_bytes = 0; delay = promotion_delay } };
        out = handed ++ 9 ∷ [];
        waiting = zeros 5;
      }
  -- 15 in listing, and an output with a byte beyond the answer
  listing_short : listing_call (record_of promotion_delay one) (entries_table 8 one) [] (replicate 45 9)
      ≡ record { result = record { answer = Refused OutputFull; len = 0 }; out = replicate 45 9 }
  listing_long : listing_call (record_of promotion_delay one) (entries_table 8 one) [] (replicate 47 9)
      ≡ record { result = record { answer = Taken; len = 46 }; out = listed ++ 9 ∷ [] }
  -- a lookup: a hash that is there, one that is not, and broken tables
  found : lookup_call (record_of promotion_delay one) (entries_table 8 one) 1 ≡ record { answer = Taken; found = true; idx = record { 0 = 7 } }
  not_found : lookup_call (record_of promotion_delay one) (entries_table 8 one) 2 ≡ record { answer = Taken; found = false; idx = record { 0 = 0 } }
  lookup-broken : lookup_call (record_of promotion_delay one) (entries_table 8 one ++ 3 ∷ []) 1
      ≡ record { answer = Refused Broken; found = false; idx = record { 0 = 0 } }

-- a state record
abbrev record_at : ℕ → ℕ → ℕ → Nursery
record_at entries waiting bytes = record { entries = entries; waiting = waiting; cell_bytes = bytes; delay = promotion_delay }

-- the number that a record and three tables are given: at a draining into 84 bytes, and at a delta that inserts the hash 2 with no cell bytes
abbrev drain_at : ℕ → Nursery → List ℕ → List ℕ → List ℕ → ℕ
drain_at round r es ws cs = answer_number (drain_call r es ws cs round (zeros 84)).result.answer

abbrev insert_into : Nursery → List ℕ → List ℕ → List ℕ → ℕ
insert_into r es ws cs = answer_number (delta_call r es ws cs false 1 0 (item_bytes (record { inserts = plain 2 ∷ []; removes = [] }))).result.answer

-- whether they hold a state: a draining at round 0 gives nothing, and 20 where they don't
abbrev check : Nursery → List ℕ → List ℕ → List ℕ → ℕ
check r es ws cs = drain_at 0 r es ws cs

-- rows of the entries and of the waiting table, the hash below 2 ^ 64
abbrev row : ℕ → ℕ → ℕ → ℕ → List ℕ
row h round place len = 0 ∷ 0 ∷ 0 ∷ h ∷ 7 ∷ round ∷ place ∷ len ∷ []

abbrev wait : ℕ → ℕ → List ℕ
wait round h = round ∷ 0 ∷ 0 ∷ 0 ∷ h ∷ []

pub record BrokenTables : Type 0 where
  -- an entry with a cell of one byte, and the nearest tables that hold no state
  held : check (record_at 1 1 1) (row 1 0 0 1) (wait 0 1) (9 ∷ []) ≡ 0
  -- a cell that lies elsewhere
  place : check (record_at 1 1 1) (row 1 0 1 1) (wait 0 1) (9 ∷ []) ≡ 20
  -- cell bytes that aren't the lengths' sum
  sum_less : check (record_at 1 1 0) (row 1 0 0 1) (wait 0 1) (9 ∷ []) ≡ 20
  sum_more : check (record_at 1 1 2) (row 1 0 0 1) (wait 0 1) (9 ∷ 9 ∷ []) ≡ 20
  -- a round at 2 ^ 32, of the entry and of its waiting row
  round_fits : check (record_at 1 1 1) (row 1 (2 ^ 32 - 1) 0 1) (wait (2 ^ 32 - 1) 1) (9 ∷ []) ≡ 0
  round_over : check (record_at 1 1 1) (row 1 (2 ^ 32) 0 1) (wait 0 1) (9 ∷ []) ≡ 20
  waiting_round_over : check (record_at 1 1 1) (row 1 0 0 1) (wait (2 ^ 32) 1) (9 ∷ []) ≡ 20
  -- a cell of 65,535 bytes, and of one more
  length_fits : (cs : List ℕ) → length cs ≡ 65535 → check (record_at 1 1 65535) (row 1 0 0 65535) (wait 0 1) cs ≡ 0
  length_over : (cs : List ℕ) → length cs ≡ 65536 → check (record_at 1 1 65536) (row 1 0 0 65536) (wait 0 1) cs ≡ 20
  -- hashes that ascend, and that repeat
  ascending : check (record_at 2 2 0) (row 1 0 0 0 ++ row 2 0 0 0) (wait 0 1 ++ wait 0 2) [] ≡ 0
  repeating : check (record_at 2 2 0) (row 1 0 0 0 ++ row 1 0 0 0) (wait 0 1 ++ wait 0 2) [] ≡ 20
  -- waiting rows by round, and in any order within one
  rounds_arrived : check (record_at 2 2 0) (row 1 0 0 0 ++ row 2 0 0 0) (wait 0 2 ++ wait 0 1) [] ≡ 0
  rounds_descend : check (record_at 2 2 0) (row 1 1 0 0 ++ row 2 0 0 0) (wait 1 1 ++ wait 0 2) [] ≡ 20
  -- a word or a byte past the used ones that isn't 0
  zero_entries : check (record_at 0 0 0) (zeros 3) (zeros 3) (zeros 3) ≡ 0
  stray_entries : check (record_at 0 0 0) (0 ∷ 0 ∷ 1 ∷ []) (zeros 3) (zeros 3) ≡ 20
  stray_waiting : check (record_at 0 0 0) (zeros 3) (0 ∷ 0 ∷ 1 ∷ []) (zeros 3) ≡ 20
  stray_cells : check (record_at 0 0 0) (zeros 3) (zeros 3) (0 ∷ 0 ∷ 1 ∷ []) ≡ 20
  -- more rows or bytes than the tables have, or than the other table of rows has room for
  short_entries : check (record_at 1 1 1) (take 7 (row 1 0 0 1)) (wait 0 1) (9 ∷ []) ≡ 20
  short_waiting : check (record_at 1 1 1) (row 1 0 0 1) (take 4 (wait 0 1)) (9 ∷ []) ≡ 20
  short-cells : check (record_at 1 1 1) (row 1 0 0 1) (wait 0 1) [] ≡ 20
  room_waiting : check (record_at 1 0 1) (row 1 0 0 1) (zeros 4) (9 ∷ []) ≡ 20
  -- an entry waits or doesn't
  waits : check (record_at 1 1 0) (row 1 0 0 0) (wait 0 1) [] ≡ 0
  waits_not : check (record_at 1 0 0) (row 1 0 0 0) (zeros 5) [] ≡ 0
  -- a waiting row that names no entry; a delta that would fit
  unnamed : insert_into (record_at 0 1 0) (zeros 8) (wait 0 5) [] ≡ 20
  -- two waiting rows that name the same entry: it would be handed out twice
  twice : insert_into (record_at 1 2 0) (row 1 0 0 0 ++ zeros 16) (wait 0 1 ++ wait 0 1 ++ zeros 5) [] ≡ 20
  twice_drained : drain_at 100 (record_at 1 2 0) (row 1 0 0 0 ++ zeros 8) (wait 0 1 ++ wait 0 1) [] ≡ 20
  -- a waiting row with another round than its entry's: it would be handed out never
  other_round : insert_into (record_at 1 1 0) (row 1 5 0 0 ++ zeros 8) (wait 0 1 ++ zeros 5) [] ≡ 20
  other_round_drained : drain_at (2 ^ 32 - 1) (record_at 1 1 0) (row 1 5 0 0) (wait 0 1) [] ≡ 20

-- what a nursery's making leaves in tables that have any content
abbrev made_with : ℕ → Changed
made_with delay = new_call delay (5 ∷ 6 ∷ []) (7 ∷ []) (8 ∷ 9 ∷ [])

-- the number that `one` under a delay is given: at a lookup, a delta, a draining, and a listing
abbrev lookup_under : ℕ → ℕ
lookup_under delay = answer_number (lookup_call (record_of delay one) (entries_table 8 one) 1).answer

abbrev delta_under : ℕ → ℕ
delta_under delay = insert_into (record_of delay one) (entries_table 16 one) (waiting_table 10 one) []

abbrev drain_under : ℕ → ℕ
drain_under delay = check (record_of delay one) (entries_table 8 one) (waiting_table 5 one) []

abbrev listing_under : ℕ → ℕ
listing_under delay = answer_number (listing_call (record_of delay one) (entries_table 8 one) [] (zeros 46)).result.answer

-- the number and the length that a draining gives of one entry with an empty cell: by the delay, its born round and the round
abbrev handed_at : ℕ → ℕ → ℕ → ℕ × ℕ
handed_at delay born round =
    let s : State = with (entry 1 born 0 ∷ []) in
    let d = (drain_call (record_of delay s) (entries_table 8 s) (waiting_table 5 s) [] round (zeros 42)).result in (answer_number d.answer, d.len)

pub record SettingBounds : Type 0 where
  -- a delay of 1 to 10,000 rounds
  range_zero : delay_in_range 0 ≡ false
  range_least : delay_in_range 1 ≡ true
  range_most : delay_in_range 10000 ≡ true
  range_over : delay_in_range 10001 ≡ false
  -- 23: a nursery made with another; the record is of zeros, and the tables are as they were
  made_zero : made_with 0
      ≡ record {
        result = record { answer = Refused BadSetting; nursery = record { entries = 0; waiting = 0; cell_bytes = 0; delay = 0 } };
        entries = 5 ∷ 6 ∷ [];
        waiting = 7 ∷ [];
        cells = 8 ∷ 9 ∷ [];
      }
  made_over : made_with 10001
      ≡ record {
        result = record { answer = Refused BadSetting; nursery = record { entries = 0; waiting = 0; cell_bytes = 0; delay = 0 } };
        entries = 5 ∷ 6 ∷ [];
        waiting = 7 ∷ [];
        cells = 8 ∷ 9 ∷ [];
      }
  made_number : answer_number (made_with 0).result.answer ≡ 23
  made_least : (made_with 1).result ≡ record { answer = Taken; nursery = record { entries = 0; waiting = 0; cell_bytes = 0; delay = 1 } }
  made_most : (made_with 10000).result ≡ record { answer = Taken; nursery = record { entries = 0; waiting = 0; cell_bytes = 0; delay = 10000 } }
  -- 20: a record that has another, lent to a call
  lookup_zero : lookup_under 0 ≡ 20
  lookup_least : lookup_under 1 ≡ 0
  lookup_most : lookup_under 10000 ≡ 0
  lookup_over : lookup_under 10001 ≡ 20
  delta_zero : delta_under 0 ≡ 20
  delta_least : delta_under 1 ≡ 0
  delta_most : delta_under 10000 ≡ 0
  delta_over : delta_under 10001 ≡ 20
  drain_zero : drain_under 0 ≡ 20
  drain_least : drain_under 1 ≡ 0
  drain_most : drain_under 10000 ≡ 0
  drain_over : drain_under 10001 ≡ 20
  listing_zero : listing_under 0 ≡ 20
  listing_over : listing_under 10001 ≡ 20
  -- an entry is handed out from its born round and the record's delay on; a last round and a delay are past every round
  most_early : handed_at 10000 0 9999 ≡ (0, 0)
  most_due : handed_at 10000 0 10000 ≡ (0, 42)
  most_next_early : handed_at 10000 1 10000 ≡ (0, 0)
  most_next_due : handed_at 10000 1 10001 ≡ (0, 42)
  least_early : handed_at 1 0 0 ≡ (0, 0)
  least_due : handed_at 1 0 1 ≡ (0, 42)
  last_round : handed_at 1 (2 ^ 32 - 1) (2 ^ 32 - 1) ≡ (0, 0)
  last_but_one : handed_at 1 (2 ^ 32 - 2) (2 ^ 32 - 1) ≡ (0, 42)

-- a delta with a long cell is given 14, whatever else is true of it
long-first : (m : Room) (s : State) (d : Delta) → too_long d ≡ true → answer_number (answer_of (apply_delta m s d)) ≡ 14
unfolding evaluation
long-first m s d e = rw e refl

pub refusal-order : RefusalOrder
unfolding evaluation
refusal-order =
    record {
      fourteen_before_twelve = λ c h. long-first (record { entries = 1; cells = 0 }) one (record { inserts = holding 1 c ∷ []; removes = [] }) (rw h refl);
      twelve_before_thirteen = refl;
      fourteen_over_all = λ c h. long-first (record { entries = 1; cells = 0 }) one (record { inserts = plain 1 ∷ holding 2 c ∷ []; removes = [] }) (rw h refl);
      twelve_over_all = refl;
      broken_before_fourteen = λ c h. refl;
      broken_before_output = refl;
      broken_before_listing = refl;
    }

-- a wide length is read back
wide_read : (c : List ℕ) → length c ≡ 65536 → delta_of 4 1 0 (wide_bytes (holding 1 c)) ≡ some (record { inserts = holding 1 c ∷ []; removes = [] })
unfolding delta_of read_list read_insert cut
wide_read c h =
    simp append_assoc
    (rw (
      read_hash-append 1 (le64 7 ++ (le32 0 ++ (le32 (length c) ++ c))) (ltb-true 1 (2 ^ 256) refl),
      read_le-append 8 7 (le32 0 ++ (le32 (length c) ++ c)) (omega arith),
      read_le-append 4 0 (le32 (length c) ++ c) (omega arith),
      read_le-append 4 (length c) c (omega arith),
      le-leb (length c) (length c) (omega arith),
      take_all (length c) c (omega arith),
    ))

too-long : (c : List ℕ) → length c ≡ 65536 → wide (holding 1 c) ≡ 14
unfolding evaluation
too-long c h =
    ap (λ (d : Option Delta). answer_number (laid_out promotion_delay (record_of promotion_delay empty) (zeros 8) (zeros 5) [] (on_state (record_of promotion_delay empty) (zeros 8) (zeros 5) [] (λ s. or_refuse Broken d >>= apply_delta (room_of (zeros 8) (zeros 5) []) s))).result.answer) (wide_read c h)
    ∙ rw h refl

pub refusal-bounds : RefusalBounds
unfolding evaluation
refusal-bounds =
    record {
      present = refl;
      present_and_removed = refl;
      present_twice = refl;
      absent = refl;
      full_entries = refl;
      full_waiting = refl;
      not_full = refl;
      full_drained = refl;
      full_cells = refl;
      not_full_cells = refl;
      full_before_removes = refl;
      freed = refl;
      long-cell = λ c h. rw h refl;
      too_long_cell = λ c h. too-long c h;
      long_lists = λ is rs s h k. rw (s, h, k) refl;
      too_many_inserts = λ is s h. rw (s, h) refl;
      too_many_removes = λ rs h. rw h refl;
      insert-short = refl;
      insert-whole = refl;
      insert_and_more = refl;
      remove_short = refl;
      remove_whole = refl;
      unchanged = refl;
      remove_absent = refl;
      in-and-out = refl;
      put_back = refl;
      early = refl;
      drain_short = refl;
      drain_long = refl;
      listing_short = refl;
      listing_long = refl;
      found = refl;
      not_found = refl;
      lookup-broken = refl;
    }

-- an entry with a cell of n bytes
long-held : (n : ℕ) (cs : List ℕ) → leb n 65535 ≡ true → length cs ≡ n → check (record_at 1 1 n) (row 1 0 0 n) (wait 0 1) cs ≡ 0
unfolding evaluation
long-held n cs b h = rw (b, h, drop_of_length-le cs {i = n} (omega (arith, h)), le-leb n n (omega arith), eq-eqb (0 + n) n (omega arith)) refl

pub broken-tables : BrokenTables
unfolding evaluation
broken-tables =
    record {
      held = refl;
      place = refl;
      sum_less = refl;
      sum_more = refl;
      round_fits = refl;
      round_over = refl;
      waiting_round_over = refl;
      length_fits = λ cs h. long-held 65535 cs refl h;
      length_over = λ cs h. refl;
      ascending = refl;
      repeating = refl;
      rounds_arrived = refl;
      rounds_descend = refl;
      zero_entries = refl;
      stray_entries = refl;
      stray_waiting = refl;
      stray_cells = refl;
      short_entries = refl;
      short_waiting = refl;
      short-cells = refl;
      room_waiting = refl;
      waits = refl;
      waits_not = refl;
      unnamed = refl;
      twice = refl;
      twice_drained = refl;
      other_round = refl;
      other_round_drained = refl;
    }

pub setting-bounds : SettingBounds
unfolding evaluation
setting-bounds =
    record {
      range_zero = refl;
      range_least = refl;
      range_most = refl;
      range_over = refl;
      made_zero = refl;
      made_over = refl;
      made_number = refl;
      made_least = refl;
      made_most = refl;
      lookup_zero = refl;
      lookup_least = refl;
      lookup_most = refl;
      lookup_over = refl;
      delta_zero = refl;
      delta_least = refl;
      delta_most = refl;
      delta_over = refl;
      drain_zero = refl;
      drain_least = refl;
      drain_most = refl;
      drain_over = refl;
      listing_zero = refl;
      listing_over = refl;
      most_early = refl;
      most_due = refl;
      most_next_early = refl;
      most_next_due = refl;
      least_early = refl;
      least_due = refl;
      last_round = refl;
      last_but_one = refl;
    }
