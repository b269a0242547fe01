-- The passes that a batch is applied in: rows that go are marked and left out, rows that come are laid aside and joined to the others.
-- Assumes nothing.
use Rattle.std.specs.Prelude.{ℕ, ◌+◌, ◌*◌, ◌-◌, Bool, true, false, not, ◌&&◌, List, map, length, get_or, leb, ltb, eqb}
use Rattle.base.specs.Logic.{pick, any, elem, keep, fold}
use Rattle.counters.specs.declared.CounterTransition.{CounterTransition}
use Rattle.counters.specs.Counts.{Entry, set_count}
use Rattle.counters.specs.Batch.{changes}
use Rattle.counter_steps.specs.Steps.{leaves_row}

-- the rows that stand: those whose count is at least 2
abbrev pub stands : Entry → Bool
stands e = leb 2 e.count

unfoldable pub standing : List Entry → List Entry
standing es = keep stands es

-- a row with the count n if its index is i, and the rows so
abbrev pub recount : ℕ → ℕ → Entry → Entry
recount i n e = pick (eqb e.idx i) (record { idx = e.idx; count = n }) e

unfoldable pub replaced : ℕ → ℕ → List Entry → List Entry
replaced i n es = map (recount i n) es

-- the transition is kept and leaves no row
abbrev pub drops : CounterTransition → Bool
drops x = changes x && leaves_row false x

-- the rows with the new count of one such transition, and of all of them
unfoldable pub mark_one : CounterTransition → List Entry → List Entry
mark_one x es = pick (drops x) (replaced x.idx.0 x.new_raw es) es

unfoldable pub marked : List CounterTransition → List Entry → List Entry
marked xs es = fold mark_one xs es

-- it names one of the indices, and one of them does
abbrev pub hits : List ℕ → CounterTransition → Bool
hits ks x = drops x && elem x.idx.0 ks

unfoldable pub any_hit : List ℕ → List CounterTransition → Bool
any_hit ks xs = any (hits ks) xs

-- the transition is kept and leaves a row
abbrev pub lands : CounterTransition → Bool
lands x = changes x && leaves_row true x

-- the rows that were there after one such transition, and after all of them: its row has the new count, if it has one
unfoldable pub front_one : CounterTransition → List Entry → List Entry
front_one x es = pick (lands x) (replaced x.idx.0 x.new_raw es) es

unfoldable pub fronts : List CounterTransition → List Entry → List Entry
fronts xs es = fold front_one xs es

-- it names none of ks, and how many do so
abbrev pub is_new : List ℕ → CounterTransition → Bool
is_new ks x = lands x && not (elem x.idx.0 ks)

abbrev pub new_rows : List ℕ → List CounterTransition → ℕ
new_rows ks xs = length (keep (is_new ks) xs)

-- the rows laid aside after one, and after all: a transition that names none of ks sets its count there
unfoldable pub back_one : List ℕ → CounterTransition → List Entry → List Entry
back_one ks x ns = pick (is_new ks x) (set_count x.idx.0 x.new_raw ns) ns

unfoldable pub backs : List ℕ → List CounterTransition → List Entry → List Entry
backs ks xs ns = fold (back_one ks) xs ns

-- the counts es with the counts ns set among them
unfoldable pub joined : List Entry → List Entry → List Entry
joined ns es = fold (λ e. set_count e.idx e.count) ns es

-- a row that comes: it stands, and its index is none of ks
abbrev pub comes : List ℕ → Entry → Bool
comes ks e = leb 2 e.count && not (elem e.idx ks)

-- of i rows at the front and left - i rows from the word at on, the last with the highest index is at the front
abbrev pub front_last : ℕ → ℕ → ℕ → List ℕ → Bool
front_last i left at t = ltb 0 i && ltb (get_or t (at + (left - i - 1) * 2) 0) (get_or t ((i - 1) * 2) 0)

-- the word at which that row begins
abbrev pub last_at : ℕ → ℕ → ℕ → List ℕ → ℕ
last_at i left at t = pick (front_last i left at t) ((i - 1) * 2) (at + (left - i - 1) * 2)
