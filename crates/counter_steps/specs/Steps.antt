-- The steps that a batch is applied in: the kinds that are counted, and the two passes.
-- Assumes nothing.
use Rattle.std.specs.Prelude.{Bool, true, false, not, ◌&&◌, List, leb}
use Rattle.base.specs.Logic.{pick, keep}
use Rattle.counters.specs.declared.CounterTransition.{CounterTransition}
use Rattle.counters.specs.Counts.{Entry, set_count}
use Rattle.counters.specs.Maintenance.{falls, rises, clears}
use Rattle.counters.specs.Batch.{changes, kept, birth, death}
use Rattle.counter_steps.specs.declared.Kind.{Kind}
use Rattle.counter_steps.specs.declared.Kind.TheVariants.{Birth, Death, Rise, Fall, Clear}
use Rattle.counter_steps.specs.declared.Pass.{Pass}
use Rattle.counter_steps.specs.declared.Pass.TheVariants.{Free, Store}

-- the transitions of a kind
abbrev pub of_kind : Kind → CounterTransition → Bool
of_kind Birth t = birth t
of_kind Death t = death t
of_kind Rise t = rises t
of_kind Fall t = falls t
of_kind (Clear k) t = clears k t

-- the transitions that leave a count of 2 or more, or those that leave none: the second free rows for the first
abbrev pub leaves_row : Bool → CounterTransition → Bool
leaves_row true t = leb 2 t.new_raw
leaves_row false t = not (leb 2 t.new_raw)

-- which of them a pass applies
abbrev pub stores : Pass → Bool
stores Free = false
stores Store = true

-- one pass over a batch: the kept transitions that do, or those that don't
unfoldable pub pass_of : Bool → List CounterTransition → List CounterTransition
pass_of many ts = keep (leaves_row many) (kept ts)

-- the stored counts after one transition, if it is kept and does, or doesn't
unfoldable pub apply_one : Bool → CounterTransition → List Entry → List Entry
apply_one many t es = pick (changes t && leaves_row many t) (set_count t.idx.0 t.new_raw es) es
