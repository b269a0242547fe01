-- What a walk over a batch, record by record, holds.
-- Assumes nothing.
use Rattle.std.specs.Prelude.{ℕ, Bool}
use Rattle.base.specs.Answers.{Answer}
use Rattle.counters.specs.declared.CounterMaintenance.{CounterMaintenance}
use Rattle.counters.specs.declared.Counters.{Counters}

-- what the records say together: whether one is at an unallocated index, whether one has a false old count, and tallies
pub record Sums : Type 0 where
  pub unallocated : Bool
  pub false_old : Bool
  pub births : ℕ
  pub deaths : ℕ
  pub rises : ℕ
  pub falls : ℕ
  pub maintenance : CounterMaintenance

-- what is done with the next record
pub data Phase : Type 0 where
  Look : Phase
  Again : Phase
  Free : Phase
  Store : Phase
  End : Phase

-- the next record at `at` of `len`; while the later ones are asked for its index, the record `of` and that index; how many rows the table has; the
-- answer, and the state record after the batch
pub record Walk : Type 0 where
  pub phase : Phase
  pub at : ℕ
  pub len : ℕ
  pub of : ℕ
  pub seek : ℕ
  pub repeated : Bool
  pub sums : Sums
  pub rows : ℕ
  pub answer : Answer
  pub counters : Counters
