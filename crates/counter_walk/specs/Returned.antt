-- How what the code holds of a walk reads as the walk that the definitions and laws speak of.
-- Assumes nothing.
use Rattle.base.specs.Answers.{answered}
use Rattle.counter_walk.specs.declared.Sums as code-sums
use Rattle.counter_walk.specs.declared.Phase as code-phase
use Rattle.counter_walk.specs.declared.Phase.TheVariants as is
use Rattle.counter_walk.specs.declared.Walk as code-walk
use Rattle.counter_walk.specs.Held.{Phase, Look, Again, Free, Store, End, Sums, Walk}

abbrev pub as_sums : code-sums.Sums → Sums
as_sums a =
    record {
      unallocated = a.unallocated;
      false_old = a.false_old;
      births = a.births;
      deaths = a.deaths;
      rises = a.rises;
      falls = a.falls;
      maintenance = a.maintenance;
    }

abbrev pub as_phase : code-phase.Phase → Phase
as_phase is.Look = Look
as_phase is.Again = Again
as_phase is.Free = Free
as_phase is.Store = Store
as_phase is.End = End

-- the answer is a refusal, or that the batch was taken
abbrev pub as_walk : code-walk.Walk → Walk
as_walk s =
    record {
      phase = as_phase s.phase;
      at = s.at;
      len = s.len;
      «of» = s.«of»;
      seek = s.seek;
      repeated = s.repeated;
      sums = as_sums s.sums;
      rows = s.rows;
      answer = answered s.answer;
      counters = s.counters;
    }
