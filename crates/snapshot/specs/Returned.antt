-- What loading a snapshot answers, and the values beside the answer, also beside a refusal; and how what a function returns reads as that.
-- Assumes nothing.
use Rattle.std.specs.Prelude.{ℕ, Result, Ok, Err}
use Rattle.base.specs.Answers.{Answer, Taken, Refused}
use Rattle.base.specs.declared.Refusal.{Refusal}
use Rattle.counters.specs.declared.Counters.{Counters}
use Rattle.counters.specs.Calls.{no_counters}
use Rattle.snapshot.specs.declared.Loaded.{Loaded}

-- the counters, and the total that the snapshot has: zeros beside a refusal
pub record LoadedAnswer : Type 0 where
  pub answer : Answer
  pub counters : Counters
  pub old_total : ℕ

abbrev pub as_loaded : Result Loaded Refusal → LoadedAnswer
as_loaded (Ok l) = record { answer = Taken; counters = l.counters; old_total = l.old_total }
as_loaded (Err r) = record { answer = Refused r; counters = no_counters; old_total = 0 }
