-- What each call on the counters answers, and the values beside the answer, also beside a refusal; and how what a function returns reads as that.
-- Assumes nothing.
use Rattle.std.specs.Prelude.{Bool, false, List, replicate, Result, Ok, Err}
use Rattle.base.specs.Answers.{Answer, Taken, Refused}
use Rattle.base.specs.declared.Refusal.{Refusal}
use Rattle.counters.specs.declared.Counters.{Counters}
use Rattle.counters.specs.declared.Idx.{Idx}
use Rattle.counters.specs.declared.RefCount.{RefCount}
use Rattle.counters.specs.declared.Shrunk.{Shrunk}

-- allocation: the index handed out, 0 beside a refusal, and the record after it
pub record Allocated : Type 0 where
  pub answer : Answer
  pub idx : Idx
  pub counters : Counters

-- of a record that is lent
abbrev pub as_allocated : Counters → Result (Idx × Counters) Refusal → Allocated
as_allocated c (Ok (i, d)) = record { answer = Taken; idx = i; counters = d }
as_allocated c (Err r) = record { answer = Refused r; idx = record { 0 = 0 }; counters = c }

-- reading a count: 0 beside a refusal
pub record Got : Type 0 where
  pub answer : Answer
  pub count : RefCount

abbrev pub as_got : Result RefCount Refusal → Got
as_got (Ok n) = record { answer = Taken; count = n }
as_got (Err r) = record { answer = Refused r; count = record { 0 = 0 } }

-- a batch, and what makes or reads in counters: the record after it
pub record Applied : Type 0 where
  pub answer : Answer
  pub counters : Counters

-- beside a refusal it is the first one: the record that is lent, or one of zeros
abbrev pub as_applied : Counters → Result Counters Refusal → Applied
as_applied c (Ok d) = record { answer = Taken; counters = d }
as_applied c (Err r) = record { answer = Refused r; counters = c }

-- shrinking: the decisions, nine times no beside a refusal, and the record after it
pub record ShrunkAnswer : Type 0 where
  pub answer : Answer
  pub alive : Bool
  pub small : List Bool
  pub counters : Counters

-- of a record that is lent
abbrev pub as_shrunk : Counters → Result Shrunk Refusal → ShrunkAnswer
as_shrunk c (Ok s) = record { answer = Taken; alive = s.alive; small = s.small; counters = s.counters }
as_shrunk c (Err r) = record { answer = Refused r; alive = false; small = replicate 8 false; counters = c }
