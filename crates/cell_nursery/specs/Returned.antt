-- What each call on the nursery answers, and the values beside the answer, also beside a refusal; and how what a function returns reads as that.
-- Assumes nothing.
use Rattle.std.specs.Prelude.{ℕ, Bool, true, false, Option, Some, None, Result, Ok, Err}
use Rattle.base.specs.Answers.{Answer, Taken, Refused}
use Rattle.base.specs.declared.Refusal.{Refusal}
use Rattle.counters.specs.declared.Idx.{Idx}
use Rattle.cell_nursery.specs.declared.Nursery.{Nursery}
use Rattle.cell_nursery.specs.declared.CellPlace.{CellPlace}

-- a delta, and what makes a nursery: the record after it
pub record Committed : Type 0 where
  pub answer : Answer
  pub nursery : Nursery

-- beside a refusal it is the first one: the record that is lent, or one of zeros
abbrev pub as_committed : Nursery → Result Nursery Refusal → Committed
as_committed r (Ok n) = record { answer = Taken; nursery = n }
as_committed r (Err q) = record { answer = Refused q; nursery = r }

-- draining: how many bytes at the output's start are handed out, and the record after it
pub record Drained : Type 0 where
  pub answer : Answer
  pub len : ℕ
  pub nursery : Nursery

-- of a record that is lent
abbrev pub as_drained : Nursery → Result (ℕ × Nursery) Refusal → Drained
as_drained r (Ok (n, m)) = record { answer = Taken; len = n; nursery = m }
as_drained r (Err q) = record { answer = Refused q; len = 0; nursery = r }

-- looking an index up: whether the hash is there, and its index or 0
pub record Found : Type 0 where
  pub answer : Answer
  pub found : Bool
  pub idx : Idx

abbrev pub as_found : Result (Option Idx) Refusal → Found
as_found (Ok (Some i)) = record { answer = Taken; found = true; idx = i }
as_found (Ok None) = record { answer = Taken; found = false; idx = record { 0 = 0 } }
as_found (Err q) = record { answer = Refused q; found = false; idx = record { 0 = 0 } }

-- looking a cell up: whether the hash is there, and where in the lent cells its cell lies, or 0
pub record Data : Type 0 where
  pub answer : Answer
  pub found : Bool
  pub place : ℕ
  pub len : ℕ

abbrev pub as_place : Result (Option CellPlace) Refusal → Data
as_place (Ok (Some p)) = record { answer = Taken; found = true; place = p.place; len = p.len }
as_place (Ok None) = record { answer = Taken; found = false; place = 0; len = 0 }
as_place (Err q) = record { answer = Refused q; found = false; place = 0; len = 0 }
