-- How what running an item returns reads as an answer.
-- Assumes nothing.
use Rattle.std.specs.Prelude.{true, Option, Some, None}
use Rattle.base.specs.Answers.{answered}
use Rattle.counters.specs.declared.Counters.{Counters}
use Rattle.cell_nursery.specs.declared.Nursery.{Nursery}
use Rattle.box_items.specs.declared.Ran.{Ran}
use Rattle.box_items.specs.Items.{RanAnswer, bad_item}

-- on a box with these records: none for an item that stands for no call
abbrev pub as_ran : Counters → Nursery → Option Ran → RanAnswer
as_ran c n (Some r) = record { good = true; answer = answered r.answer; counters = r.counters; nursery = r.nursery }
as_ran c n None = bad_item c n
