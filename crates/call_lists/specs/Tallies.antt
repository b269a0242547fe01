-- How many steps of a list agree.
-- Assumes nothing.
use Rattle.std.specs.Prelude.{◌+◌, ◌%◌, ◌^◌, Bool}
use Rattle.base.specs.Logic.{pick}
use Rattle.call_lists.specs.declared.tally.Tally.{Tally}

-- one step more, which agreed or not; both numbers start again at 2^64
abbrev pub one_more : Bool → Tally → Tally
one_more good t = record { steps = (t.steps + 1) % 2 ^ 64; good = pick good ((t.good + 1) % 2 ^ 64) t.good }
