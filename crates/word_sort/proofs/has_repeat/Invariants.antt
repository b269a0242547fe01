-- `word_sort::has_repeat`. The invariant: a word stands twice exactly where one does among those that are left.
-- Assumes nothing.
use Rattle.std.proofs.Common.{◌≡◌, ◌-◌, drop}
use Rattle.base.specs.Logic.{repeated}
use Rattle.word_sort.proofs.has_repeat.Given as goal

abbrev pub invariant-loop-i : goal.invariant-loop-i
invariant-loop-i l = repeated l.s ≡ repeated (drop (l.i - 1) l.s)
