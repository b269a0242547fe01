-- `box_run::run_items`. The invariant: what is left to print, put behind what was printed, gives what is wanted.
-- Assumes nothing.
use mathlib.Core.Path.{◌≡◌}
use Prim.Native.Nat.{◌-◌, ◌≤◌}
use lib.ListN.{length, drop}
use Rattle.box_lines.specs.Lines.{output, append}
use Rattle.box_items.specs.Items.{box_of}
use Rattle.box_run.specs.TextLaws.{text_from}
use Rattle.box_run.proofs.run_items.Given as goal

abbrev pub invariant-loop-at : goal.invariant-loop-at
invariant-loop-at l =
    (append (text_from (box_of l.counters l.t l.nursery l.es l.ws l.cs) l.place (drop l.at l.input)) (output l.printed l.out)
    ≡ append (text_from (box_of l.initial.counters l.initial.t l.initial.nursery l.initial.es l.initial.ws l.initial.cs) 0 l.input) (output l.initial.printed l.initial.out))
    × (l.place ≤ l.at) × (l.at ≤ length l.input) × (length l.out ≡ length l.initial.out)

abbrev pub decreases-loop-at : goal.decreases-loop-at
decreases-loop-at l = length l.input - l.at
