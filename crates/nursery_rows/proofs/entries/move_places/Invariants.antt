-- The rows before row i have their cells' new places, and those from it on stand as they were.
use mathlib.Core.Path.{◌≡◌}
use Prim.Native.Nat.{ℕ, ◌+◌, ◌*◌, ◌≤◌}
use lib.ListN.{get_or}
use Rattle.cell_nursery.proofs.PlaceLaws.{Moving}
use Rattle.nursery_rows.specs.Rows.{Moves}
use Rattle.nursery_rows.proofs.entries.move_places.Given as goal

abbrev pub invariant-loop-i : goal.invariant-loop-i
invariant-loop-i g l =
    record {
      behind : (j : ℕ) → l.i ≤ j → get_or l.t (j * 8 + 6) 0 ≡ get_or l.initial.t (j * 8 + 6) 0;
      moved : (h : ℕ → ℕ) → Moves (goal.F-post g l.moved) h → Moving h l.n l.from l.initial.t l.t l.i;
    }
