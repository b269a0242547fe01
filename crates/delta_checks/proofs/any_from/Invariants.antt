-- What is told of all inserts is what is told of those from insert `counter` on.
use mathlib.Core.Path.{◌≡◌}
use Prim.Native.Nat.{ℕ}
use mathlib.Core.Bool.{Bool}
use Rattle.base.specs.Logic.{any}
use Rattle.cell_nursery.specs.Calls.{length_width}
use Rattle.delta_items.specs.Walk.{inserts_len, inserts_from}
use Rattle.delta_items.specs.WalkLaws.{Left}
use Rattle.delta_checks.specs.ChecksLaws.{Tells}
use Rattle.delta_checks.proofs.any_from.Given as goal

abbrev pub invariant-loop : goal.invariant-loop
invariant-loop g l =
    record {
      left : Left (length_width l.wide) l.inserts l.counter l.at (inserts_len (length_width l.wide) l.inserts l.items) l.items;
      same : (h : ℕ → Bool) → Tells (goal.F-post g l.told) h → any (λ e. h e.hash) (inserts_from (length_width l.wide) l.inserts l.counter l.at l.items) ≡ any (λ e. h e.hash) (inserts_from (length_width l.wide) l.inserts l.from l.start l.items);
    }
