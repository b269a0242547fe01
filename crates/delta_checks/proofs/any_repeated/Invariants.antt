use mathlib.Core.List.{map}
use Rattle.base.specs.Logic.{repeated}
use Rattle.cell_nursery.specs.Calls.{length_width}
use Rattle.delta_items.specs.Walk.{inserts_in, inserts_len, inserts_from}
use Rattle.delta_items.specs.WalkLaws.{Left}
use mathlib.Core.Path.{◌≡◌}
use Rattle.delta_checks.proofs.any_repeated.Given as goal

abbrev pub invariant-loop-i : goal.invariant-loop-i
invariant-loop-i l = (Left (length_width l.wide) l.inserts l.i l.at (inserts_len (length_width l.wide) l.inserts l.items) l.items) × (repeated (map (λ e. e.hash) (inserts_from (length_width l.wide) l.inserts l.i l.at l.items)) ≡ repeated (map (λ e. e.hash) (inserts_in (length_width l.wide) l.inserts l.items)))
