use mathlib.Core.Path.{refl, ◌∙◌}
use native.Mathlib.Omega.{arith}
use Rattle.counters.specs.Maintenance.{standard, in_range}
use Rattle.snapshot_bound.specs.CallLaws.{worst-holds, worst-written}
use Rattle.snapshot_worst.proofs.write_worst.Goals as goal

pub serialize_held-requires : goal.serialize_held-requires
unfolding in_range standard
serialize_held-requires c =
    rw (c.worst_record.ensures, c.lay_worst.ensures) (worst-holds standard c.args.n 400 refl (omega arith) (omega arith))

pub returns : goal.returns
unfolding in_range standard
returns c =
    c.serialize_held.ensures ∙ rw (c.worst_record.ensures, c.lay_worst.ensures) (worst-written standard c.args.n 400 refl (omega arith) (omega arith) c.args.out.now)
