-- `snapshot_write::serialized_len_held`. The parts' lengths are added up, and the sum fits.
-- Assumes nothing.
use Prim.Native.Nat.{◌^◌, ◌<◌}
use native.Mathlib.Omega.{arith}
use lib.ListN.{length}
use Rattle.counters.specs.Layout.{state_of}
use Rattle.snapshot.specs.Write.{snapshot_bytes}
use Rattle.snapshot_parts.specs.PartLaws.{length-snapshot}
use Rattle.snapshot_parts.specs.BoundLaws.{snapshot-fits}
use Rattle.counters.proofs.RowLaws.{in_order}
use Rattle.snapshot_write.proofs.serialized_len_held.Goals as goal

fits : (s : goal.After-shared_slice_known-1) → length (snapshot_bytes (state_of s.args.c s.args.t.now)) < 2 ^ 64
fits s = snapshot-fits s.args.c s.args.t.now s.requires (omega arith) (omega arith)

fits-at-After-sets_len : (s : goal.After-sets_len) → length (snapshot_bytes (state_of s.args.c s.args.t.now)) < 2 ^ 64
fits-at-After-sets_len s = snapshot-fits s.args.c s.args.t.now s.requires (omega arith) (omega arith)

fits-at-After-large_len : (s : goal.After-large_len) → length (snapshot_bytes (state_of s.args.c s.args.t.now)) < 2 ^ 64
fits-at-After-large_len s = snapshot-fits s.args.c s.args.t.now s.requires (omega arith) (omega arith)

pub sets_len-requires : goal.sets_len-requires
sets_len-requires c =
    let a = c.args in
    (in_order a.c a.t.now c.requires, omega (arith, fits c, length-snapshot a.c a.t.now))

pub overflow_add-result : goal.overflow_add-result
overflow_add-result c = omega (arith, c.sets_len.ensures, fits-at-After-sets_len c, length-snapshot c.args.c c.args.t.now)

pub large_len-requires : goal.large_len-requires
large_len-requires c =
    let a = c.args in
    (in_order a.c a.t.now c.requires, omega (arith, fits-at-After-sets_len c, length-snapshot a.c a.t.now))

pub overflow_add-result-2 : goal.overflow_add-result-2
overflow_add-result-2 c = omega (arith, c.sets_len.ensures, c.large_len.ensures, fits-at-After-large_len c, length-snapshot c.args.c c.args.t.now)

pub returns : goal.returns
returns c = omega (arith, c.sets_len.ensures, c.large_len.ensures, length-snapshot c.args.c c.args.t.now)
