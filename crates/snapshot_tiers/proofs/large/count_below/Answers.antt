use Prim.Native.Nat.{◌/◌}
use Rattle.base.specs.Laws.{ascending-sorted}
use Rattle.rows.proofs.KeyLaws.{place-le, place_up, place_down}
use Rattle.snapshot_tiers.specs.SortedLaws.{length-idxs, idx-at}
use Rattle.snapshot_tiers.specs.Heads.{idxs_of}
use Prim.Native.Nat.{◌+◌, ◌-◌}
use native.Mathlib.Omega.{arith}
use lib.ListN.{drop}
use Rattle.snapshot_tiers.proofs.large.count_below.Goals as goal

pub loop-a-init : goal.loop-a-init
loop-a-init c =
    let a = c.args in
    omega (arith, place-le a.lo (idxs_of a.n (drop a.at a.s.now)), length-idxs a.n (drop a.at a.s.now))

pub loop-a-preserved-then-read_le64-lo : goal.loop-a-preserved-then-read_le64-lo
loop-a-preserved-then-read_le64-lo c =
    let a = c.args in
    let l = c.loop-a in
    let ks = idxs_of a.n (drop a.at a.s.now) in
    let n = length-idxs a.n (drop a.at a.s.now) in
    let mid = l.a + (l.z - l.a) / 2 in
    let e = idx-at a.s.now a.at a.n mid (omega arith) in
    let r = c.read_le64.ensures in
    omega (arith, place_up a.lo 0 ks mid (ascending-sorted 0 ks c.requires.1) (omega arith) (omega arith))

pub loop-a-preserved : goal.loop-a-preserved
loop-a-preserved c =
    let a = c.args in
    let l = c.loop-a in
    let ks = idxs_of a.n (drop a.at a.s.now) in
    let n = length-idxs a.n (drop a.at a.s.now) in
    let mid = l.a + (l.z - l.a) / 2 in
    let e = idx-at a.s.now a.at a.n mid (omega arith) in
    let r = c.read_le64.ensures in
    omega (arith, place_down a.lo ks mid (omega arith) (omega arith))
