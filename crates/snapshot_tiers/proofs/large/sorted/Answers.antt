use Rattle.rows.proofs.KeyLaws.{ascend-start, ascend-next, ascend-not, ascend-end}
use Rattle.snapshot_tiers.specs.SortedLaws.{length-idxs, idx-at}
use Rattle.snapshot_tiers.specs.Heads.{idxs_of}
use mathlib.Core.Path.{◌≡◌, sym, ◌∙◌}
use Prim.Native.Nat.{suc, ◌+◌, ◌-◌, ◌≤◌, ◌<◌}
use native.Mathlib.Omega.{arith}
use lib.ListN.{drop, get_or}
use Rattle.snapshot_tiers.proofs.large.sorted.Goals as goal

pub loop-i-init : goal.loop-i-init
loop-i-init c = ascend-start (idxs_of c.args.n (drop c.args.at c.args.s.now))

pub returns-then-read_le64 : goal.returns-then-read_le64
returns-then-read_le64 c =
    let a = c.args in
    let l = c.loop-i in
    let ks = idxs_of a.n (drop a.at a.s.now) in
    let n = length-idxs a.n (drop a.at a.s.now) in
    let x = idx-at a.s.now a.at a.n (l.i - 1) (omega arith) in
    let y = idx-at a.s.now a.at a.n l.i (omega arith) in
    let q = c.read_le64.ensures in
    let r = c.read_le64-in-loop-i.ensures in
    let z : suc (l.i - 1) ≡ l.i = omega arith in
    let k : get_or ks (suc (l.i - 1)) 0 ≤ get_or ks (l.i - 1) 0 = rw z (omega arith) in
    sym (l.invariant ∙ ascend-not ks (l.i - 1) (omega arith) k)

pub loop-i-preserved : goal.loop-i-preserved
loop-i-preserved c =
    let a = c.args in
    let l = c.loop-i in
    let ks = idxs_of a.n (drop a.at a.s.now) in
    let n = length-idxs a.n (drop a.at a.s.now) in
    let x = idx-at a.s.now a.at a.n (l.i - 1) (omega arith) in
    let y = idx-at a.s.now a.at a.n l.i (omega arith) in
    let q = c.read_le64.ensures in
    let r = c.read_le64-in-loop-i.ensures in
    let z : suc (l.i - 1) ≡ l.i = omega arith in
    let k : get_or ks (l.i - 1) 0 < get_or ks (suc (l.i - 1)) 0 = rw z (omega arith) in
    let w : l.i + 1 - 1 ≡ suc (l.i - 1) = omega arith in
    rw w (l.invariant ∙ ascend-next ks (l.i - 1) (omega arith) k)

pub returns : goal.returns
returns c =
    let a = c.args in
    let l = c.loop-i in
    let ks = idxs_of a.n (drop a.at a.s.now) in
    let n = length-idxs a.n (drop a.at a.s.now) in
    sym (l.invariant ∙ ascend-end ks (l.i - 1) (omega arith))
