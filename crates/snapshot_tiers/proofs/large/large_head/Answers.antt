use Rattle.rows.proofs.KeyLaws.{place-le}
use Rattle.snapshot_tiers.specs.SortedLaws.{length-idxs, sorted-some, sorted_none}
use Rattle.snapshot_tiers.specs.Heads.{idxs_of}
use mathlib.Core.Path.{sym, ◌∙◌}
use Prim.Native.Nat.{◌≤◌}
use native.Mathlib.Omega.{arith}
use lib.ListN.{drop}
use Rattle.snapshot_tiers.proofs.large.large_head.Goals as goal

pub count_below-k-requires : goal.count_below-k-requires
count_below-k-requires c = (c.requires.0, sym c.requires.1 ∙ c.if-not-ascending.false)

pub returns-then-n-k : goal.returns-then-n-k
returns-then-n-k c =
    let a = c.args in
    let k = c.count_below-k in
    let h : k.result ≤ a.n = omega (arith, k.ensures, place-le a.lo (idxs_of a.n (drop a.at a.s.now)), length-idxs a.n (drop a.at a.s.now)) in
    sorted_none a.s.now a.at a.n a.lo k.result (sym c.requires.1 ∙ c.if-not-ascending.false) k.ensures h (omega arith)

pub returns : goal.returns
returns c =
    let a = c.args in
    let k = c.count_below-k in
    rw (c.read_le64.ensures, c.read_le64-2.ensures)
    (sorted-some a.s.now a.at a.n a.lo k.result (sym c.requires.1 ∙ c.if-not-ascending.false) k.ensures (omega arith))
