use Prim.Native.Nat.{◌/◌, min}
use Rattle.delta_checks.specs.ChecksLaws.{room-short}
use Prim.Native.Nat.{◌+◌}
use native.Mathlib.Omega.{arith}
use borrow.Author.Tests.{le-ltb}
use Rattle.delta_checks.proofs.is_full.Goals as goal

pub returns : goal.returns
returns c =
    let a = c.args in
    rw (le-ltb (min (a.es / 8) (a.ws / 5)) (a.r.entries + a.rows) (omega arith)) (room-short a.cs a.r.cell_bytes a.bytes c.requires.1)
