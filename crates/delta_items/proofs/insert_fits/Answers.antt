-- `delta_items::insert_fits`. By the bytes that are left.
-- Assumes nothing.
use mathlib.Core.Path.{◌≡◌, sym}
use Prim.Native.Nat.{◌+◌, ◌-◌}
use native.Mathlib.Omega.{arith}
use borrow.Author.Tests.{lt-leb}
use lib.ListN.{length, drop, length-drop}
use Rattle.cell_nursery.specs.Calls.{length_width}
use Rattle.delta_items.specs.Walk.{insert_len, cell_len}
use Rattle.delta_items.specs.WalkLaws.{fits_after}
use Rattle.delta_items.proofs.insert_fits.Goals as goal

pub returns-then-left-head : goal.returns-then-left-head
returns-then-left-head c =
    let a = c.args in
    let w = length_width a.wide in
    let l = length-drop a.at a.items.now in
    let h = c.head_len-head.ensures in
    sym (lt-leb (insert_len w (drop a.at a.items.now)) (length (drop a.at a.items.now)) (omega arith))

pub returns : goal.returns
returns c =
    let a = c.args in
    let w = length_width a.wide in
    let h : c.head_len-head.result ≡ 44 + w = c.head_len-head.ensures in
    rw (length-drop a.at a.items.now, c.cell_len.ensures, h)
    (fits_after (44 + w) (cell_len w (drop a.at a.items.now)) (length a.items.now - a.at) (omega arith))
