-- `journal_scan::scan_from`. The loop's invariant: the rest of the journal leads to the end that is wanted.
-- The measure is what is left of the journal's bytes. Assumes nothing.
use mathlib.Core.Path.{◌≡◌, refl}
use Prim.Native.Nat.{◌+◌}
use lib.ListN.{length}
use Rattle.std.specs.Prelude.{Ok, Err}
use Rattle.format.specs.Returned.{as_decoded}
use native.Mathlib.Omega.{arith}
use Rattle.blake3.specs.Mode.{hash_from}
use Rattle.journal_scan.specs.ScanLaws.{Passing, passed, stopped, finished}
use Rattle.journal_scan.proofs.scan_from.Goals as goal

-- the record at hand was taken
turn : (c : goal.After-struct_known-1) → let a = c.args in
    let l = c.loop-place in
    Passing (hash_from a.start) a.s.now (l.records + 1) (l.place + (56 + c.in-Ok.d.items_len))
turn c =
    let a = c.args in
    let l = c.loop-place in
    passed (hash_from a.start) a.s.now l.records l.place l.invariant c.loop-place-test.true (as_decoded (Ok c.in-Ok.d)) c.in-Ok.ensures refl

pub loop-place-init : goal.loop-place-init
loop-place-init c = record { inside = omega arith; counted = omega arith; leads = refl }

pub overflow_add-place : goal.overflow_add-place
overflow_add-place c =
    let size = c.well_formed in
    omega (arith, (turn c).inside)

pub overflow_add-place-in-Ok : goal.overflow_add-place-in-Ok
overflow_add-place-in-Ok c =
    let size = c.well_formed in
    omega (arith, (turn c).inside)

pub loop-place-preserved : goal.loop-place-preserved
loop-place-preserved c = turn c

pub returns-in-Err : goal.returns-in-Err
returns-in-Err c =
    let a = c.args in
    let l = c.loop-place in
    stopped (hash_from a.start) a.s.now l.records l.place l.invariant c.loop-place-test.true (as_decoded (Err c.in-Err.r)) c.in-Err.ensures c.in-Err.r refl

pub returns : goal.returns
returns c =
    let a = c.args in
    let l = c.loop-place in
    let e : l.place ≡ length a.s.now = omega (arith, l.invariant.inside, c.loop-place-test.false) in
    rw e (finished (hash_from a.start) a.s.now l.records l.place l.invariant e)
