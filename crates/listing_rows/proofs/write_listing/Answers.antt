-- `listing_rows::write_listing` meets its contract. The invariant: the bytes of the first i entries stand at the start.
use mathlib.Core.List.{[]}
use lib.Seq.{paste-zero}
use Rattle.cell_nursery.proofs.OutputLaws.{row_fits, insert-room, insert-length, insert-next, paste_all}
use Rattle.cell_nursery.proofs.LayoutLaws.{number-entries}
use Rattle.cell_nursery.specs.Layout.{entries_of}
use Rattle.cell_nursery.specs.Drain.{listing_bytes}
use Rattle.cell_nursery.specs.Entries.{insert_bytes}
use Rattle.base.specs.Logic.{flat}
use mathlib.Core.Path.{refl, ◌∙◌}
use native.Mathlib.Omega.{arith}
use Rattle.listing_rows.proofs.write_listing.Goals as goal

pub loop-i-init : goal.loop-i-init
unfolding flat
loop-i-init c = (refl, paste-zero c.args.out.now 0 [], refl)

pub write_insert-requires : goal.write_insert-requires
write_insert-requires c =
    let l = c.loop-i in
    let a = c.args in
    (row_fits a.r a.es.now a.cs.now c.requires.0 c.requires.1 l.i (omega arith), omega (arith, insert-room a.r a.es.now a.cs.now c.requires.0 c.requires.1 l.i (omega arith) l.at l.invariant.0, c.requires.2))

pub overflow_add-at-in-loop-i : goal.overflow_add-at-in-loop-i
overflow_add-at-in-loop-i c =
    let l = c.loop-i in
    let a = c.args in
    omega (arith, insert-room a.r a.es.now a.cs.now c.requires.0 c.requires.1 l.i (omega arith) l.at l.invariant.0, c.requires.2)

pub overflow_add-at-in-loop-i-2 : goal.overflow_add-at-in-loop-i-2
overflow_add-at-in-loop-i-2 c =
    let l = c.loop-i in
    let a = c.args in
    omega (arith, insert-room a.r a.es.now a.cs.now c.requires.0 c.requires.1 l.i (omega arith) l.at l.invariant.0, c.requires.2)

pub loop-i-preserved : goal.loop-i-preserved
loop-i-preserved c =
    let l = c.loop-i in
    let a = c.args in
    (insert-length a.r a.es.now a.cs.now c.requires.0 c.requires.1 l.i (omega arith) l.at l.invariant.0, c.write_insert.ensures ∙ insert-next a.r a.es.now a.cs.now c.requires.0 c.requires.1 l.i (omega arith) l.at l.invariant.0 a.out.now l.out l.invariant.1, omega arith)

pub returns : goal.returns
unfolding listing_bytes
returns c =
    let l = c.loop-i in
    let a = c.args in
    paste_all insert_bytes (entries_of a.r.entries a.es.now a.cs.now) l.i a.out.now l.out l.at (rw (number-entries a.r a.es.now a.cs.now) (omega arith)) l.invariant.0 l.invariant.1
