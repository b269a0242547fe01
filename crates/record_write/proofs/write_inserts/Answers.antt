-- `record_write::write_inserts`. The invariant: what is left to write, laid at the place reached, gives what is wanted.
use native.Mathlib.Omega.{arith}
use Rattle.cell_nursery.specs.Calls.{length_width}
use Rattle.record_write.specs.WriteLaws.{writing_start, writing-done, turn-whole, turn-cell, turn-room, turn-next}
use Rattle.record_write.proofs.write_inserts.Goals as goal

pub loop-init : goal.loop-init
loop-init c =
    let a = c.args in
    let p = c.requires in
    writing_start (length_width a.wide) a.inserts a.items.now a.out.now p.0 p.1 p.2

pub write_insert-requires : goal.write_insert-requires
write_insert-requires c =
    let a = c.args in
    let l = c.loop in
    let s = l.invariant in (
      turn-whole (length_width a.wide) a.inserts l.counter l.at l.to a.items.now l.out a.out.now s (omega arith),
      turn-cell (length_width a.wide) a.inserts l.counter l.at l.to a.items.now l.out a.out.now s (omega arith),
      turn-room (length_width a.wide) a.inserts l.counter l.at l.to a.items.now l.out a.out.now s (omega arith),
    )

pub cell_len-requires : goal.cell_len-requires
cell_len-requires c =
    let a = c.args in
    let l = c.loop in
    omega (arith, turn-whole (length_width a.wide) a.inserts l.counter l.at l.to a.items.now l.out a.out.now l.invariant (omega arith))

pub overflow_add-to : goal.overflow_add-to
overflow_add-to c =
    let a = c.args in
    let l = c.loop in
    omega (arith, c.cell_len.ensures, turn-cell (length_width a.wide) a.inserts l.counter l.at l.to a.items.now l.out a.out.now l.invariant (omega arith))

pub overflow_add-to-in-loop : goal.overflow_add-to-in-loop
overflow_add-to-in-loop c =
    let a = c.args in
    let l = c.loop in
    omega (arith, c.cell_len.ensures, turn-room (length_width a.wide) a.inserts l.counter l.at l.to a.items.now l.out a.out.now l.invariant (omega arith), l.invariant.same)

pub insert_end-at-requires : goal.insert_end-at-requires
insert_end-at-requires c =
    let a = c.args in
    let l = c.loop in
    turn-whole (length_width a.wide) a.inserts l.counter l.at l.to a.items.now l.out a.out.now l.invariant (omega arith)

pub loop-preserved : goal.loop-preserved
loop-preserved c =
    let a = c.args in
    let l = c.loop in
    rw (c.insert_end-at.ensures, c.cell_len.ensures)
    (turn-next (length_width a.wide) a.inserts l.counter l.at l.to a.items.now l.out a.out.now l.invariant (omega arith) _ c.write_insert.ensures)

pub shape_of-out : goal.shape_of-out
shape_of-out c =
    c.loop.invariant.same

pub returns : goal.returns
returns c =
    let a = c.args in
    let l = c.loop in
    writing-done (length_width a.wide) a.inserts l.counter l.at l.to a.items.now l.out a.out.now l.invariant (omega arith)
