-- `record_vectors::bitmap_calls::members`. The invariant: a cursor in the bitmap.
-- Assumes nothing.
use Rattle.roaring_cursor.specs.Cursor.{Good}
use Rattle.record_vectors.proofs.bitmap_calls.members.Given as goal

abbrev pub invariant-loop : goal.invariant-loop
invariant-loop l = Good l.s l.c
