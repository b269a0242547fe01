-- `record_vectors::bitmap_calls::members`.
-- Assumes nothing.
use Rattle.std.proofs.Common.{sym, ◌∙◌}
use Rattle.roaring_cursor.specs.CursorLaws.{started}
use Rattle.record_vectors.proofs.bitmap_calls.members.Goals as goal

pub start-requires : goal.start-requires
start-requires c = sym c.is_bitmap64.ensures ∙ c.if-not-is_bitmap64.false

pub next-requires : goal.next-requires
next-requires c =
    let e = sym c.is_bitmap64.ensures ∙ c.if-not-is_bitmap64.false in
    (started c.args.s.now e c.start.result c.start.ensures).good
