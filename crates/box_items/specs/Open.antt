-- `evaluation` opens every definition of this crate and of those below it: a proof by evaluation says `unfolding evaluation`.
-- Assumes nothing.
use Rattle.base.specs.Open.{evaluation as base-evaluation}
use Rattle.rows.specs.Open.{evaluation as rows-evaluation}
use Rattle.blake3_compress.specs.Open.{evaluation as blake3-compress-evaluation}
use Rattle.blake3.specs.Open.{evaluation as blake3-evaluation}
use Rattle.roaring.specs.Open.{evaluation as roaring-evaluation}
use Rattle.counters.specs.Open.{evaluation as counters-evaluation}
use Rattle.snapshot.specs.Open.{evaluation as snapshot-evaluation}
use Rattle.cell_nursery.specs.Open.{evaluation as cell-nursery-evaluation}
use Rattle.format.specs.Open.{evaluation as format-evaluation}
use Rattle.journal.specs.Open.{evaluation as journal-evaluation}
use Rattle.node_box.specs.Open.{evaluation as node-box-evaluation}
use Rattle.box_lines.specs.Open.{evaluation as box-lines-evaluation}
use Rattle.box_items.specs.Items.{allocate_item, words_in, batch_item, delta_item, drain_room, drain_item, call_of, ran, item_call, turn, run_box, lines_from, lines, text}

unfoldable pub evaluation : Unit {0}
unfolding base-evaluation rows-evaluation blake3-compress-evaluation blake3-evaluation roaring-evaluation counters-evaluation snapshot-evaluation cell-nursery-evaluation format-evaluation journal-evaluation node-box-evaluation box-lines-evaluation allocate_item words_in batch_item delta_item drain_room drain_item call_of ran item_call turn run_box lines_from lines text
evaluation = tt
