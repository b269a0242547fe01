-- `evaluation` opens every definition of this crate and of those below it: a proof by evaluation says `unfolding evaluation`.
-- Assumes nothing.
use Rattle.base.specs.Open.{evaluation as base-evaluation}
use Rattle.rows.specs.Table.{rows_of, table_of, holds_rows}
use Rattle.rows.specs.Keys.{first_four, keys, place}
use Rattle.rows.specs.Wide.{key_of}

unfoldable pub evaluation : Unit {0}
unfolding base-evaluation rows_of table_of holds_rows first_four keys place key_of
evaluation = tt
