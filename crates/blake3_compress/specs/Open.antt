-- `evaluation` opens every definition of this crate and of those below it: a proof by evaluation says `unfolding evaluation`.
-- Assumes nothing.
use Rattle.base.specs.Open.{evaluation as base-evaluation}
use Rattle.blake3_compress.specs.Spec.{mix, g, columns, diagonals, round, schedule, scheduled, rounds, iv, start, compress}

unfoldable pub evaluation : Unit {0}
unfolding base-evaluation mix g columns diagonals round schedule scheduled rounds iv start compress
evaluation = tt
