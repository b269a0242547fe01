-- `evaluation` opens every definition of this crate and of those below it: a proof by evaluation says `unfolding evaluation`.
-- Assumes nothing.
use Rattle.base.specs.Open.{evaluation as base-evaluation}
use Rattle.box_lines.specs.Lines.{kind_of, body_len, digits_of, decimal, field, line_text, heading, append}

unfoldable pub evaluation : Unit {0}
unfolding base-evaluation kind_of body_len digits_of decimal field line_text heading append
evaluation = tt
