-- `blake3::start_of` meets its contract. By whether there is a key, and by its length.
-- Assumes nothing.
use Rattle.std.proofs.Common.{eq-eqb, ne_eqb}
use Rattle.blake3.specs.Mode.{bad_key, start_call}
use Rattle.blake3.proofs.start_of.Goals as goal

pub returns-in_default : goal.returns-in_default
unfolding bad_key start_call
returns-in_default c = rw (c.in_default.is, c.without_key.ensures)

pub returns-then-key-ne32 : goal.returns-then-key-ne32
unfolding bad_key start_call
returns-then-key-ne32 c = rw (c.in-Some.is, ne_eqb _ 32 c.if-key-ne32.true)

pub returns : goal.returns
unfolding bad_key start_call
returns c = rw (c.in-Some.is, eq-eqb _ 32 c.if-key-ne32.false, c.under_key.ensures)
