-- `record_read::exact`. Whether bytes are left over, by the figures.
-- Assumes nothing.
use mathlib.Core.Path.{sym}
use native.Mathlib.Omega.{arith}
use Rattle.std.specs.Prelude.{Ok}
use Rattle.format.specs.Returned.{as_decoded}
use Rattle.format.specs.Calls.{decoded_of}
use Rattle.record_read.specs.DecodeLaws.{over-refused, none_over}
use Rattle.record_read.proofs.exact.Goals as goal

pub returns-then-d : goal.returns-then-d
unfolding decoded_of
returns-then-d c = sym (over-refused (as_decoded (Ok c.args.d)) (omega arith))

pub returns : goal.returns
returns c = sym (none_over (as_decoded (Ok c.args.d)) (omega arith))
