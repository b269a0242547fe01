-- `cell_nursery::delay_in_range`: not 0, and at most 10,000.
use Rattle.std.proofs.Common.{sym, inl, arith, le-leb}
use Rattle.cell_nursery.specs.Layout.{delay_in_range}
use Rattle.cell_nursery.proofs.SettingLaws.{delay-range}
use Rattle.cell_nursery.proofs.delay_in_range.Goals as goal

pub returns-then-delay-eq0 : goal.returns-then-delay-eq0
returns-then-delay-eq0 c = sym ((delay-range c.args.delay).1 (inl c.if-delay-eq0.true))

pub returns : goal.returns
unfolding delay_in_range
returns c = rw (le-leb 1 c.args.delay (omega arith))
