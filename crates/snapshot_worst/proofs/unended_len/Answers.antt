use Rattle.snapshot_worst.specs.NumberLaws.{no_bytes, last-feed, last-other}
use native.Mathlib.Omega.{arith}
use Rattle.snapshot_worst.proofs.unended_len.Goals as goal

pub returns-then-len-eq0 : goal.returns-then-len-eq0
returns-then-len-eq0 c = no_bytes c.args.s.now c.if-len-eq0.true

pub returns-then-s-len-eq10 : goal.returns-then-s-len-eq10
returns-then-s-len-eq10 c = last-feed c.args.s.now (omega arith) c.if-s-len-eq10.true

pub returns : goal.returns
returns c = last-other c.args.s.now (omega arith) c.if-s-len-eq10.false
