use Rattle.base.specs.Logic.{fold}
use Rattle.counters.specs.Counts.{Entry}
use Rattle.snapshot_tiers.specs.Heads.{no_head, lower_from}
use Rattle.snapshot_tiers.specs.LargeLaws.{raw-start, scan-next, scan-end}
use mathlib.Core.Path.{sym, ap, ◌∙◌}
use mathlib.Core.List.{List}
use native.Mathlib.Omega.{arith}
use Rattle.snapshot_tiers.proofs.large.scan.Goals as goal

pub loop-i-init : goal.loop-i-init
loop-i-init c = let a = c.args in ap (λ (r : List Entry). fold (lower_from a.lo) r no_head) (raw-start a.s.now a.at a.n)

pub loop-i-preserved : goal.loop-i-preserved
loop-i-preserved c =
    let a = c.args in
    let l = c.loop-i in
    rw (c.lower_from-h.ensures, c.read_le64-in-loop-i.ensures, c.read_le64.ensures)
    (sym (scan-next a.s.now a.at a.n l.i a.lo l.h (omega arith)) ∙ l.invariant)

pub returns : goal.returns
returns c = let a = c.args in let l = c.loop-i in scan-end a.s.now a.at a.n l.i a.lo l.h (omega arith) ∙ l.invariant
