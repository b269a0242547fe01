-- `call_lists::lines::pair`.
-- Assumes nothing.
use Rattle.std.proofs.Common.{refl, arith}
use Rattle.call_lists.specs.Laws.{pair-there, pair-high, pair-low}
use Rattle.call_lists.proofs.lines.pair.Goals as goal

pub returns-in_err-h : goal.returns-in_err-h
returns-in_err-h c =
    let a = c.args in
    rw c.from_residual.ensures (pair-high a.high a.low 16 _ c.in_err-h.ensures.0 refl (omega arith), tt)

pub returns-in_err-l : goal.returns-in_err-l
returns-in_err-l c =
    let a = c.args in
    rw c.from_residual-in_err-l.ensures (pair-low a.high a.low _ 16 c.in_ok-h.ensures.0 c.in_err-l.ensures.0 c.in_ok-h.ensures.1 (omega arith), tt)

pub returns : goal.returns
returns c =
    let a = c.args in
    let h = c.in_ok-h.ensures in
    let l = c.in_ok-l.ensures in
    (pair-there a.high a.low _ _ h.0 l.0 h.1 l.1, omega (arith, h.1, l.1))
