-- `journal_convert::convert_journal`. Each way out by its law.
-- Assumes nothing.
use native.Mathlib.Omega.{arith}
use Rattle.blake3.specs.Spec.{hash}
use Rattle.journal_convert.specs.CallLaws.{out-short, list-short, both-written}
use Rattle.journal_convert.proofs.convert_journal.Goals as goal

pub returns-then-out-len : goal.returns-then-out-len
returns-then-out-len c =
    let a = c.args in
    let z = c.measure-sizes in
    out-short hash a.s.now a.out.now a.dropped.now z.result z.ensures c.if-out-len.true

pub returns-then-dropped-dropped_len : goal.returns-then-dropped-dropped_len
returns-then-dropped-dropped_len c =
    let a = c.args in
    let z = c.measure-sizes in
    list-short hash a.s.now a.out.now a.dropped.now z.result z.ensures c.if-out-len.false (omega (arith, c.if-dropped-dropped_len.true))

pub rewrite-requires : goal.rewrite-requires
rewrite-requires c = (c.measure-sizes.ensures, c.if-out-len.false, c.if-dropped-dropped_len.false)

pub returns : goal.returns
returns c =
    let a = c.args in
    let z = c.measure-sizes in
    let w = c.rewrite.ensures in
    rw (w.0, w.1) (both-written hash a.s.now a.out.now a.dropped.now z.result z.ensures c.if-out-len.false c.if-dropped-dropped_len.false)
