-- `row_search::narrow`. A row that is below the key stands before its place, and another stands there or behind it.
use Rattle.std.proofs.Common.{◌+◌, ◌-◌, ◌/◌, arith, ltb-true, ltb-false}
use Rattle.rows.specs.Keys.{keys}
use Rattle.rows.proofs.TableLaws.{row_fits}
use Rattle.rows.proofs.KeyLaws.{place-le, length-keys}
use Rattle.rows.proofs.SearchLaws.{key_from, key_below}
use Rattle.row_search.proofs.narrow.Goals as goal

pub loop-hi-init : goal.loop-hi-init
loop-hi-init g c =
    let a = c.args in
    let r = g.K.RowKey in
    omega (arith, place-le (r.number a.key) (keys r.spelt a.w a.n a.t.now), length-keys r.spelt a.w a.n a.t.now)

-- the row in the middle lies in the table
pub read-requires : goal.read-requires
read-requires g c =
    let a = c.args in
    let l = c.loop-hi in
    let f = row_fits a.w a.n (l.lo + (l.hi - l.lo) / 2) (omega arith) in
    omega arith

pub loop-hi-preserved-then-is_below : goal.loop-hi-preserved-then-is_below
loop-hi-preserved-then-is_below g c =
    let a = c.args in
    let l = c.loop-hi in
    let r = g.K.RowKey in
    let b = ltb-true (r.number c.read.result) (r.number a.key) (rw c.is_below.ensures at c.if-is_below.true) in
    omega (arith, key_below r.spelt a.w a.n a.t.now (r.number a.key) (l.lo + (l.hi - l.lo) / 2) (omega arith) c.requires.2 (omega (arith, c.read.ensures, b)))

pub loop-hi-preserved : goal.loop-hi-preserved
loop-hi-preserved g c =
    let a = c.args in
    let l = c.loop-hi in
    let r = g.K.RowKey in
    let b = ltb-false (r.number c.read.result) (r.number a.key) (rw c.is_below.ensures at c.if-is_below.false) in
    omega (arith, key_from r.spelt a.w a.n a.t.now (r.number a.key) (l.lo + (l.hi - l.lo) / 2) (omega arith) (omega (arith, c.read.ensures, b)))
