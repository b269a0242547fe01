-- `waiting_checks::names`. The entry at the hash's place has that hash or another, and if it has, the rounds decide.
use Rattle.std.proofs.Common.{◌∙◌, arith}
use Rattle.rows.proofs.WideLaws.{when-same, when-other}
use Rattle.cell_nursery.specs.Rows.{waiter_at_row}
use Rattle.cell_nursery.proofs.PrefixLaws.{waiter-key}
use Rattle.waiting_checks.specs.RowLaws.{names-past, names-other, names-round}
use Rattle.waiting_checks.proofs.names.Goals as goal

pub returns-then-r-k : goal.returns-then-r-k
returns-then-r-k c =
    names-past c.args.r c.args.es.now (waiter_at_row c.args.ws.now c.args.j) c.args.k c.requires.2 c.if-r-k.true

pub returns-then-eq : goal.returns-then-eq
returns-then-eq c =
    let a = c.args in
    let e = when-same c.wide_at.result c.wide_at-2.result
    (record { first = omega arith; second = omega arith; third = omega arith; fourth = omega arith })
    (record { first = omega arith; second = omega arith; third = omega arith; fourth = omega arith })
    c.eq.ensures c.if-eq.true in
    names-round a.r a.es.now (waiter_at_row a.ws.now a.j) a.k c.requires.2 c.if-r-k.false
    (omega (arith, e, c.wide_at.ensures, c.wide_at-2.ensures, waiter-key a.ws.now a.j))

pub returns-else-eq : goal.returns-else-eq
returns-else-eq c =
    let a = c.args in
    let ne = when-other c.wide_at.result c.wide_at-2.result
    (record { first = omega arith; second = omega arith; third = omega arith; fourth = omega arith })
    (record { first = omega arith; second = omega arith; third = omega arith; fourth = omega arith })
    c.eq.ensures c.if-eq.false in
    c.if-eq.false
    ∙ names-other a.r a.es.now (waiter_at_row a.ws.now a.j) a.k c.requires.2 c.if-r-k.false
    (λ q. ne (omega (arith, q, c.wide_at.ensures, c.wide_at-2.ensures, waiter-key a.ws.now a.j)))
