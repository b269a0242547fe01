-- `drain_rows::promoted_row` meets its contract: the row of the hash, where the rounds agree.
-- Assumes nothing.
use Rattle.cell_nursery.proofs.PrefixLaws.{waiter-key, index-within, row-same-round, row-other-round, row-missing}
use Rattle.cell_nursery.specs.Rows.{index_of, promoted_row, waiter_at_row}
use Rattle.cell_nursery.specs.Layout.{hash_of}
use Rattle.nursery_lookup.specs.RowLaws.{row-here, row-past, hash-found, hash-absent}
use Rattle.rows.proofs.KeyLaws.{length-keys}
use Rattle.rows.specs.Keys.{first_four, keys}
use Rattle.rows.specs.Wide.{key_of}
use Rattle.std.proofs.Math.Decide.{ℕ_discrete}
use lib.ListN.{get_or}
use borrow.Author.Tests.{eq-eqb, ne_eqb}
use mathlib.Core.Path.{refl, ◌∙◌}
use Prim.Native.Nat.{ℕ, ◌+◌, ◌*◌}
use native.Mathlib.Omega.{arith}
use Rattle.drain_rows.proofs.promoted_row.Goals as goal

pub returns-in_err-k-clause-row : goal.returns-in_err-k-clause-row
returns-in_err-k-clause-row c =
    let a = c.args in
    let w = waiter_at_row a.ws.now a.i in
    let n = a.r.entries in
    let ks = keys first_four 8 n a.es.now in
    let h = hash_of w.hash in
    let past = hash-absent n (key_of c.wide_at.result) h ks (c.wide_at.ensures ∙ waiter-key a.ws.now a.i) c.in_err-k.ensures.row in
    rw c.from_residual.ensures (row-past n (promoted_row a.r a.es.now w) (omega (arith, row-missing a.r a.es.now w (index_of h ks) refl (omega (arith, index-within h ks, length-keys first_four 8 n a.es.now)))))

pub returns-clause-row : goal.returns-clause-row
returns-clause-row c =
    let a = c.args in
    let w = waiter_at_row a.ws.now a.i in
    let n = a.r.entries in
    let k = c.in_ok-k.k in
    let here = hash-found n (key_of c.wide_at.result) (hash_of w.hash) k (keys first_four 8 n a.es.now) (c.wide_at.ensures ∙ waiter-key a.ws.now a.i) c.in_ok-k.ensures.row in
    let born : ℕ = get_or a.es.now (k * 8 + 5) 0 in
    c.then_some.ensures ∙ elim (ℕ_discrete born w.born) [
      | yes e ↦ rw (eq-eqb born w.born e) (row-here n (promoted_row a.r a.es.now w) k (row-same-round a.r a.es.now w k here.1 e) here.0)
      | no e ↦ rw (ne_eqb born w.born e) (row-past n (promoted_row a.r a.es.now w) (omega (arith, row-other-round a.r a.es.now w k here.1 e)))
    ]
