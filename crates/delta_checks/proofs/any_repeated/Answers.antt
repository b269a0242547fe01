use mathlib.Core.Path.{◌≡◌, sym, ap, ◌∙◌}
use mathlib.Core.List.{map}
use Prim.Native.Nat.{ℕ, ◌+◌, ◌-◌}
use native.Mathlib.Omega.{arith}
use borrow.Author.Rules.{rules}
use lib.Dec.{eqb}
use lib.ListN.{drop}
use Rattle.base.specs.Logic.{elem, repeated}
use Rattle.rows.specs.contracts.WidePartialEq.TheImpl as equality
use Rattle.rows.specs.Wide.{key_of}
use Rattle.rows.proofs.WideLaws.{Words, alike}
use Rattle.cell_nursery.specs.Calls.{length_width}
use Rattle.delta_items.specs.Walk.{hash_in, insert_len, inserts_in, inserts_len, inserts_from}
use Rattle.delta_items.specs.WalkLaws.{left-start, left-inside, left-next}
use Rattle.delta_checks.specs.ChecksLaws.{repeated-turn, repeated-done, named-any}
use Rattle.delta_checks.proofs.any_repeated.Goals as goal
use Rattle.delta_checks.proofs.any_repeated.Goals.{After-any_from}

-- whether the hash of the insert at hand comes again
again : (c : After-any_from) → let a = c.args in let l = c.loop-i in let w = length_width a.wide in
    c.any_from.result ≡ elem (hash_in (drop l.at a.items.now)) (map (λ x. x.hash) (inserts_from w a.inserts (l.i + 1) (l.at + insert_len w (drop l.at a.items.now)) a.items.now))
again c =
    let hash = c.wide_of-hash.result in
    let words : Words hash = record { first = omega arith; second = omega arith; third = omega arith; fourth = omega arith } in
    let told = c.any_from.ensures (eqb (key_of hash)) (λ k w b p. let e : b ≡ equality.eq-value.it hash k = search rules in e ∙ alike hash k words w) in
    told ∙ named-any _ _ ∙ rw (c.wide_of-hash.ensures, c.insert_end-next.ensures)

pub loop-i-init : goal.loop-i-init
loop-i-init c =
    let a = c.args in
    let w = length_width a.wide in
    let z : a.inserts - 0 ≡ a.inserts = omega arith in
    (left-start w a.inserts a.items.now c.requires, ap (λ (k : ℕ). repeated (map (λ e. e.hash) (inserts_in w k a.items.now))) z)

pub insert_end-next-requires : goal.insert_end-next-requires
insert_end-next-requires c = omega (arith, left-inside c.loop-i.invariant.0 (omega arith))

pub wide_of-hash-requires : goal.wide_of-hash-requires
wide_of-hash-requires c = omega (arith, left-inside c.loop-i.invariant.0 (omega arith))

pub any_from-requires : goal.any_from-requires
any_from-requires c =
    let a = c.args in
    let l = c.loop-i in
    let w = length_width a.wide in
    record {
      left = rw c.insert_end-next.ensures (left-next w a.inserts l.i l.at (inserts_len w a.inserts a.items.now) a.items.now (omega arith) l.invariant.0);
      is_always_callable = search rules;
    }

pub returns-then-any_from : goal.returns-then-any_from
returns-then-any_from c =
    let a = c.args in
    let l = c.loop-i in
    let t = repeated-turn (length_width a.wide) a.inserts l.i l.at a.items.now (omega arith) in
    let e = sym (again (goal.at.returns-then-any_from c).After-any_from) ∙ c.if-any_from.true in
    sym (rw e at t) ∙ l.invariant.1

pub loop-i-preserved : goal.loop-i-preserved
loop-i-preserved c =
    let a = c.args in
    let l = c.loop-i in
    let w = length_width a.wide in
    let t = repeated-turn w a.inserts l.i l.at a.items.now (omega arith) in
    let e = sym (again (goal.at.loop-i-preserved c).After-any_from) ∙ c.if-any_from.false in
    rw c.insert_end-next.ensures (left-next w a.inserts l.i l.at (inserts_len w a.inserts a.items.now) a.items.now (omega arith) l.invariant.0, sym (rw e at t) ∙ l.invariant.1)

pub returns : goal.returns
returns c =
    let a = c.args in
    let l = c.loop-i in
    sym (repeated-done (length_width a.wide) a.inserts l.i l.at a.items.now (omega arith)) ∙ l.invariant.1
