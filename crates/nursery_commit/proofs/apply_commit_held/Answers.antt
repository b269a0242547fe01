use mathlib.Core.Path.{◌≡◌, sym, ap, ◌∙◌}
use mathlib.Core.Bool.{◌||◌, true, false}
use Prim.Native.Nat.{ℕ, ◌+◌, ◌/◌, min}
use native.Mathlib.Omega.{arith}
use lib.Dec.{ltb}
use lib.ListN.{length}
use borrow.Author.Rules.{rules}
use Rattle.std.specs.Prelude.{Some, None, Err}
use Rattle.std.proofs.lemmas.Result.{err_from_is_err_and}
use Rattle.base.specs.declared.Refusal.TheVariants.{Broken}
use Rattle.cell_nursery.specs.Delta.{present, full}
use Rattle.cell_nursery.specs.Layout.{room_of, state_of}
use Rattle.cell_nursery.specs.Calls.{length_width}
use Rattle.cell_nursery.specs.Held.{Held}
use Rattle.cell_nursery.proofs.LayoutLaws.{held}
use Rattle.delta_items.specs.Walk.{inserts_len, items_fit, delta_in}
use Rattle.delta_items.specs.WalkLaws.{removes-at, removes-past, fit-inserts}
use Rattle.nursery_run.specs.BoundLaws.{inserts-fit}
use Rattle.nursery_commit.specs.CommitLaws.{commit-past, commit-long, commit-present, commit-full, commit-taken, present-same, full-same, short-cells, heads-fit}
use Rattle.nursery_commit.proofs.apply_commit_held.Goals as goal
use Rattle.nursery_commit.proofs.apply_commit_held.Goals.{In_ok-at, Else-any_present, After-is_full}

-- the tables hold a state
holding : (c : In_ok-at) → let a = c.args in Held a.r a.es.now a.ws.now a.cs.now
holding c = let a = c.args in held a.r a.es.now a.ws.now a.cs.now (λ i. search rules) (λ i. search rules) c.requires

-- the items stand there whole, and the removes begin where the inserts end
fit : (c : In_ok-at) → let a = c.args in (items_fit (length_width a.wide) a.inserts a.removes a.items.now ≡ true) × (c.in_ok-at.at ≡ inserts_len (length_width a.wide) a.inserts a.items.now)
fit c =
    let a = c.args in
    let begin : c.removes_at.result ≡ Some c.in_ok-at.at = grind arith in
    removes-at (length_width a.wide) a.inserts a.removes a.items.now c.in_ok-at.at (sym c.removes_at.ensures ∙ begin)

-- its hashes are new
fresh : (c : Else-any_present) → let a = c.args in present (state_of a.r a.es.now a.ws.now a.cs.now) (delta_in (length_width a.wide) a.inserts a.removes a.items.now) ≡ false
fresh c =
    let a = c.args in
    let x = held a.r a.es.now a.ws.now a.cs.now (λ i. search rules) (λ i. search rules) c.requires in
    sym (present-same a.r a.es.now a.ws.now a.cs.now x (length_width a.wide) a.inserts a.removes a.items.now) ∙ sym c.any_present.ensures ∙ c.if-any_present.false

pub returns-in_err-at : goal.returns-in_err-at
returns-in_err-at c =
    let a = c.args in
    let past : c.removes_at.result ≡ None = grind arith in
    let p = err_from_is_err_and c.from_residual.result c.from_residual.ensures.1 in
    let q : c.from_residual.result ≡ Err Broken = grind (arith, p) in
    rw q
    (commit-past a.r a.es.now a.ws.now a.cs.now a.wide a.inserts a.removes a.items.now c.requires
    (removes-past (length_width a.wide) a.inserts a.removes a.items.now (sym c.removes_at.ensures ∙ past)))

pub any_too_long-requires : goal.any_too_long-requires
any_too_long-requires c = (fit (goal.at.any_too_long-requires c).In_ok-at).0

pub returns-then-any_too_long : goal.returns-then-any_too_long
returns-then-any_too_long c =
    let a = c.args in
    commit-long a.r a.es.now a.ws.now a.cs.now a.wide a.inserts a.removes a.items.now c.requires
    (fit (goal.at.returns-then-any_too_long c).In_ok-at).0 (sym c.any_too_long.ensures ∙ c.if-any_too_long.true)

pub any_present-requires : goal.any_present-requires
any_present-requires c =
    let o = (goal.at.any_present-requires c).In_ok-at in
    let a = c.args in
    record { entries_held = (holding o).entries; value = fit-inserts (length_width a.wide) a.inserts a.removes a.items.now (fit o).0 }

pub returns-then-any_present : goal.returns-then-any_present
returns-then-any_present c =
    let o = (goal.at.returns-then-any_present c).In_ok-at in
    let a = c.args in
    commit-present a.r a.es.now a.ws.now a.cs.now a.wide a.inserts a.removes a.items.now c.requires (fit o).0 (sym c.any_too_long.ensures ∙ c.if-any_too_long.false)
    (sym (present-same a.r a.es.now a.ws.now a.cs.now (holding o) (length_width a.wide) a.inserts a.removes a.items.now) ∙ sym c.any_present.ensures ∙ c.if-any_present.true)

pub cell_bytes-bytes-requires : goal.cell_bytes-bytes-requires
cell_bytes-bytes-requires c =
    let o = (goal.at.cell_bytes-bytes-requires c).In_ok-at in
    let a = c.args in
    heads-fit a.r a.es.now a.ws.now a.cs.now (holding o) (length_width a.wide) a.inserts a.removes a.items.now (fit o).0 c.in_ok-at.at (fit o).1

pub is_full-requires : goal.is_full-requires
is_full-requires c = let h = holding (goal.at.is_full-requires c).In_ok-at in (h.room, h.cells.fits)

-- what the room decides
fills : (c : After-is_full) → let a = c.args in c.is_full.result ≡ full (room_of a.es.now a.ws.now a.cs.now) (state_of a.r a.es.now a.ws.now a.cs.now) (delta_in (length_width a.wide) a.inserts a.removes a.items.now)
fills c =
    let a = c.args in
    let x = held a.r a.es.now a.ws.now a.cs.now (λ i. search rules) (λ i. search rules) c.requires in
    let begin : c.removes_at.result ≡ Some c.in_ok-at.at = grind arith in
    let fit = removes-at (length_width a.wide) a.inserts a.removes a.items.now c.in_ok-at.at (sym c.removes_at.ensures ∙ begin) in
    c.is_full.ensures
    ∙ ap (λ (b : ℕ). ltb (min (length a.es.now / 8) (length a.ws.now / 5)) (a.r.entries + a.inserts) || ltb (length a.cs.now) (a.r.cell_bytes + b)) c.cell_bytes-bytes.ensures
    ∙ full-same a.r a.es.now a.ws.now a.cs.now x (length_width a.wide) a.inserts a.removes a.items.now fit.0 c.in_ok-at.at fit.1

pub returns-then-is_full : goal.returns-then-is_full
returns-then-is_full c =
    let o = goal.at.returns-then-is_full c in
    let a = c.args in
    commit-full a.r a.es.now a.ws.now a.cs.now a.wide a.inserts a.removes a.items.now c.requires (fit o.In_ok-at).0
    (sym c.any_too_long.ensures ∙ c.if-any_too_long.false) (fresh o.Else-any_present) (sym (fills o.After-is_full) ∙ c.if-is_full.true)

pub apply_items-requires : goal.apply_items-requires
unfolding delta_in
apply_items-requires c =
    let o = goal.at.apply_items-requires c in
    let a = c.args in
    let w = length_width a.wide in
    let whole = fit-inserts w a.inserts a.removes a.items.now (fit o.In_ok-at).0 in
    let short = short-cells a.r a.es.now a.ws.now a.cs.now (holding o.In_ok-at) w a.inserts a.removes a.items.now (sym c.any_too_long.ensures ∙ c.if-any_too_long.false) in
    record {
      value = ((fit o.In_ok-at).0, (fit o.In_ok-at).1);
      applicable =
          record {
            held = c.requires;
            fits = inserts-fit w a.inserts a.items.now (λ i. search rules) whole short;
            fresh = fresh o.Else-any_present;
            room = sym (fills o.After-is_full) ∙ c.if-is_full.false;
          };
    }

pub returns : goal.returns
returns c =
    let o = goal.at.returns c in
    let a = c.args in
    commit-taken a.r a.es.now a.ws.now a.cs.now a.wide a.inserts a.removes a.items.now c.requires (fit o.In_ok-at).0
    (sym c.any_too_long.ensures ∙ c.if-any_too_long.false) (fresh o.Else-any_present) (sym (fills o.After-is_full) ∙ c.if-is_full.false) _ _ _ _ c.apply_items.ensures
