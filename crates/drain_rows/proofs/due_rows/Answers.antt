-- `drain_rows::due_rows` meets its contract: the place of the first round that is not due.
-- Assumes nothing.
use Rattle.cell_nursery.proofs.PrefixLaws.{due-early, due-late}
use Rattle.rows.specs.Keys.{first_word, keys, place}
use native.Mathlib.Numerals.{add-one}
use mathlib.Core.Path.{ap, ◌∙◌}
use Prim.Native.Nat.{ℕ, ◌-◌}
use Rattle.drain_rows.proofs.due_rows.Goals as goal

pub returns-then-this_round-r : goal.returns-then-this_round-r
returns-then-this_round-r c = due-early c.args.r.delay c.args.round c.args.r c.args.ws.now c.requires c.if-this_round-r.true

pub returns : goal.returns
returns c =
    let a = c.args in
    due-late a.r.delay a.round a.r a.ws.now c.requires c.if-this_round-r.false c.find.result
    (c.find.ensures ∙ ap (λ (j : ℕ). place j (keys first_word 5 a.r.waiting a.ws.now)) (add-one (a.round - a.r.delay)))
