-- `box_items::items_fill`. The items end inside their bytes, so that where they end is a number that fits.
-- Assumes nothing.
use borrow.Author.Rules.{rules}
use mathlib.Core.Path.{◌≡◌, sym, ◌∙◌}
use Prim.Native.Nat.{◌+◌, ◌*◌, ◌≤◌}
use lib.ListN.{length}
use Rattle.delta_items.specs.Walk.{removes_at}
use Rattle.std.specs.Prelude.{Some}
use Rattle.box_items.specs.ItemLaws.{fill-past, fill-at, end-at}
use Rattle.box_items.proofs.items_fill.Goals as goal

-- where the removes begin
begin : (c : goal.In-Some) → let a = c.args in removes_at 2 a.inserts a.removes a.items.now ≡ Some c.in-Some.at
begin c = sym c.removes_at.ensures ∙ c.in-Some.is

inside : (c : goal.In-Some) → let a = c.args in c.in-Some.at + 32 * a.removes ≤ length a.items.now
inside c =
    let a = c.args in
    end-at a.inserts a.removes a.items.now c.in-Some.at (begin c)

pub returns-in_default : goal.returns-in_default
returns-in_default c =
    let a = c.args in
    sym (fill-past a.inserts a.removes a.items.now (sym c.removes_at.ensures ∙ c.in_default.is))

pub overflow_mul-result : goal.overflow_mul-result
overflow_mul-result c = let h = inside c in search rules

pub overflow_add-result : goal.overflow_add-result
overflow_add-result c = let h = inside c in search rules

pub returns : goal.returns
returns c =
    let a = c.args in
    sym (fill-at a.inserts a.removes a.items.now c.in-Some.at (begin c))
