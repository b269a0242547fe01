use native.Mathlib.Omega.{arith}
use Rattle.counter_merge.specs.MergeLaws.{last-front, last-back, none-front, lower-front}
use Rattle.counter_merge.specs.Passes.{front_last}
use mathlib.Core.Path.{◌≡◌}
use mathlib.Core.Bool.{false}
use Rattle.counter_merge.proofs.merge_one.Goals as goal
use Rattle.counter_merge.proofs.merge_one.Goals.{else-i-gt0-via-then-i-gt0+else-t-from, else-i-gt0-via-else-i-gt0}

pub returns-then-t-from : goal.returns-then-t-from
returns-then-t-from c =
    last-front c.args.i c.args.left c.args.at c.args.t.now c.requires.0 (omega arith) (omega arith) _ c.copy_row.ensures

pub returns : goal.returns
returns c =
    let a = c.args in
    let b : front_last a.i a.left a.at a.t.now ≡ false = elim c.else-i-gt0.branch [ else-i-gt0-via-then-i-gt0+else-t-from w ↦ lower-front a.i a.left a.at a.t.now c.requires.0 w.if-t-from.false | else-i-gt0-via-else-i-gt0 w ↦ none-front a.i a.left a.at a.t.now c.requires.0 (omega arith) ] in
    last-back a.i a.left a.at a.t.now c.requires.0 b _ c.copy_row-2.ensures
