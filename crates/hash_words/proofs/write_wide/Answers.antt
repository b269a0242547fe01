-- `hash_words::write_wide` meets its contract: four pastes side by side.
-- Assumes nothing.
use mathlib.Core.Path.{◌∙◌}
use native.Mathlib.Omega.{arith}
use Rattle.rows.proofs.WideLaws.{Words}
use Rattle.hash_words.specs.WideLaws.{key-written}
use Rattle.hash_words.proofs.write_wide.Goals as goal

-- the words of the key are u64
words : (c : goal.After-slice_known-5-1) → Words c.args.w
words c = record { first = omega arith; second = omega arith; third = omega arith; fourth = omega arith }

pub returns : goal.returns
returns c =
    c.write_be64-4.ensures
    ∙ key-written c.args.out.now c.write_be64.new.out c.write_be64-2.new.out c.write_be64-3.new.out c.args.at c.args.w (words c) c.requires c.write_be64.ensures c.write_be64-2.ensures c.write_be64-3.ensures
