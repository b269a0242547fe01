-- `box_items::read_words`. The invariant: as many words as were read stand where a paste of as many puts them.
-- Assumes nothing.
use mathlib.Core.Path.{◌≡◌}
use lib.ListN.{length}
use lib.Seq.{paste}
use Rattle.box_items.specs.Items.{words_in}
use Rattle.box_items.proofs.read_words.Given as goal

abbrev pub invariant-loop-i : goal.invariant-loop-i
invariant-loop-i l = (l.words ≡ paste l.initial.words 0 (words_in l.n l.body) l.i) × (length l.words ≡ length l.initial.words)
