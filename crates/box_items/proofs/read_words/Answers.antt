-- `box_items::read_words`. The invariant: as many words as were read stand where a paste of as many puts them.
use borrow.Author.Rules.{rules}
use mathlib.Core.Path.{◌≡◌, refl, sym, ◌∙◌}
use Prim.Native.Nat.{◌+◌}
use native.Mathlib.Omega.{arith}
use lib.Seq.{paste-zero}
use Rattle.slices.specs.Turns.{copy-turn}
use Rattle.box_items.specs.Items.{words_in}
use Rattle.box_items.specs.ItemLaws.{length-words, words-at}
use Rattle.box_items.proofs.read_words.Goals as goal

pub loop-i-init : goal.loop-i-init
loop-i-init c = (paste-zero _ 0 (words_in c.args.n c.args.body.now), refl)

pub loop-i-preserved : goal.loop-i-preserved
loop-i-preserved c =
    let a = c.args in
    let i = c.loop-i.i in
    let l = length-words a.n a.body.now in
    let z : 0 + i ≡ i = omega arith in
    let turn = copy-turn a.words.now c.loop-i.words 0 (words_in a.n a.body.now) i c.read_le64.result 0 c.loop-i.invariant.0 (c.read_le64.ensures ∙ sym (words-at a.n i a.body.now (omega arith))) (omega arith) (omega arith) in
    (rw z at turn, search rules)

pub returns : goal.returns
returns c =
    let e : c.loop-i.i ≡ c.args.n = omega arith in
    rw e at c.loop-i.invariant.0
