-- `box_items::run_batch`: the words that were read are the lent batch.
-- Assumes nothing.
use native.Mathlib.Omega.{arith}
use Rattle.std.specs.Prelude.{refl}
use mathlib.Core.Path.{◌≡◌, ap, ◌∙◌}
use mathlib.Core.List.{List}
use Prim.Native.Nat.{ℕ, ◌/◌, ◌-◌}
use lib.ListN.{length, take, drop}
use Rattle.counters.specs.Calls.{batch_call}
use Rattle.box_items.specs.Items.{bad_item, words_in, batch_item}
use Rattle.box_items.specs.ItemLaws.{words-lent, batch-bad, bad-ran, batch-ran}
use Rattle.box_items.proofs.run_batch.Goals as goal
use Rattle.box_items.proofs.run_batch.Goals.{After-read_words}

pub returns-then-body-ne0 : goal.returns-then-body-ne0
returns-then-body-ne0 c = λ es ws cs.
    let a = c.args in
    bad-ran a.counters a.nursery a.t.now es ws cs (bad_item a.counters a.nursery) (batch_item a.body.now) refl (batch-bad a.body.now (λ e. omega arith))

words-read : (c : After-read_words) → let n = length c.args.body.now / 8 in take (n - 0) (drop 0 c.read_words.new.words) ≡ words_in n c.args.body.now
words-read c =
    let n = length c.args.body.now / 8 in
    ap (λ (l : List ℕ). take (n - 0) (drop 0 l)) c.read_words.ensures ∙ words-lent _ c.args.body.now n

pub returns-in-Ok : goal.returns-in-Ok
returns-in-Ok c = λ es ws cs.
    let a = c.args in
    batch-ran a.counters a.nursery a.t.now es ws cs a.body.now _ _ (c.in-Ok.ensures ∙ ap (λ (l : List ℕ). batch_call a.counters a.t.now l) (words-read (goal.at.returns-in-Ok c).After-read_words)) (omega arith)

pub returns-in-Err : goal.returns-in-Err
returns-in-Err c = λ es ws cs.
    let a = c.args in
    batch-ran a.counters a.nursery a.t.now es ws cs a.body.now _ _ (c.in-Err.ensures ∙ ap (λ (l : List ℕ). batch_call a.counters a.t.now l) (words-read (goal.at.returns-in-Err c).After-read_words)) (omega arith)
