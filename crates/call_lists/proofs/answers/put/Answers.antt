-- `call_lists::answers::put`: the words behind the number.
-- Assumes nothing.
use Rattle.std.proofs.Common.{ap, ◌∙◌}
use Rattle.call_lists.specs.Answers.{Answer, with_words, answer_of}
use Rattle.call_lists.specs.Laws.{words-none}
use Rattle.call_lists.proofs.answers.put.Goals as goal

pub returns-in_err-at : goal.returns-in_err-at
unfolding answer_of
returns-in_err-at c =
    let a = c.args in
    rw c.from_residual.ensures (words-none a.words.now _ ∙ ap (λ (x : Answer). with_words a.words.now x) c.in_err-at.ensures)

pub returns : goal.returns
unfolding answer_of
returns c =
    let a = c.args in
    c.put_words.ensures ∙ ap (λ (x : Answer). with_words a.words.now x) c.in_ok-at.ensures
