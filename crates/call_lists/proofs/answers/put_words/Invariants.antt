-- `call_lists::answers::put_words`. The invariant: the words that are left, put behind those so far, give the answer.
-- Assumes nothing.
use Rattle.std.proofs.Common.{◌≡◌, Some, length, drop}
use Rattle.call_lists.specs.Answers.{up_to, with_words}
use Rattle.call_lists.proofs.answers.put_words.Given as goal

abbrev pub invariant-loop-w : goal.invariant-loop-w
invariant-loop-w l =
    (length l.out ≡ length l.initial.out) × (with_words (drop l.w-index l.words) (up_to (Some l.to) l.out) ≡ with_words l.words (up_to (Some l.at) l.initial.out))
