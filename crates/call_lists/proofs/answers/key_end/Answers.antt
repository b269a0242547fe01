-- `call_lists::answers::key_end`. By the two tests.
-- Assumes nothing.
use Rattle.std.proofs.Common.{ℕ, ◌+◌, List, length, get_or, refl, arith, le-leb}
use borrow.Author.Tests.{lt-leb}
use Rattle.call_lists.specs.Answers.{key_end}
use Rattle.call_lists.proofs.answers.key_end.Goals as goal

pub returns-then-call-lt2 : goal.returns-then-call-lt2
unfolding key_end
returns-then-call-lt2 c =
    let s : List ℕ = c.args.call.now in
    (rw (lt-leb 2 (length s) (omega arith)) refl, tt)

pub returns-then-call-end : goal.returns-then-call-end
unfolding key_end
returns-then-call-end c =
    let s : List ℕ = c.args.call.now in
    (rw (le-leb 2 (length s) (omega arith), lt-leb (2 + get_or s 1 0) (length s) (omega arith)) refl, tt)

pub returns : goal.returns
unfolding key_end
returns c =
    let s : List ℕ = c.args.call.now in
    (rw (le-leb 2 (length s) (omega arith), le-leb (2 + get_or s 1 0) (length s) (omega arith)) refl, (omega arith, omega arith))
