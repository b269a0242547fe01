-- `nursery_abi::selvaigo_apply_commit_held` meets its contract: the call under it where a state is held, over words. Assumes nothing.
use borrow.Author.Rules.{rules}
use Rattle.word_calls.specs.NurserySaid.{commit_said}
use Rattle.std.specs.Prelude.{refl}
use Rattle.word_calls.proofs.NurserySaidLaws.{committed-said}
use Rattle.word_calls.proofs.ReturnedLaws.{committed-returned}
use Rattle.nursery_abi.proofs.selvaigo_apply_commit_held.Goals as goal

pub apply_commit_held-after-requires : goal.apply_commit_held-after-requires
apply_commit_held-after-requires c = rw c.nursery_of-r.ensures c.requires

pub returns : goal.returns
unfolding commit_said
returns c =
    let w = c.args.nursery.now in
    committed-said (rw c.nursery_of-r.ensures at c.apply_commit_held-after.ensures) (committed-returned w (search rules) refl c.apply_commit_held-after.result c.put_nursery.ensures)
