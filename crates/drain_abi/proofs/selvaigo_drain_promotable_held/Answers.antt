-- `drain_abi::selvaigo_drain_promotable_held` meets its contract: the call under it where a state is held, over words. Assumes nothing.
use borrow.Author.Rules.{rules}
use Rattle.word_calls.specs.NurserySaid.{drain_said}
use Rattle.std.specs.Prelude.{refl}
use Rattle.word_calls.proofs.NurserySaidLaws.{drained-said}
use Rattle.word_calls.proofs.ReturnedLaws.{drained-returned}
use Rattle.drain_abi.proofs.selvaigo_drain_promotable_held.Goals as goal

pub drain_promotable_held-drained-requires : goal.drain_promotable_held-drained-requires
drain_promotable_held-drained-requires c = rw c.nursery_of-r.ensures c.requires

pub returns : goal.returns
unfolding drain_said
returns c =
    let w = c.args.nursery.now in
    drained-said (rw c.nursery_of-r.ensures at c.drain_promotable_held-drained.ensures) (drained-returned w (search rules) refl c.drain_promotable_held-drained.result c.put_drained.ensures)
