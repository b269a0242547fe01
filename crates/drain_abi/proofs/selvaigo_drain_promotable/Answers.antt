-- `drain_abi::selvaigo_drain_promotable` meets its contract: the call under it, over words. Assumes nothing.
use borrow.Author.Rules.{rules}
use Rattle.word_calls.specs.NurserySaid.{drain_said}
use Rattle.std.specs.Prelude.{refl}
use Rattle.word_calls.proofs.NurserySaidLaws.{drained-said}
use Rattle.word_calls.proofs.ReturnedLaws.{drained-returned}
use Rattle.drain_abi.proofs.selvaigo_drain_promotable.Goals as goal

pub returns : goal.returns
unfolding drain_said
returns c =
    let w = c.args.nursery.now in
    drained-said (rw c.nursery_of-r.ensures at c.drain_promotable-drained.ensures) (drained-returned w (search rules) refl c.drain_promotable-drained.result c.put_drained.ensures)
