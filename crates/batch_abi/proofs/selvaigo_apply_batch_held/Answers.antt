-- `batch_abi::selvaigo_apply_batch_held` meets its contract: the call under it where a state is held, over words. Assumes nothing.
use borrow.Author.Rules.{rules}
use Rattle.word_calls.proofs.CountersSaidLaws.{batch-said}
use Rattle.word_calls.proofs.ReturnedLaws.{batch-returned}
use Rattle.batch_abi.proofs.selvaigo_apply_batch_held.Goals as goal

pub apply_batch_held-after-requires : goal.apply_batch_held-after-requires
apply_batch_held-after-requires c = rw c.counters_of.ensures c.requires

pub returns : goal.returns
returns c =
    let a = c.args in
    batch-said a.state.now c.counters_of.ensures a.counts.now a.batch.now c.apply_batch_held-after.ensures
    (batch-returned a.state.now (search rules) c.counters_of.ensures c.apply_batch_held-after.result c.put_counters.ensures)
