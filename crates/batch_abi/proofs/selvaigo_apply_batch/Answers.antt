-- `batch_abi::selvaigo_apply_batch` meets its contract: the call under it, over words. Assumes nothing.
use borrow.Author.Rules.{rules}
use Rattle.word_calls.proofs.CountersSaidLaws.{batch-said}
use Rattle.word_calls.proofs.ReturnedLaws.{batch-returned}
use Rattle.batch_abi.proofs.selvaigo_apply_batch.Goals as goal

pub returns : goal.returns
returns c =
    let a = c.args in
    batch-said a.state.now c.counters_of.ensures a.counts.now a.batch.now c.apply_batch-after.ensures
    (batch-returned a.state.now (search rules) c.counters_of.ensures c.apply_batch-after.result c.put_counters.ensures)
