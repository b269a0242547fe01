-- `snapshot_abi::selvaigo_serialized_len` meets its contract: the call under it, over words. Assumes nothing.
use Rattle.word_calls.proofs.CountersSaidLaws.{length-said}
use Rattle.word_calls.proofs.ReturnedLaws.{wrote-returned}
use Rattle.snapshot_abi.proofs.selvaigo_serialized_len.Goals as goal

pub returns : goal.returns
returns c =
    let a = c.args in
    length-said a.state.now c.counters_of.ensures a.counts.now c.serialized_len-found.ensures
    (wrote-returned c.serialized_len-found.result c.put_wrote.ensures)
