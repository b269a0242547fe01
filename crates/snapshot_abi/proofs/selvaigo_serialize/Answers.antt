-- `snapshot_abi::selvaigo_serialize` meets its contract: the call under it, over words. Assumes nothing.
use Rattle.word_calls.proofs.CountersSaidLaws.{serialize-said}
use Rattle.word_calls.proofs.ReturnedLaws.{wrote-returned}
use Rattle.snapshot_abi.proofs.selvaigo_serialize.Goals as goal

pub returns : goal.returns
returns c =
    let a = c.args in
    serialize-said a.state.now c.counters_of.ensures a.counts.now a.out.now c.serialize-wrote.ensures
    (wrote-returned c.serialize-wrote.result c.put_wrote.ensures)
