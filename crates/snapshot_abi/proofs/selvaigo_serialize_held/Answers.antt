-- `snapshot_abi::selvaigo_serialize_held` meets its contract: the call under it where a state is held, over words. Assumes nothing.
use Rattle.word_calls.proofs.CountersSaidLaws.{serialize-said}
use Rattle.word_calls.proofs.ReturnedLaws.{wrote-returned}
use Rattle.snapshot_abi.proofs.selvaigo_serialize_held.Goals as goal

pub serialize_held-wrote-requires : goal.serialize_held-wrote-requires
serialize_held-wrote-requires c = rw c.counters_of.ensures c.requires

pub returns : goal.returns
returns c =
    let a = c.args in
    serialize-said a.state.now c.counters_of.ensures a.counts.now a.out.now c.serialize_held-wrote.ensures
    (wrote-returned c.serialize_held-wrote.result c.put_wrote.ensures)
