-- `counters_abi::selvaigo_get` meets its contract: the call under it, over words. Assumes nothing.
use Rattle.word_calls.proofs.CountersSaidLaws.{get-said}
use Rattle.word_calls.proofs.ReturnedLaws.{got-returned}
use Rattle.counters_abi.proofs.selvaigo_get.Goals as goal

pub returns : goal.returns
returns c =
    let a = c.args in
    get-said a.state.now c.counters_of.ensures a.counts.now a.idx c.get-got.ensures (got-returned c.get-got.result c.put_got.ensures)
