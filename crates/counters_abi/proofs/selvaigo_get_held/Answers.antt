-- `counters_abi::selvaigo_get_held` meets its contract: the call under it where a state is held, over words. Assumes nothing.
use Rattle.word_calls.proofs.CountersSaidLaws.{get-said}
use Rattle.word_calls.proofs.ReturnedLaws.{got-returned}
use Rattle.counters_abi.proofs.selvaigo_get_held.Goals as goal

pub get_held-got-requires : goal.get_held-got-requires
get_held-got-requires c = rw c.counters_of.ensures c.requires

pub returns : goal.returns
returns c =
    let a = c.args in
    get-said a.state.now c.counters_of.ensures a.counts.now a.idx c.get_held-got.ensures (got-returned c.get_held-got.result c.put_got.ensures)
