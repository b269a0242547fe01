-- `counters_abi::selvaigo_new` meets its contract: the call under it, over words. Assumes nothing.
use Rattle.word_calls.specs.CountersSaid.{new_said}
use Rattle.counters.specs.Calls.{no_counters}
use Rattle.word_calls.proofs.CountersSaidLaws.{read-said}
use Rattle.word_calls.proofs.ReturnedLaws.{made-returned}
use Rattle.counters_abi.proofs.selvaigo_new.Goals as goal

pub returns : goal.returns
unfolding new_said
returns c = read-said _ c.new-made.ensures (made-returned c.args.state.now no_counters c.new-made.result c.put_counters.ensures)
