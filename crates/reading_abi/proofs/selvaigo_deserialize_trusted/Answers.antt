-- `reading_abi::selvaigo_deserialize_trusted` meets its contract: the call under it, over words. Assumes nothing.
use Rattle.counters.specs.Calls.{no_counters}
use Rattle.word_calls.specs.CountersSaid.{deserialize_said}
use Rattle.word_calls.proofs.CountersSaidLaws.{read-said}
use Rattle.word_calls.proofs.ReturnedLaws.{made-returned}
use Rattle.reading_abi.proofs.selvaigo_deserialize_trusted.Goals as goal

pub returns : goal.returns
unfolding deserialize_said
returns c =
    let w = c.args.state.now in
    read-said w c.deserialize_trusted-read.ensures (made-returned w no_counters c.deserialize_trusted-read.result c.put_counters.ensures)
