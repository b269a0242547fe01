-- `shrink_abi::selvaigo_shrink_if_needed_held` meets its contract: the call under it where a state is held, over words. Assumes nothing.
use borrow.Author.Rules.{rules}
use Rattle.std.specs.Prelude.{Ok}
use Rattle.word_calls.proofs.CountersSaidLaws.{shrink-said}
use Rattle.word_calls.proofs.ReturnedLaws.{shrunk-returned}
use Rattle.shrink_abi.proofs.selvaigo_shrink_if_needed_held.Goals as goal

pub shrink_held-decided-requires : goal.shrink_held-decided-requires
shrink_held-decided-requires c = rw c.counters_of.ensures c.requires

pub returns : goal.returns
returns c =
    let a = c.args in
    shrink-said a.state.now c.counters_of.ensures a.counts.now a.bytes_saved c.shrink_held-decided.ensures
    (shrunk-returned a.state.now (search rules) c.counters_of.ensures (Ok c.shrink_held-decided.result) c.put_shrunk.ensures)
