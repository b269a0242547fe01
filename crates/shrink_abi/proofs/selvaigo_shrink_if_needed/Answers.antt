-- `shrink_abi::selvaigo_shrink_if_needed` meets its contract: the call under it, over words. Assumes nothing.
use borrow.Author.Rules.{rules}
use Rattle.word_calls.proofs.CountersSaidLaws.{shrink-said}
use Rattle.word_calls.proofs.ReturnedLaws.{shrunk-returned}
use Rattle.shrink_abi.proofs.selvaigo_shrink_if_needed.Goals as goal

pub returns : goal.returns
returns c =
    let a = c.args in
    shrink-said a.state.now c.counters_of.ensures a.counts.now a.bytes_saved c.shrink_if_needed-decided.ensures
    (shrunk-returned a.state.now (search rules) c.counters_of.ensures c.shrink_if_needed-decided.result c.put_shrunk.ensures)
