-- `counters_abi::selvaigo_alloc_idx` meets its contract: the call under it, over words. Assumes nothing.
use borrow.Author.Rules.{rules}
use Rattle.word_calls.proofs.CountersSaidLaws.{alloc-said}
use Rattle.word_calls.proofs.ReturnedLaws.{allocated-returned}
use Rattle.counters_abi.proofs.selvaigo_alloc_idx.Goals as goal

pub returns : goal.returns
returns c =
    let w = c.args.state.now in
    let k = c.counters_of in
    let p = allocated-returned w (search rules) k.ensures c.alloc_idx-handed.result c.put_allocated.ensures in
    rw p.1 (alloc-said w k.ensures c.alloc_idx-handed.ensures p.0 p.2)
