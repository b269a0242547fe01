-- `snapshot_abi::selvaigo_serialized_len_held` meets its contract: the call under it where a state is held, over words. Assumes nothing.
use Rattle.std.specs.Prelude.{Ok}
use mathlib.Core.Path.{◌≡◌}
use mathlib.Core.Bool.{true}
use Rattle.counters.specs.Layout.{holds}
use Rattle.snapshot_write.specs.CallLaws.{length_taken}
use Rattle.word_calls.proofs.CountersSaidLaws.{length-said}
use Rattle.word_calls.proofs.ReturnedLaws.{wrote-returned}
use Rattle.snapshot_abi.proofs.selvaigo_serialized_len_held.Goals as goal

pub serialized_len_held-found-requires : goal.serialized_len_held-found-requires
serialized_len_held-found-requires c = rw c.counters_of.ensures c.requires

pub returns : goal.returns
returns c =
    let a = c.args in
    let k = c.counters_of in
    let h : holds k.result a.counts.now ≡ true = rw k.ensures c.requires in
    length-said a.state.now k.ensures a.counts.now (length_taken k.result a.counts.now h c.serialized_len_held-found.result c.serialized_len_held-found.ensures) (wrote-returned (Ok c.serialized_len_held-found.result) c.put_wrote.ensures)
