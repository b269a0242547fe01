-- `reading_abi::selvaigo_load_snapshot` meets its contract: the call under it, over words. Assumes nothing.
use Rattle.word_calls.specs.CountersSaid.{load_said}
use Rattle.word_calls.proofs.CountersSaidLaws.{loaded-said}
use Rattle.word_calls.proofs.ReturnedLaws.{loaded-returned}
use Rattle.reading_abi.proofs.selvaigo_load_snapshot.Goals as goal

pub returns : goal.returns
unfolding load_said
returns c =
    let w = c.args.state.now in
    let p = c.put_loaded.ensures in
    loaded-said w c.load_snapshot-loaded.ensures (loaded-returned w c.load_snapshot-loaded.result (p.0, p.2)) p.1
