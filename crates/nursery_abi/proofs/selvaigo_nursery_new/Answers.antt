-- `nursery_abi::selvaigo_nursery_new` meets its contract: the call under it, over words. Assumes nothing.
use Rattle.word_calls.specs.NurserySaid.{empty_said}
use Rattle.cell_nursery.specs.Entries.{empty}
use Rattle.cell_nursery.specs.Layout.{record_of}
use Rattle.word_calls.proofs.NurserySaidLaws.{made-said}
use Rattle.word_calls.proofs.ReturnedLaws.{empty-returned}
use Rattle.nursery_abi.proofs.selvaigo_nursery_new.Goals as goal

pub returns : goal.returns
unfolding empty_said
returns c =
    made-said c.args.nursery.now c.new-made.ensures (empty-returned c.args.nursery.now (record_of 0 empty) c.new-made.result c.put_nursery.ensures)
