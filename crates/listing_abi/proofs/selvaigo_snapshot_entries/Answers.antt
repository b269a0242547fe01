-- `listing_abi::selvaigo_snapshot_entries` meets its contract: the call under it, over words. Assumes nothing.
use Rattle.word_calls.specs.NurserySaid.{listing_said}
use Rattle.word_calls.proofs.NurserySaidLaws.{written-said}
use Rattle.word_calls.proofs.ReturnedLaws.{wrote-returned}
use Rattle.listing_abi.proofs.selvaigo_snapshot_entries.Goals as goal

pub returns : goal.returns
unfolding listing_said
returns c = written-said (rw c.nursery_of.ensures at c.snapshot_entries-wrote.ensures) (wrote-returned c.snapshot_entries-wrote.result c.put_wrote.ensures)
