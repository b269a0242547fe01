-- `listing_abi::selvaigo_snapshot_entries_held` meets its contract: the call under it where a state is held, over words. Assumes nothing.
use Rattle.word_calls.specs.NurserySaid.{listing_said}
use Rattle.word_calls.proofs.NurserySaidLaws.{written-said}
use Rattle.word_calls.proofs.ReturnedLaws.{wrote-returned}
use Rattle.listing_abi.proofs.selvaigo_snapshot_entries_held.Goals as goal

pub snapshot_entries_held-wrote-requires : goal.snapshot_entries_held-wrote-requires
snapshot_entries_held-wrote-requires c = rw c.nursery_of.ensures c.requires

pub returns : goal.returns
unfolding listing_said
returns c = written-said (rw c.nursery_of.ensures at c.snapshot_entries_held-wrote.ensures) (wrote-returned c.snapshot_entries_held-wrote.result c.put_wrote.ensures)
