-- `entries_abi::selvaigo_get_idx` meets its contract: the call under it, over words. Assumes nothing.
use Rattle.word_calls.specs.NurserySaid.{idx_said}
use Rattle.word_calls.proofs.NurserySaidLaws.{found-said}
use Rattle.word_calls.proofs.ReturnedLaws.{found-returned}
use Rattle.entries_abi.proofs.selvaigo_get_idx.Goals as goal

pub returns : goal.returns
unfolding idx_said
returns c = found-said (rw c.nursery_of.ensures at c.get_idx-entry.ensures) (found-returned c.get_idx-entry.result c.put_found.ensures)
