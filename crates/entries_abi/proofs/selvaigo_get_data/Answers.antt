-- `entries_abi::selvaigo_get_data` meets its contract: the call under it, over words. Assumes nothing.
use Rattle.word_calls.specs.NurserySaid.{data_said}
use Rattle.word_calls.proofs.NurserySaidLaws.{placed-said}
use Rattle.word_calls.proofs.ReturnedLaws.{placed-returned}
use Rattle.entries_abi.proofs.selvaigo_get_data.Goals as goal

pub returns : goal.returns
unfolding data_said
returns c = placed-said (rw c.nursery_of.ensures at c.get_data-cell.ensures) (placed-returned c.get_data-cell.result c.put_place.ensures)
