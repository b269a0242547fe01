-- `entries_abi::selvaigo_get_data_held` meets its contract: the call under it where a state is held, over words. Assumes nothing.
use Rattle.word_calls.specs.NurserySaid.{data_said}
use Rattle.std.specs.Prelude.{Ok}
use Rattle.word_calls.proofs.NurserySaidLaws.{placed-said}
use Rattle.word_calls.proofs.ReturnedLaws.{placed-returned}
use Rattle.entries_abi.proofs.selvaigo_get_data_held.Goals as goal

pub get_data_held-cell-requires : goal.get_data_held-cell-requires
get_data_held-cell-requires c = rw c.nursery_of.ensures c.requires

pub returns : goal.returns
unfolding data_said
returns c = placed-said (rw c.nursery_of.ensures at c.get_data_held-cell.ensures) (placed-returned (Ok c.get_data_held-cell.result) c.put_place.ensures)
