-- `entries_abi::selvaigo_get_idx_held` meets its contract: the call under it where a state is held, over words. Assumes nothing.
use Rattle.word_calls.specs.NurserySaid.{idx_said}
use Rattle.std.specs.Prelude.{Ok}
use Rattle.word_calls.proofs.NurserySaidLaws.{found-said}
use Rattle.word_calls.proofs.ReturnedLaws.{found-returned}
use Rattle.entries_abi.proofs.selvaigo_get_idx_held.Goals as goal

pub get_idx_held-entry-requires : goal.get_idx_held-entry-requires
get_idx_held-entry-requires c = rw c.nursery_of.ensures c.requires

pub returns : goal.returns
unfolding idx_said
returns c = found-said (rw c.nursery_of.ensures at c.get_idx_held-entry.ensures) (found-returned (Ok c.get_idx_held-entry.result) c.put_found.ensures)
