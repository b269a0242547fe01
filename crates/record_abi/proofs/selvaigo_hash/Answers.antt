-- `record_abi::selvaigo_hash` meets its contract: the call under it. Assumes nothing.
use Rattle.record_abi.proofs.selvaigo_hash.Goals as goal

pub returns : goal.returns
returns c = c.hash.ensures
