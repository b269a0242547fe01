-- `blake3::tree` meets its contract. The measure is the length. Each part is shorter, and its first chunk's counter fits.
-- Assumes nothing.
use lib.ListN.{length}
use Rattle.std.proofs.Common.{length}
use Rattle.blake3.proofs.+tree.Given as goal

abbrev pub decreases-tree : goal.decreases-tree
decreases-tree l = length l.s.now
