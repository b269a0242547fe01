-- A waiting row put in its place, as the laws of rows have it. (An entry put in its place is so by definition.)
-- Assumes nothing.
use Rattle.std.specs.Prelude.{◌≡◌, List, [], ◌∷◌, suc}
use Rattle.std.proofs.Math.Dec.{leb-suc-suc}
use Rattle.rows.proofs.KeyLaws.{put_rows}
use Rattle.cell_nursery.specs.Entries.{Waiting, put_waiting}

pub put_waiting-rows : (w : Waiting) (ws : List Waiting) → put_waiting w ws ≡ put_rows (λ x. x.born) (suc w.born) (suc w.born) (w ∷ []) ws
unfolding put_waiting put_rows
put_waiting-rows w ws = simp leb-suc-suc
