-- A cell put among the cells: what moves and copies leave.
-- Assumes nothing.
use Rattle.std.specs.Prelude.{◌≡◌, refl, List, ◌++◌, ℕ, ◌+◌, ◌-◌, ◌≤◌, length, take, drop}
use Rattle.std.proofs.Math.Seq.{paste}
use Rattle.slices.specs.Laws.{part-lent, length_part}
use Rattle.rows.proofs.MoveLaws.{insert-row}

-- the bytes from p to e move up by a cell's length, and the cell, a part of the items, takes their place
pub cell-in : (t items : List ℕ) (p e at len : ℕ) → p ≤ e → e + len ≤ length t → at + len ≤ length items
    → paste (paste t (p + len) (drop p t) (e - p)) p (take (at + len - at) (drop at items)) (length (take (at + len - at) (drop at items)))
    ≡ take p t ++ (take len (drop at items) ++ (take (e - p) (drop p t) ++ drop (e + len) t))
cell-in t items p e at len h k f =
    let l : length (take len (drop at items)) ≡ len = length_part items at len f in
    rw (part-lent items at (at + len) len refl, l) (rw l at (insert-row t (take len (drop at items)) p e h (rw l k)))
