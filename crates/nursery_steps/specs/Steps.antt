-- What one insert takes, and what a step returns and leaves.
-- Assumes nothing.
use Rattle.std.specs.Prelude.{◌≡◌, true, false, List, map, ℕ, suc, ◌+◌, ◌≤◌, length}
use Rattle.base.specs.Logic.{elem}
use Rattle.base.specs.Answers.{Taken}
use Rattle.rows.specs.declared.Wide.{Wide}
use Rattle.rows.specs.Wide.{key_of}
use Rattle.cell_nursery.specs.declared.Nursery.{Nursery}
use Rattle.cell_nursery.specs.Entries.{Entry, cell_bytes}
use Rattle.cell_nursery.specs.Layout.{room_of, state_of, holds}
use Rattle.cell_nursery.specs.Calls.{Changed, effect}

-- the entry of a hash that is given by its words
abbrev pub new_entry : Wide → ℕ → ℕ → List ℕ → Entry
new_entry hash idx born cell = record { hash = key_of hash; idx = idx; born = born; cell = cell }

-- the record and the tables after a step
abbrev pub left : Nursery → List ℕ → List ℕ → List ℕ → Changed
left r es ws cs = effect (record { answer = Taken; nursery = r }) es ws cs

-- the tables hold a state that lacks the entry's hash and leaves room for a row and the entry's cell
pub record Insertable (r : Nursery) (es ws cs : List ℕ) (e : Entry) : Type 0 where
  pub held : holds r es ws cs ≡ true
  pub absent : elem e.hash (map (λ x. x.hash) (state_of r es ws cs).entries) ≡ false
  pub rows : suc (length (state_of r es ws cs).entries) ≤ (room_of es ws cs).entries
  pub bytes : cell_bytes (state_of r es ws cs).entries + length e.cell ≤ length cs
