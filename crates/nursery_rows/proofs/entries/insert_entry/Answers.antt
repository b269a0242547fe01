use borrow.Author.Rules.{rules}
use Rattle.cell_nursery.proofs.PlaceLaws.{row_in}
use Rattle.nursery_rows.specs.Rows.{row_for}
use mathlib.Core.Path.{◌∙◌}
use Prim.Native.Nat.{◌+◌}
use Rattle.nursery_rows.proofs.entries.insert_entry.Goals as goal

pub move_places-requires : goal.move_places-requires
move_places-requires c = record { rows = (c.requires.0, c.requires.2); movable = λ i a b. let h = c.requires.3 i b in search (rules, h) }

pub returns : goal.returns
returns c =
    let a = c.args in
    c.insert_row.ensures
    ∙ row_in (λ p. p + a.len) a.n a.k a.t.now _ c.requires.2 c.requires.0 (c.move_places.ensures (λ p. p + a.len) (λ p q b e. search rules)) (row_for a.hash a.idx a.born a.place a.len) c.requires.1
