use borrow.Author.Rules.{rules}
use Rattle.rows.specs.Table.{rows_of, table_of}
use Rattle.cell_nursery.specs.Layout.{entry_row}
use Rattle.cell_nursery.proofs.PlaceLaws.{moved_from, row_out}
use mathlib.Core.Path.{ap, ◌∙◌}
use Prim.Native.Nat.{ℕ, ◌-◌}
use native.Mathlib.Omega.{arith}
use native.Mathlib.Numerals.{add-one}
use lib.ListN.{length}
use Rattle.nursery_rows.proofs.entries.remove_entry.Goals as goal

pub move_places-requires : goal.move_places-requires
move_places-requires c = record { rows = (omega arith, c.requires.1); movable = λ i a b. let h = c.requires.2 i (omega arith) b in search (rules, h) }

pub returns : goal.returns
returns c =
    let a = c.args in
    c.remove_row.ensures
    ∙ row_out (λ p. p - a.len) a.n a.k a.t.now _ c.requires.1 c.requires.0
    (c.move_places.ensures (λ p. p - a.len) (λ p q b e. search rules) ∙ ap (λ (j : ℕ). table_of entry_row (length a.t.now) (moved_from (λ p. p - a.len) j (rows_of entry_row a.n a.t.now))) (add-one a.k))
