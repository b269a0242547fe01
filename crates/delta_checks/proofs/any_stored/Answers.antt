use mathlib.Core.Path.{ap, ◌∙◌}
use mathlib.Core.List.{List}
use borrow.Author.Rules.{rules}
use Rattle.base.specs.Logic.{any, elem}
use Rattle.rows.specs.Keys.{keys, first_four}
use Rattle.cell_nursery.specs.Entries.{Entry}
use Rattle.cell_nursery.specs.Calls.{length_width}
use Rattle.delta_items.specs.WalkLaws.{left-start}
use Rattle.delta_checks.specs.ChecksLaws.{from-start}
use Rattle.delta_checks.proofs.any_stored.Goals as goal

pub any_from-requires : goal.any_from-requires
any_from-requires c =
    let a = c.args in
    record { left = left-start (length_width a.wide) a.inserts a.items.now c.requires.value; is_always_callable = let h = c.requires.entries_held in search (rules, h) }

pub returns : goal.returns
returns c =
    let a = c.args in
    let ks = keys first_four 8 a.r.entries a.es.now in
    c.any_from.ensures (λ h. elem h ks) (λ k w b p. search rules) ∙ ap (λ (es : List Entry). any (λ e. elem e.hash ks) es) (from-start (length_width a.wide) a.inserts a.items.now)
