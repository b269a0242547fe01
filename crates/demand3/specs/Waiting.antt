-- Where the waiting rows are the entries' rows in some order, every entry waits.
-- Assumes nothing.
use Rattle.std.specs.Prelude.{◌≡◌, refl, true}
use Rattle.std.proofs.Common.{sym, ap, ◌∙◌, eq-eqb}
use mathlib.Core.List.{[], map, append-nil}
use Rattle.base.specs.Logic.{any, ascending}
use Rattle.base.specs.Laws.{and_both}
use Rattle.base.specs.ListLaws.{Among, any_some, some-weaker, any-map, any_order}
use Rattle.base.specs.OrderLaws.{all-each}
use Rattle.cell_nursery.specs.Entries.{Entry, State, names}
use Rattle.cell_nursery.proofs.WaitLaws.{waiter_for, Waits, waits-tied}
use Rattle.node_box.specs.Demand.{every_entry_waits}

-- the row that is an entry's names it
own_row : (e : Entry) → names (waiter_for e) e ≡ true
unfolding names
own_row e = rw (eq-eqb e.hash e.hash refl, eq-eqb e.born e.born refl)

module _ (s : State) (w : Waits [] s) (o : ascending (map (λ e. e.hash) s.entries) ≡ true) where
  entry-waits : (e : Entry) → Among e s.entries → any (λ x. names x e) s.waiting ≡ true
  entry-waits e m =
      ap (any (λ x. names x e)) (sym (append-nil s.waiting)) ∙ any_order (λ x. names x e) w ∙ any-map waiter_for (λ x. names x e) s.entries
      ∙ (any_some (λ y. names (waiter_for y) e) (λ y. (λ q. q, λ q. q)) s.entries).1 (some-weaker (λ y q. ap (λ (z : Entry). names (waiter_for z) e) q ∙ own_row e) m)

  pub every-waits : every_entry_waits s ≡ true
  unfolding every_entry_waits
  every-waits =
      and_both _ _ (all-each (λ e. any (λ x. names x e) s.waiting) s.entries entry-waits) (waits-tied s o [] w)
