-- `record_write::write_body`. Head, inserts and removes laid end to end are what the hash covers.
-- Assumes nothing.
use mathlib.Core.Path.{◌≡◌, refl, ap, ◌∙◌}
use mathlib.Core.List.{List}
use Prim.Native.Nat.{ℕ, ◌+◌, ◌-◌, ◌*◌}
use native.Mathlib.Omega.{arith}
use lib.ListN.{take, drop}
use borrow.Author.Rules.{rules}
use Rattle.slices.specs.Laws.{part-lent}
use Rattle.cell_nursery.specs.Calls.{length_width}
use Rattle.delta_items.specs.WalkLaws.{fit-inserts}
use Rattle.record_write.specs.Laid.{laid_at}
use Rattle.record_write.specs.EncodeLaws.{few-inserts, few-removes, short-cells, head-room, inserts-room, removes-inside, body-laid}
use Rattle.record_write.proofs.write_body.Goals as goal

pub write_head-requires : goal.write_head-requires
write_head-requires c =
    let a = c.args in
    let w = length_width a.wide in
    let b = c.requires in
    (head-room a.id w a.inserts a.removes a.end a.payload a.items.now a.out.now b, few-inserts w a.inserts a.removes a.items.now b.short, few-removes w a.inserts a.removes a.items.now b.short)

pub write_inserts-requires : goal.write_inserts-requires
write_inserts-requires c =
    let a = c.args in
    let w = length_width a.wide in
    let b = c.requires in (
      fit-inserts w a.inserts a.removes a.items.now b.fit,
      short-cells w a.inserts a.removes a.items.now b.short,
      omega (arith, inserts-room a.id w a.inserts a.removes a.end a.payload a.items.now a.out.now b),
    )

pub overflow_add-past : goal.overflow_add-past
overflow_add-past c =
    let a = c.args in
    let w = length_width a.wide in
    let b = c.requires in
    omega (arith, removes-inside a.id w a.inserts a.removes a.end a.payload a.items.now a.out.now b)

pub slice_bounds-copy_at-end : goal.slice_bounds-copy_at-end
slice_bounds-copy_at-end c =
    let a = c.args in
    let w = length_width a.wide in
    let b = c.requires in
    let r = removes-inside a.id w a.inserts a.removes a.end a.payload a.items.now a.out.now b in
    search rules

pub returns : goal.returns
returns c =
    let a = c.args in
    let w = length_width a.wide in
    let b = c.requires in
    let items : List ℕ = a.items.now in
    let u = c.type_inv.items in
    let n = 32 * a.removes in
    let one : List ℕ = c.write_head.new.out in
    let two : List ℕ = c.write_inserts.new.out in
    let r : take (a.end + n - a.end) (drop a.end items) ≡ take n (drop a.end items) = part-lent items a.end (a.end + n) n refl in
    c.copy_at.ensures
    ∙ ap (λ (l : List ℕ). laid_at two (40 + a.payload - n) l) r
    ∙ body-laid a.id w a.inserts a.removes a.end a.payload a.items.now a.out.now b (λ i. omega (arith, u i)) one two c.write_head.ensures c.write_inserts.ensures
