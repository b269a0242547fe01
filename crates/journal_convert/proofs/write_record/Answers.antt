-- `journal_convert::write_record`. A record that is kept whole is its payload's; else the kept part is sealed.
-- Assumes nothing.
use mathlib.Core.Path.{refl, ap, ◌∙◌}
use mathlib.Core.List.{List}
use Prim.Native.Nat.{ℕ, ◌+◌}
use Rattle.blake3.specs.Spec.{hash}
use Rattle.slices.specs.Places.{put_at}
use Rattle.slices.specs.Laws.{part-lent}
use Rattle.format.specs.Record.{sealed}
use Rattle.journal_convert.proofs.write_record.Goals as goal

pub returns-then-end-s : goal.returns-then-end-s
returns-then-end-s c =
    let a = c.args in
    c.copy_at.ensures ∙ ap (λ (l : List ℕ). put_at a.out.now a.at l) (c.requires.0.whole c.if-end-s.true)

pub returns-else-end-s : goal.returns-else-end-s
returns-else-end-s c =
    let a = c.args in
    c.seal.ensures ∙ ap (λ (l : List ℕ). put_at a.out.now a.at (sealed hash l)) (part-lent a.s.now 40 (40 + a.used) a.used refl)
