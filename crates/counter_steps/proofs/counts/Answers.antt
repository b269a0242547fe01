use mathlib.Core.Path.{sym, ap, ◌∙◌}
use mathlib.Core.Bool.{Bool}
use Prim.Native.Nat.{ℕ}
use Rattle.base.specs.Logic.{pick}
use Rattle.counter_steps.specs.Steps.{of_kind}
use Rattle.counters.proofs.StepLaws.{unchanged, changed}
use Rattle.counter_steps.proofs.counts.Goals as goal
use Rattle.counter_steps.proofs.counts.Goals.{else-x-via-then-x+else-is_kind, else-x-via-else-x}

pub returns-then-is_kind : goal.returns-then-is_kind
returns-then-is_kind c = let a = c.args in ap (λ (b : Bool). pick {A = ℕ} b 1 0) (sym c.if-is_kind.true ∙ c.is_kind.ensures ∙ changed a.x.idx.0 a.x.old_raw a.x.new_raw (of_kind a.kind a.x) c.if-x.true)

pub returns-else-x : goal.returns-else-x
returns-else-x c =
    let a = c.args in
    ap (λ (b : Bool). pick {A = ℕ} b 1 0) (elim c.else-x.branch [
      | else-x-via-then-x+else-is_kind w ↦ sym w.if-is_kind.false ∙ w.is_kind.ensures ∙ changed a.x.idx.0 a.x.old_raw a.x.new_raw (of_kind a.kind a.x) w.if-x.true
      | else-x-via-else-x w ↦ unchanged a.x.idx.0 a.x.old_raw a.x.new_raw (of_kind a.kind a.x) w.if-x.false
    ])
