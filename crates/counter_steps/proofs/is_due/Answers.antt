use mathlib.Core.Path.{◌∙◌}
use Rattle.counters.proofs.StepLaws.{unchanged, changed}
use Rattle.counter_steps.specs.Steps.{stores, leaves_row}
use Rattle.counter_steps.specs.PassLaws.{leaves-many, leaves-few}
use Rattle.counter_steps.proofs.is_due.Goals as goal

pub returns-then-x : goal.returns-then-x
returns-then-x c = let a = c.args in unchanged a.x.idx.0 a.x.old_raw a.x.new_raw (leaves_row (stores a.pass) a.x) c.if-x.true

pub returns-in-Free : goal.returns-in-Free
returns-in-Free c = let a = c.args in (rw c.in-Free.is (leaves-few a.x.idx.0 a.x.old_raw a.x.new_raw)) ∙ changed a.x.idx.0 a.x.old_raw a.x.new_raw (leaves_row (stores a.pass) a.x) c.if-x.false

pub returns-in-Store : goal.returns-in-Store
returns-in-Store c = let a = c.args in (rw c.in-Store.is (leaves-many a.x.idx.0 a.x.old_raw a.x.new_raw)) ∙ changed a.x.idx.0 a.x.old_raw a.x.new_raw (leaves_row (stores a.pass) a.x) c.if-x.false
