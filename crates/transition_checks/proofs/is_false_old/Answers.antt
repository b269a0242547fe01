use mathlib.Core.Path.{sym, ◌∙◌}
use Rattle.rows.specs.Table.{rows_of}
use Rattle.counters.specs.Layout.{count_row}
use Rattle.counters.specs.Batch.{false_old}
use Rattle.counters.proofs.StepLaws.{unchanged, changed}
use Rattle.counters.proofs.StepLaws.{false-old-none, false-old-stored}
use Rattle.transition_checks.proofs.is_false_old.Goals as goal

pub returns-then-x : goal.returns-then-x
returns-then-x c = let a = c.args in unchanged a.x.idx.0 a.x.old_raw a.x.new_raw (false_old (rows_of count_row a.n a.t.now) a.x) c.if-x.true

pub stored_at-stored-requires : goal.stored_at-stored-requires
stored_at-stored-requires c = c.requires

pub returns-then-stored-eq0 : goal.returns-then-stored-eq0
returns-then-stored-eq0 c =
    let a = c.args in
    false-old-none (rows_of count_row a.n a.t.now) a.x.idx.0 a.x.old_raw a.x.new_raw (sym c.stored_at-stored.ensures ∙ c.if-stored-eq0.true)
    ∙ changed a.x.idx.0 a.x.old_raw a.x.new_raw (false_old (rows_of count_row a.n a.t.now) a.x) c.if-x.false

pub returns-else-stored-eq0 : goal.returns-else-stored-eq0
returns-else-stored-eq0 c =
    let a = c.args in
    false-old-stored (rows_of count_row a.n a.t.now) a.x.idx.0 a.x.old_raw a.x.new_raw c.stored_at-stored.result c.stored_at-stored.ensures c.if-stored-eq0.false
    ∙ changed a.x.idx.0 a.x.old_raw a.x.new_raw (false_old (rows_of count_row a.n a.t.now) a.x) c.if-x.false
