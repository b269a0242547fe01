-- `waiting_checks::reaches`. The entry before place k decides, where there is one.
use Rattle.std.proofs.Common.{ℕ, ap, ◌∙◌, arith, ltb}
use Rattle.std.proofs.lemmas.Bool.{lt-leb}
use Rattle.rows.specs.Wide.{key_of}
use Rattle.rows.proofs.WideLaws.{less}
use Rattle.waiting_checks.specs.RowLaws.{reach-past, reach-in}
use Rattle.waiting_checks.proofs.reaches.Goals as goal

pub returns-then-k-r : goal.returns-then-k-r
returns-then-k-r c =
    let a = c.args in
    c.lt.ensures
    ∙ less c.wide_at.result a.hash
    (record { first = omega arith; second = omega arith; third = omega arith; fourth = omega arith })
    (record { first = omega arith; second = omega arith; third = omega arith; fourth = omega arith })
    ∙ ap (λ (k : ℕ). ltb k (key_of a.hash)) c.wide_at.ensures
    ∙ reach-in a.r a.es.now c.requires (key_of a.hash) a.k (omega arith) c.if-k-r.true

pub returns-else-k-r : goal.returns-else-k-r
returns-else-k-r c =
    let a = c.args in
    lt-leb a.k a.r.entries (omega arith) ∙ reach-past a.r a.es.now c.requires (key_of a.hash) a.k (omega arith)
