use Rattle.std.specs.Prelude.{◌≡◌, Bool, ◌&&◌, ◌||◌}
use Rattle.std.proofs.Common.{ap, sym, ◌∙◌}
use Rattle.rows.specs.Table.{rows_of}
use Rattle.counters.specs.Batch.{changes, unallocated, false_old}
use Rattle.counters.specs.Layout.{count_row}
use Rattle.counters.specs.Steps.{transition}
use Rattle.counter_walk.specs.Returned.{as_sums}
use Rattle.counter_walk.specs.TurnLaws.{sums-are}
use Rattle.counter_walk.proofs.sums_with.Goals as goal
use Rattle.counter_walk.proofs.sums_with.Goals.{then-a, else-a, then-a-2, else-a-2}

pub returns : goal.returns
returns c =
    let a = c.args in
    let es = rows_of count_row a.c.stored a.t.now in
    let one = transition a.idx a.old a.new in
    let unborn = changes one && unallocated a.c.next_idx.0 one in
    let untrue = changes one && false_old es one in
    let u : c.if-a.result ≡ (a.a.unallocated || unborn) =
    elim c.if-a.branch [
      | then-a w ↦ w.result-is ∙ w.if-a.true ∙ sym (ap (λ (r : Bool). r || unborn) w.if-a.true)
      | else-a w ↦ w.result-is ∙ w.is_unallocated.ensures ∙ sym (ap (λ (r : Bool). r || unborn) w.if-a.false)
    ] in
    let f : c.if-a-2.result ≡ (a.a.false_old || untrue) =
    elim c.if-a-2.branch [
      | then-a-2 w ↦ w.result-is ∙ w.if-a-2.true ∙ sym (ap (λ (r : Bool). r || untrue) w.if-a-2.true)
      | else-a-2 w ↦ w.result-is ∙ w.is_false_old.ensures ∙ sym (ap (λ (r : Bool). r || untrue) w.if-a-2.false)
    ] in
    sums-are a.c.next_idx.0 es a.idx a.old a.new (as_sums a.a) c.if-a.result c.if-a-2.result
    c.counts.result c.counts-2.result c.counts-3.result c.counts-4.result c.maintained_by.result
    u f c.counts.ensures c.counts-2.ensures c.counts-3.ensures c.counts-4.ensures c.maintained_by.ensures
