use Rattle.std.proofs.Common.{inl, inr, ◌∙◌}
use Rattle.rows.specs.Table.{rows_of}
use Rattle.counters.specs.Layout.{count_row}
use Rattle.counter_walk.specs.Returned.{as_sums, as_walk}
use Rattle.counter_walk.specs.TurnLaws.{few-more, look-asks, look-goes-on}
use Rattle.counter_walk.proofs.look.Goals as goal
use Rattle.counter_walk.proofs.look.Goals.{else-old-new-via-then-old-new+else-s, else-old-new-via-else-old-new}

pub returns-then-s : goal.returns-then-s
returns-then-s c =
    let a = c.args in
    look-asks a.t.now (as_walk a.s) a.idx a.old a.new (as_sums c.sums_with-sums.result) c.sums_with-sums.ensures c.if-old-new.true c.if-s.true

pub on_to-requires : goal.on_to-requires
on_to-requires c =
    let a = c.args in
    let q = c.requires.births_bound in
    let f = few-more a.s.counters.next_idx.0 (rows_of count_row a.s.counters.stored a.t.now) a.idx a.old a.new (as_sums a.s.sums) q.2 q.3 (as_sums c.sums_with-sums.result) c.sums_with-sums.ensures in
    (f.0, f.1, q.4)

pub returns : goal.returns
returns c =
    let a = c.args in
    c.on_to.ensures ∙ look-goes-on a.t.now (as_walk a.s) a.idx a.old a.new (as_sums c.sums_with-sums.result) c.sums_with-sums.ensures (elim c.else-old-new.branch [
      | else-old-new-via-then-old-new+else-s w ↦ inr w.if-s.false
      | else-old-new-via-else-old-new w ↦ inl w.if-old-new.false
    ])
