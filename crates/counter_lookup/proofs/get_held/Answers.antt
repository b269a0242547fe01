use native.Mathlib.Omega.{arith}
use Rattle.counters.proofs.RowLaws.{in_order}
use Rattle.counters.proofs.ReadLaws.{get-far, get-count}
use Rattle.counter_lookup.proofs.get_held.Goals as goal

pub returns-then-c-idx : goal.returns-then-c-idx
returns-then-c-idx c =
    get-far c.args.c c.args.t.now c.args.idx c.requires c.if-c-idx.true

pub stored_at-stored-requires : goal.stored_at-stored-requires
stored_at-stored-requires c = in_order c.args.c c.args.t.now c.requires

pub returns : goal.returns
returns c =
    get-count c.args.c c.args.t.now c.args.idx c.requires c.if-c-idx.false c.max.result
    (omega (arith, c.stored_at-stored.ensures, c.max.ensures))
