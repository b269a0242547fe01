-- `counter_records::walk`.
use Rattle.std.specs.Prelude.{◌<◌}
use Rattle.std.proofs.Common.{arith, rules, subst, sym}
use Rattle.counters.specs.Layout.{words_of}
use Rattle.counter_walk.specs.Held.{Walk}
use Rattle.counter_walk.specs.InvWalkLaws.{left}
use Rattle.counter_walk.specs.Returned.{as_walk}
use Rattle.counter_walk.specs.Walk.{finished}
use Rattle.counter_walk.specs.WalkLaws.{inv-begin, inv-end, inv-ready, inv-turn, inv-measure}
use Rattle.counter_records.proofs.ReturnLaws.{returned}
use Rattle.counter_records.proofs.walk.Goals as goal

pub loop-s-init : goal.loop-s-init
loop-s-init c =
    rw (c.begin-s.ensures.0, c.begin-s.ensures.1) (inv-begin c.args.c c.args.t.now c.args.b.now (record { records = omega arith; words = omega arith; alive = omega arith; sets = omega arith; small = λ i h. search rules }))

pub turn-s-requires : goal.turn-s-requires
turn-s-requires c = inv-ready c.args.c c.args.t.now c.args.b.now (as_walk c.loop-s.s) c.loop-s.t c.loop-s.invariant c.loop-s-test.true

pub loop-s-preserved : goal.loop-s-preserved
loop-s-preserved c =
    rw (c.turn-s.ensures.0, c.turn-s.ensures.1) (inv-turn c.args.c c.args.t.now c.args.b.now (as_walk c.loop-s.s) c.loop-s.t c.loop-s.invariant c.loop-s-test.true)

pub loop-s-smaller : goal.loop-s-smaller
loop-s-smaller c =
    let b = c.args.b.now in
    let s = as_walk c.loop-s.s in
    subst (λ (w : Walk). left b w < left b s) (sym c.turn-s.ensures.0) (inv-measure c.args.c c.args.t.now b s c.loop-s.t c.loop-s.invariant c.loop-s-test.true)

pub returns : goal.returns
returns c =
    returned c.args.c c.args.t.now (words_of c.args.b.now) (finished (as_walk c.loop-s.s)) c.loop-s.t (inv-end c.args.c c.args.t.now c.args.b.now (as_walk c.loop-s.s) c.loop-s.t c.loop-s.invariant (omega arith)) c.finish.result c.finish.ensures
