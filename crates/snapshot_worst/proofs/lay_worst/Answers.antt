use Rattle.snapshot_worst.specs.WorstLaws.{laid_to, lay-start, lay-turn, lay-end}
use mathlib.Core.Path.{refl, ap, ◌∙◌}
use Prim.Native.Nat.{◌+◌, ◌*◌}
use native.Mathlib.Omega.{arith}
use lib.ListN.{length, set, length-set}
use Rattle.snapshot_worst.proofs.lay_worst.Goals as goal

pub loop-k-init : goal.loop-k-init
loop-k-init c = (refl, lay-start c.args.t.now c.requires.2)

pub bounds-t-k-in-loop-k : goal.bounds-t-k-in-loop-k
bounds-t-k-in-loop-k c = let l = c.loop-k in rw (length-set l.t (l.k * 2) (l.k * 4294967296)) (omega arith)

pub loop-k-preserved : goal.loop-k-preserved
loop-k-preserved c = let l = c.loop-k in let a = c.args in (length-set (set l.t (l.k * 2) (l.k * 4294967296)) (l.k * 2 + 1) 256 ∙ length-set l.t (l.k * 2) (l.k * 4294967296) ∙ l.invariant.0, lay-turn (length a.t.now) l.k l.t (omega arith) l.invariant.1)

pub shape_of-t : goal.shape_of-t
shape_of-t c = c.loop-k.invariant.0

pub returns : goal.returns
returns c = let l = c.loop-k in let a = c.args in l.invariant.1 ∙ ap (laid_to (length a.t.now)) (omega arith) ∙ lay-end (length a.t.now) a.n
