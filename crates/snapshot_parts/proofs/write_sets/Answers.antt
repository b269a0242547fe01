-- `snapshot_parts::write_sets`. The invariant: the sets from set k on, put at p, give what is wanted.
use mathlib.Core.Path.{refl, sym, ap, ◌∙◌}
use Prim.Native.Nat.{ℕ, ◌+◌, ◌≤◌}
use native.Mathlib.Omega.{arith}
use lib.ListN.{length}
use mathlib.Core.List.{List}
use Rattle.rows.specs.Table.{rows_of}
use Rattle.slices.specs.PlaceLaws.{put_at-none}
use Rattle.slices.specs.Places.{put_at}
use Rattle.counters.specs.Layout.{count_row}
use Rattle.snapshot.specs.Write.{set_bytes}
use Rattle.snapshot_parts.specs.PartLaws.{put_next, sets-next, sets-length, sets-end}
use Rattle.snapshot_parts.specs.Parts.{sets_from}
use Rattle.snapshot_parts.proofs.write_sets.Goals as goal

pub loop-k-init : goal.loop-k-init
loop-k-init c = (omega arith, refl, refl)

pub write_set-p-requires : goal.write_set-p-requires
write_set-p-requires c =
    let l = c.loop-k in
    let a = c.args in
    (c.requires.0, omega (arith, sets-length a.n a.t.now l.k (omega arith), l.invariant.0, l.invariant.2, c.requires.1))

pub loop-k-preserved : goal.loop-k-preserved
loop-k-preserved c =
    let l = c.loop-k in
    let a = c.args in
    let w = c.write_set-p in
    let n = sets-length a.n a.t.now l.k (omega arith) in
    let fits : l.p ≤ length l.out = omega (arith, l.invariant.0, l.invariant.2, c.requires.1) in
    (omega (arith, w.ensures.1, l.invariant.0), put_next l.out w.new.out (put_at a.out.now a.at (sets_from a.n a.t.now 0)) l.p w.result (set_bytes (rows_of count_row a.n a.t.now) l.k) (sets_from a.n a.t.now (l.k + 1)) (ap (λ (x : List ℕ). put_at l.out l.p x) (sym (sets-next a.n a.t.now l.k (omega arith))) ∙ l.invariant.1) w.ensures.0 w.ensures.1 fits, omega arith)

pub shape_of-out : goal.shape_of-out
shape_of-out c = c.loop-k.invariant.2

pub returns : goal.returns
returns c =
    let l = c.loop-k in
    let a = c.args in
    let e = sets-end a.n a.t.now l.k (omega arith) in
    (sym (put_at-none l.out l.p) ∙ ap (λ (x : List ℕ). put_at l.out l.p x) (sym e) ∙ l.invariant.1, omega (arith, ap length e, l.invariant.0))
