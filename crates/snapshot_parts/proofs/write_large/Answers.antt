-- `snapshot_parts::write_large`. The invariant: the large tier from row i on, put at p, gives what is wanted.
use mathlib.Core.Path.{◌≡◌, refl, sym, ap, ap₂, ◌∙◌}
use mathlib.Core.List.{List, ◌++◌}
use Prim.Native.Nat.{ℕ, ◌+◌, ◌*◌, ◌≤◌}
use native.Mathlib.Omega.{arith}
use lib.ListN.{length, get_or, length-append}
use Rattle.base.specs.Bytes.{le64}
use Rattle.base.specs.Laws.{length_digits}
use Rattle.slices.specs.PlaceLaws.{put_at-none, length-put_at}
use Rattle.slices.specs.Places.{put_at}
use Rattle.snapshot_parts.specs.PartLaws.{put_next, large-next, large-skip, large-length, large-end}
use Rattle.snapshot_parts.specs.Parts.{large_from}
use Rattle.snapshot_parts.proofs.write_large.Goals as goal
use Rattle.snapshot_parts.proofs.write_large.Goals.{else-count-ge-FIRST_LARGE, then-count-ge-FIRST_LARGE}

pub loop-i-init : goal.loop-i-init
loop-i-init c = (omega arith, refl, refl)

pub write_entry-requires : goal.write_entry-requires
write_entry-requires c =
    let l = c.loop-i in
    let a = c.args in
    omega (arith, large-length a.n a.t.now l.i (omega arith) (omega (arith, c.if-count-ge-FIRST_LARGE.true)), l.invariant.0, l.invariant.2, c.requires.1)

pub overflow_add-p : goal.overflow_add-p
overflow_add-p c =
    let l = c.loop-i in
    let a = c.args in
    omega (arith, large-length a.n a.t.now l.i (omega arith) (omega (arith, c.if-count-ge-FIRST_LARGE.true)), l.invariant.0, l.invariant.2, c.requires.1)

pub loop-i-preserved : goal.loop-i-preserved
loop-i-preserved c =
    let l = c.loop-i in
    let a = c.args in
    let w₀ = put_at a.out.now a.at (large_from a.n a.t.now 0) in
    let x : ℕ = get_or a.t.now (l.i * 2) 0 in
    let y : ℕ = get_or a.t.now (l.i * 2 + 1) 0 in
    let fits : l.p ≤ length l.out = omega (arith, l.invariant.0, l.invariant.2, c.requires.1) in
    let wide : length (le64 x ++ le64 y) ≡ 16 = length-append (le64 x) (le64 y) ∙ omega (arith, length_digits 256 8 x, length_digits 256 8 y) in
    elim c.if-count-ge-FIRST_LARGE.branch [
      | then-count-ge-FIRST_LARGE w ↦
          let h : 257 ≤ y = omega (arith, w.if-count-ge-FIRST_LARGE.true) in
          let n = large-length a.n a.t.now l.i (omega arith) h in
          let e : c.if-count-ge-FIRST_LARGE.out ≡ put_at l.out l.p (le64 x ++ le64 y) = w.out-is ∙ w.write_entry.ensures in
          let r : put_at l.out l.p ((le64 x ++ le64 y) ++ large_from a.n a.t.now (l.i + 1)) ≡ w₀ =
          ap (λ (z : List ℕ). put_at l.out l.p z) (sym (large-next a.n a.t.now l.i (omega arith) h)) ∙ l.invariant.1 in
          (omega (arith, w.p-is, l.invariant.0), put_next l.out c.if-count-ge-FIRST_LARGE.out w₀ l.p c.if-count-ge-FIRST_LARGE.p (le64 x ++ le64 y) (large_from a.n a.t.now (l.i + 1)) r e (omega (arith, w.p-is)) fits, ap length e ∙ length-put_at l.out l.p (le64 x ++ le64 y) (omega (arith, l.invariant.0, l.invariant.2, c.requires.1)) ∙ l.invariant.2)
      | else-count-ge-FIRST_LARGE w ↦
          let k = large-skip a.n a.t.now l.i (omega arith) (omega (arith, w.if-count-ge-FIRST_LARGE.false)) in
          let r : put_at l.out l.p (large_from a.n a.t.now (l.i + 1)) ≡ w₀ = ap (λ (z : List ℕ). put_at l.out l.p z) (sym k) ∙ l.invariant.1 in
          (omega (arith, w.p-is, ap length k, l.invariant.0), ap₂ (λ (o : List ℕ) (p : ℕ). put_at o p (large_from a.n a.t.now (l.i + 1))) w.out-is w.p-is ∙ r, ap length w.out-is ∙ l.invariant.2)
    ]

pub shape_of-out : goal.shape_of-out
shape_of-out c = c.loop-i.invariant.2

pub returns : goal.returns
returns c =
    let l = c.loop-i in
    let a = c.args in
    let e = large-end a.n a.t.now l.i (omega arith) (omega arith) in
    sym (put_at-none l.out l.p) ∙ ap (λ (x : List ℕ). put_at l.out l.p x) (sym e) ∙ l.invariant.1
