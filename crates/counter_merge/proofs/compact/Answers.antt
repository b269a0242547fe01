use mathlib.Core.Path.{◌≡◌, refl, ◌∙◌}
use native.Mathlib.Omega.{arith}
use native.Mathlib.Numerals.{add-one}
use Rattle.counter_merge.specs.WordLaws.{kept_low, kept-size, kept-rest, kept-words, kept-number, compacted, none_kept}
use Rattle.counter_merge.proofs.compact.Goals as goal

pub loop-i-init : goal.loop-i-init
loop-i-init c = (omega arith, refl, refl, none_kept.0, none_kept.1)

pub keep_row-to-requires : goal.keep_row-to-requires
keep_row-to-requires c =
    let l = c.loop-i in
    (l.invariant.0, omega (arith, l.invariant.1, c.requires.fits))

pub loop-i-preserved : goal.loop-i-preserved
loop-i-preserved c =
    let l = c.loop-i in
    let f = c.keep_row-to in (
      omega (arith, f.ensures.0, kept_low c.args.n c.args.t.now c.requires.fits l.i l.to l.t (omega arith) l.invariant.0 l.invariant.1 l.invariant.2 l.invariant.3 l.invariant.4 _ f.ensures.1),
      kept-size c.args.n c.args.t.now c.requires.fits l.i l.to l.t (omega arith) l.invariant.0 l.invariant.1 l.invariant.2 l.invariant.3 l.invariant.4 _ f.ensures.1,
      rw add-one (kept-rest c.args.n c.args.t.now c.requires.fits l.i l.to l.t (omega arith) l.invariant.0 l.invariant.1 l.invariant.2 l.invariant.3 l.invariant.4 _ f.ensures.1),
      rw (add-one, f.ensures.0) (kept-words c.args.n c.args.t.now c.requires.fits l.i l.to l.t (omega arith) l.invariant.0 l.invariant.1 l.invariant.2 l.invariant.3 l.invariant.4 _ f.ensures.1),
      rw add-one (f.ensures.0 ∙ kept-number c.args.n c.args.t.now c.requires.fits l.i l.to l.t (omega arith) l.invariant.0 l.invariant.1 l.invariant.2 l.invariant.3 l.invariant.4 _ f.ensures.1),
    )

pub overflow_mul-to : goal.overflow_mul-to
overflow_mul-to c = omega arith

pub overflow_mul-n : goal.overflow_mul-n
overflow_mul-n c = omega arith

pub fill-requires : goal.fill-requires
fill-requires c = let l = c.loop-i in omega (arith, l.invariant.0, l.invariant.1, c.requires.fits)

pub returns : goal.returns
returns c =
    let l = c.loop-i in
    let e : l.i ≡ c.args.n = omega arith in
    let w = compacted c.args.n c.args.t.now c.requires l.to l.t (omega arith) l.invariant.1 (rw e at l.invariant.2) (rw e at l.invariant.3) (rw e at l.invariant.4) in
    (w.0, c.fill.ensures ∙ w.1)
