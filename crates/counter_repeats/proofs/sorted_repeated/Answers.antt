-- `counter_repeats::sorted_repeated`. A sorted list repeats what the list does, and the words are all 0 again.
-- Assumes nothing.
use mathlib.Core.Path.{sym, ap}
use native.Mathlib.Omega.{arith}
use lib.ListN.{length}
use Rattle.counter_repeats.specs.SpaceLaws.{twice, length-gathered, length-space, length_front, front_fits, front-sorted, front-repeated, blank-again}
use Rattle.counter_repeats.proofs.sorted_repeated.Goals as goal

pub gather-k-requires : goal.gather-k-requires
gather-k-requires g c = omega arith

pub overflow_add-e : goal.overflow_add-e
overflow_add-e g c =
    let k = c.gather-k in
    let h = twice c.args.s.now (g.B.Transitions.words c.args.b) k.new.s k.result c.requires.0 c.requires.1 k.ensures.0 k.ensures.1 in
    omega arith

pub slice_bounds-sort-end : goal.slice_bounds-sort-end
slice_bounds-sort-end g c =
    let k = c.gather-k in
    omega (arith, twice c.args.s.now (g.B.Transitions.words c.args.b) k.new.s k.result c.requires.0 c.requires.1 k.ensures.0 k.ensures.1, length-gathered c.args.s.now (g.B.Transitions.words c.args.b) k.new.s k.result c.requires.0 c.requires.1 k.ensures.0 k.ensures.1)

pub slice_bounds-sort-end-2 : goal.slice_bounds-sort-end-2
slice_bounds-sort-end-2 g c =
    let k = c.gather-k in
    sym (length-space c.args.s.now (g.B.Transitions.words c.args.b) k.new.s k.result c.requires.0 c.requires.1 k.ensures.0 k.ensures.1)

pub sort-requires : goal.sort-requires
sort-requires g c =
    let k = c.gather-k in
    length-space c.args.s.now (g.B.Transitions.words c.args.b) k.new.s k.result c.requires.0 c.requires.1 k.ensures.0 k.ensures.1

pub slice_bounds-has_repeat-end : goal.slice_bounds-has_repeat-end
slice_bounds-has_repeat-end g c =
    let k = c.gather-k in
    let u = c.sort in
    front_fits c.args.s.now (g.B.Transitions.words c.args.b) k.new.s k.result c.requires.0 c.requires.1 k.ensures.0 k.ensures.1 u.new.s u.ensures

pub slice_bounds-has_repeat-end-2 : goal.slice_bounds-has_repeat-end-2
slice_bounds-has_repeat-end-2 g c =
    let k = c.gather-k in
    let u = c.sort in
    length_front c.args.s.now (g.B.Transitions.words c.args.b) k.new.s k.result c.requires.0 c.requires.1 k.ensures.0 k.ensures.1 u.new.s u.ensures

pub has_repeat-r-requires : goal.has_repeat-r-requires
has_repeat-r-requires g c =
    let k = c.gather-k in
    let u = c.sort in
    front-sorted c.args.s.now (g.B.Transitions.words c.args.b) k.new.s k.result c.requires.0 c.requires.1 k.ensures.0 k.ensures.1 u.new.s u.ensures

pub fill-requires : goal.fill-requires
fill-requires g c =
    let k = c.gather-k in
    let u = c.sort in
    omega (arith, front_fits c.args.s.now (g.B.Transitions.words c.args.b) k.new.s k.result c.requires.0 c.requires.1 k.ensures.0 k.ensures.1 u.new.s u.ensures)

pub shape_of-s : goal.shape_of-s
shape_of-s g c =
    let k = c.gather-k in
    let u = c.sort in
    ap length (blank-again c.args.s.now (g.B.Transitions.words c.args.b) k.new.s k.result c.requires.0 c.requires.1 k.ensures.0 k.ensures.1 u.new.s u.ensures c.fill.new.t c.fill.ensures)

pub returns : goal.returns
returns g c =
    let k = c.gather-k in
    let u = c.sort in
    let h = c.has_repeat-r in
    let f = c.fill in
    (front-repeated c.args.s.now (g.B.Transitions.words c.args.b) k.new.s k.result c.requires.0 c.requires.1 k.ensures.0 k.ensures.1 u.new.s u.ensures h.result h.ensures, blank-again c.args.s.now (g.B.Transitions.words c.args.b) k.new.s k.result c.requires.0 c.requires.1 k.ensures.0 k.ensures.1 u.new.s u.ensures f.new.t f.ensures)
