-- `waiting_checks::mark_row`. Test after test, each of the place of the row's hash.
use Rattle.std.proofs.Common.{◌≡◌, Bool, true, List, ℕ, ◌+◌, ◌-◌, ◌*◌, ◌≤◌, ◌<◌, drop, sym, ap, ◌∙◌, arith}
use Rattle.base.specs.Laws.{ascending-sorted}
use Rattle.rows.specs.Keys.{first_four, keys, place}
use Rattle.rows.specs.Wide.{key_of}
use Rattle.cell_nursery.specs.declared.Nursery.{Nursery}
use Rattle.cell_nursery.specs.Rows.{waiter_at_row}
use Rattle.cell_nursery.proofs.PrefixLaws.{waiter-key}
use Rattle.waiting_checks.specs.Marks.{with_mark, within, place_of, names_at}
use Rattle.waiting_checks.specs.WindowLaws.{within-bounds}
use Rattle.waiting_checks.specs.RowLaws.{row-outside, row-wrong, row-again, row_new}
use Rattle.waiting_checks.proofs.mark_row.Goals as goal

-- the row's hash was read as h
module _ (r : Nursery) (es ws : List ℕ) (j lo h : ℕ) (read : h ≡ first_four (drop (j * 5 + 1) ws)) where
  -- its place
  here : place h (keys first_four 8 r.entries es) ≡ place_of r es (waiter_at_row ws j)
  here = ap (λ (x : ℕ). place x (keys first_four 8 r.entries es)) (read ∙ waiter-key ws j)

  -- whether that lies in the window
  inside : {b v : Bool} → b ≡ within lo (place h (keys first_four 8 r.entries es)) → b ≡ v → within lo (place_of r es (waiter_at_row ws j)) ≡ v
  inside e f = sym (e ∙ ap (within lo) here) ∙ f

  -- and where it does, between which entries
  bounds : {b : Bool} (k : ℕ) → b ≡ within lo (place h (keys first_four 8 r.entries es)) → b ≡ true → k ≡ place h (keys first_four 8 r.entries es)
      → (lo ≤ k) × (k < lo + 65536)
  bounds k e f g = let b = within-bounds lo (place_of r es (waiter_at_row ws j)) (inside e f) in omega (arith, here)

pub find-k-requires : goal.find-k-requires
find-k-requires c =
    (omega arith, c.requires.0.laid.fits, ascending-sorted 0 (keys first_four 8 c.args.r.entries c.args.es.now) c.requires.0.hashes)

pub returns-then-not-in_window : goal.returns-then-not-in_window
returns-then-not-in_window c =
    let a = c.args in
    row-outside (place_of a.r a.es.now) (names_at a.r a.es.now) a.lo a.marks.now (waiter_at_row a.ws.now a.j)
    (inside a.r a.es.now a.ws.now a.j a.lo (key_of c.wide_at-hash.result) c.wide_at-hash.ensures c.in_window.ensures c.if-not-in_window.true)

pub names-requires : goal.names-requires
names-requires c =
    let a = c.args in
    (c.requires.0, c.requires.1, c.find-k.ensures ∙ here a.r a.es.now a.ws.now a.j a.lo (key_of c.wide_at-hash.result) c.wide_at-hash.ensures)

pub returns-then-not-names : goal.returns-then-not-names
returns-then-not-names c =
    let a = c.args in
    row-wrong (place_of a.r a.es.now) (names_at a.r a.es.now) a.lo a.marks.now (waiter_at_row a.ws.now a.j)
    (inside a.r a.es.now a.ws.now a.j a.lo (key_of c.wide_at-hash.result) c.wide_at-hash.ensures c.in_window.ensures c.if-not-in_window.false)
    (sym c.names.ensures ∙ c.if-not-names.true)

pub overflow_sub-k : goal.overflow_sub-k
overflow_sub-k c =
    let a = c.args in
    let b = bounds a.r a.es.now a.ws.now a.j a.lo (key_of c.wide_at-hash.result) c.wide_at-hash.ensures c.find-k.result c.in_window.ensures c.if-not-in_window.false c.find-k.ensures in
    b.0

pub marked-requires : goal.marked-requires
marked-requires c =
    let a = c.args in
    let b = bounds a.r a.es.now a.ws.now a.j a.lo (key_of c.wide_at-hash.result) c.wide_at-hash.ensures c.find-k.result c.in_window.ensures c.if-not-in_window.false c.find-k.ensures in
    omega (arith, b)

pub returns-then-marked : goal.returns-then-marked
returns-then-marked c =
    let a = c.args in
    let k = c.find-k.ensures ∙ here a.r a.es.now a.ws.now a.j a.lo (key_of c.wide_at-hash.result) c.wide_at-hash.ensures in
    row-again (place_of a.r a.es.now) (names_at a.r a.es.now) a.lo a.marks.now (waiter_at_row a.ws.now a.j)
    (inside a.r a.es.now a.ws.now a.j a.lo (key_of c.wide_at-hash.result) c.wide_at-hash.ensures c.in_window.ensures c.if-not-in_window.false)
    (sym c.names.ensures ∙ c.if-not-names.false) (rw (← k) (sym c.marked.ensures ∙ c.if-marked.true))

pub overflow_sub-k-2 : goal.overflow_sub-k-2
overflow_sub-k-2 c =
    let a = c.args in
    let b = bounds a.r a.es.now a.ws.now a.j a.lo (key_of c.wide_at-hash.result) c.wide_at-hash.ensures c.find-k.result c.in_window.ensures c.if-not-in_window.false c.find-k.ensures in
    b.0

pub mark-requires : goal.mark-requires
mark-requires c =
    let a = c.args in
    let b = bounds a.r a.es.now a.ws.now a.j a.lo (key_of c.wide_at-hash.result) c.wide_at-hash.ensures c.find-k.result c.in_window.ensures c.if-not-in_window.false c.find-k.ensures in
    (omega (arith, b), sym c.marked.ensures ∙ c.if-marked.false)

pub returns : goal.returns
returns c =
    let a = c.args in
    let k = c.find-k.ensures ∙ here a.r a.es.now a.ws.now a.j a.lo (key_of c.wide_at-hash.result) c.wide_at-hash.ensures in
    let n = row_new (place_of a.r a.es.now) (names_at a.r a.es.now) a.lo a.marks.now (waiter_at_row a.ws.now a.j)
    (inside a.r a.es.now a.ws.now a.j a.lo (key_of c.wide_at-hash.result) c.wide_at-hash.ensures c.in_window.ensures c.if-not-in_window.false)
    (sym c.names.ensures ∙ c.if-not-names.false) (rw (← k) (sym c.marked.ensures ∙ c.if-marked.false)) in
    (n.0, c.mark.ensures ∙ ap (λ (x : ℕ). with_mark a.marks.now (x - a.lo)) k ∙ n.1)
