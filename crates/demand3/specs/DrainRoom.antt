-- Every waiting row is an entry's, and no entry waits twice. So draining hands out no more than the entries, and an output with room for all of
-- them and their cells is always long enough.
-- Assumes nothing.
use Rattle.std.specs.Prelude.{◌≡◌, refl, true, List, [], ◌∷◌, map}
use Rattle.std.proofs.Math.Path.{sym}
use Rattle.std.proofs.Common.{◌∙◌, arith, length-append, eq-eqb, ne_eqb, le-ltb}
use mathlib.Core.List.{Permᴰ as Reordered}
use Prim.Native.Nat.{ℕ, suc, ◌+◌, ◌*◌, ◌/◌, ◌≤◌, ◌<◌, min}
use Rattle.std.proofs.Math.ListN.{length}
use Rattle.base.specs.Logic.{keep, flat, sum_of, ascending_from}
use Rattle.base.specs.Laws.{ascending-head, ascending-tail, length_digits}
use Rattle.base.specs.ListLaws.{value-order, length-flat}
use Rattle.base.specs.SumLaws.{sum-append, sum-keep, sum_of-flat, sum_of-map, sum_of-even, sum_of-same}
use Rattle.base.specs.Answers.{taken, Taken}
use Rattle.base.specs.Output.{fitting}
use Rattle.counters.specs.Counts as counts
use Rattle.cell_nursery.specs.Entries as entries
use Rattle.cell_nursery.specs.Entries.{Entry, Waiting, State, names, tied, cell_bytes}
use Rattle.cell_nursery.specs.Drain.{due, named, promoted, promoted_bytes, drain_bytes}
use Rattle.cell_nursery.proofs.DrainLaws.{named-above}
use Rattle.cell_nursery.proofs.ItemLaws.{length-hash_bytes}
use Rattle.cell_nursery.proofs.WaitLaws.{waiter_for, gone_of, tied-waits}
use Rattle.node_box.specs.Box.{Box, drain, step}
use Rattle.demand3.specs.Holding.{Fixed, Holds}
use Rattle.demand3.specs.Answered.{answer_to, answer-is}

-- the bytes of an entry that is handed out
length-promoted : (e : Entry) → length (promoted_bytes e) ≡ 42 + length e.cell
unfolding promoted_bytes
length-promoted e = simp (length-append, length-hash_bytes) (omega (arith, length_digits 256 8 e.idx, length_digits 256 2 (length e.cell)))

-- the bytes that are handed out for a row
weight : List Entry → Waiting → ℕ
weight es w = sum_of (λ e. length (promoted_bytes e)) (named es w)

sum-order : {A : Type 0} (f : A → ℕ) {xs ys : List A} → Reordered xs ys → sum_of f xs ≡ sum_of f ys
unfolding sum_of
sum-order f r = value-order (sum_of f) (λ x n. f x + n) (λ x xs. refl) (λ x y n. omega arith) r

-- rows of later entries don't name an earlier one
weight-past : (x : Entry) (xs : List Entry) (lo : ℕ) (ys : List Entry) → x.hash < lo → ascending_from lo (map (λ e. e.hash) ys) ≡ true
    → sum_of (λ e. weight (x ∷ xs) (waiter_for e)) ys ≡ sum_of (λ e. weight xs (waiter_for e)) ys
unfolding sum_of named names keep weight
weight-past x xs lo [] l o = refl
weight-past x xs lo (y ∷ ys) l o =
    let m = ascending-head lo y.hash (map (λ e. e.hash) ys) o in
    rw (ne_eqb x.hash y.hash (omega arith), weight-past x xs (suc y.hash) ys (omega arith) (ascending-tail lo y.hash (map (λ e. e.hash) ys) o))

-- every entry's row names it alone
weight-entries : (lo : ℕ) (es : List Entry) → ascending_from lo (map (λ e. e.hash) es) ≡ true
    → sum_of (λ e. weight es (waiter_for e)) es ≡ sum_of (λ e. length (promoted_bytes e)) es
unfolding sum_of named names keep weight
weight-entries lo [] o = refl
weight-entries lo (x ∷ xs) o =
    let t = ascending-tail lo x.hash (map (λ e. e.hash) xs) o in
    rw (eq-eqb x.hash x.hash refl, eq-eqb x.born x.born refl, named-above (waiter_for x) (suc x.hash) xs (omega arith) t, weight-past x xs (suc x.hash) xs (omega arith) t, weight-entries (suc x.hash) xs t) (omega arith)

module _ (s : State) (o : ascending_from 0 (map (λ e. e.hash) s.entries) ≡ true) (t : tied s ≡ true) (delay round : ℕ) where
  -- what is handed out is at most every entry, with its cell
  pub drain-length : length (drain_bytes delay round s) ≤ 42 * length s.entries + cell_bytes s.entries
  unfolding drain_bytes promoted cell_bytes weight
  drain-length =
      let es = s.entries in
      let f : Waiting → ℕ = λ x. sum_of (λ e. length (promoted_bytes e)) (named es x) in
      let rows = keep (due delay round) s.waiting in
      let bytes : length (flat promoted_bytes (flat (named es) rows)) ≡ sum_of f rows =
      length-flat promoted_bytes (flat (named es) rows) ∙ sum_of-flat (λ e. length (promoted_bytes e)) (named es) rows in
      let some-due = sum-keep (due delay round) f s.waiting in
      let all-rows : sum_of f s.waiting + sum_of f (gone_of s) ≡ sum_of (λ e. length (promoted_bytes e)) es =
      sym (sum-append f s.waiting (gone_of s)) ∙ sum-order f (tied-waits s o t) ∙ sum_of-map f waiter_for es ∙ weight-entries 0 es o in
      let sizes : sum_of (λ e. length (promoted_bytes e)) es ≡ 42 * length es + sum_of (λ e. length e.cell) es =
      sum_of-same (λ e. length (promoted_bytes e)) (λ e. 42 + length e.cell) length-promoted es ∙ sum_of-even 42 (λ e. length e.cell) es in
      omega (arith, bytes, some-due, all-rows, sizes)

-- a drain into an output that has room for all entries and cells that the tables have room for is always taken
module _ {z : Fixed} {b : Box} {c : counts.State} {n : entries.State} (h : Holds z b c n) where
  pub drain-fits : (round out : ℕ) → 42 * min (z.entries / 8) (z.waiting / 5) + z.cells ≤ out → (step b (drain round out)).0 ≡ Taken
  unfolding answer_to fitting
  drain-fits round out room =
      let held = h.nursery in
      let bytes = drain-length n held.well.hashes held.well.ties z.settings.delay round in
      answer-is h (drain round out) ∙ rw (le-ltb out (length (drain_bytes z.settings.delay round n)) (omega (arith, bytes, room, held.rows_fit, held.cells_fit)))
