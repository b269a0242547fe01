-- Where each waiting row names an entry and no two name the same one (`tied`), the waiting rows, with those that were handed out, are the entries'
-- rows in some order, and the other way round. So there are never more waiting rows than entries, and as many where nothing was handed out.
-- Assumes nothing.
use Rattle.std.specs.Prelude.{◌≡◌, true, ℕ, suc, ◌+◌, ◌≤◌, length, eqb}
use Rattle.std.proofs.Math.Path.{refl}
use Rattle.std.proofs.Common.{sym, ap, ◌∙◌, arith, length-append}
use Rattle.std.proofs.Math.Bool.{Bool, false, not, or-true, or-false as or-none}
use Rattle.std.proofs.lemmas.Bool.{false≢true}
use mathlib.Core.List.{List, [], ◌∷◌, ◌++◌, map, append_assoc, map-append, map-map}
use mathlib.Core.List.Permᴰ.{cons as order-cons}
use mathlib.Core.List.Permᴰ.{nil as order-nil}
use mathlib.Core.List.Permᴰ.{trans as order_trans}
use mathlib.Core.List.{Permᴰ as Reordered}
use mathlib.Core.List.Permᴰ
use Rattle.std.proofs.Math.Decide.{ℕ_discrete}
use Rattle.std.proofs.lemmas.List.{length-map}
use borrow.Author.Tests.{eq-eqb, ne_eqb, eqb-true, eqb-false, not-true}
use Rattle.base.specs.Logic.{all, any, elem, keep, fold, repeated, ascending}
use Rattle.base.specs.Laws.{and_left, and_right, and_both}
use Rattle.base.specs.ListLaws.{or-false, any_order, all_left, all_weaker, keep_append, keep-empty, keep-order, length-order, repeated-order, eqb-sym}
use Rattle.base.specs.SumLaws.{all_map, keep-map}
use Rattle.rows.proofs.KeyLaws.{put_rows}
use Rattle.base.specs.OrderLaws.{two-parts, every, keep-either, all-order, ascending-once, once-left}
use Rattle.rows.proofs.RowLaws.{keep-absent}
use Rattle.rows.proofs.OrderLaws.{put-between, put-absent}
use Rattle.cell_nursery.specs.Entries.{Entry, Waiting, State, empty, names, tied, put_entry, insert, remove}
use Rattle.cell_nursery.specs.Items.{Delta}
use Rattle.cell_nursery.specs.Delta.{present, state_after}
use Rattle.cell_nursery.specs.Drain.{due, drained}
use Rattle.cell_nursery.proofs.PutLaws.{put_waiting-rows}
use Rattle.cell_nursery.specs.Held.{Absent}

-- ---- the waiting rows
-- the row of an entry that waits
abbrev pub waiter_for : Entry → Waiting
waiter_for e = record { born = e.born; hash = e.hash }

-- the waiting rows and those that are gone are the entries' rows
abbrev pub Waits : List Waiting → State → Type 0
Waits gone s = Reordered (s.waiting ++ gone) (map waiter_for s.entries)

pub waits-empty : Waits [] empty
unfolding empty
waits-empty = order-nil

pub waits-insert : (gone : List Waiting) (e : Entry) (s : State) → elem e.hash (map (λ x. x.hash) s.entries) ≡ false → Waits gone s → Waits gone (insert e s)
unfolding insert put_entry put_rows
waits-insert gone e s a w =
    rw (put_waiting-rows (waiter_for e) s.waiting)
    (order_trans (Permᴰ.append_right gone (put-between (λ x. x.born) (waiter_for e) s.waiting (suc e.born)))
    (order_trans (order-cons refl w) (Permᴰ.symm (Permᴰ.map waiter_for (put-absent (λ x. x.hash) e s.entries e.hash a)))))

pub waits-remove : (gone : List Waiting) (h : ℕ) (s : State) → Waits gone s → Waits (keep (λ w. not (eqb w.hash h)) gone) (remove h s)
unfolding remove
waits-remove gone h s w =
    let p : Waiting → Bool = λ x. not (eqb x.hash h) in
    rw (keep_append p s.waiting gone, keep-map p waiter_for s.entries) at (keep-order p w)

pub waits-drained : (delay round : ℕ) (gone : List Waiting) (s : State) → Waits gone s → Waits (keep (due delay round) s.waiting ++ gone) (drained delay round s)
unfolding drained
waits-drained delay round gone s w =
    let left : Waiting → Bool = λ x. not (due delay round x) in
    let parts = two-parts left (due delay round) (λ x. true) (λ x t. twice (due delay round x)) s.waiting (every s.waiting) in
    rw (← append_assoc (keep left s.waiting) (keep (due delay round) s.waiting) gone) (order_trans (Permᴰ.append_right gone parts) w)
  where
    twice : (b : Bool) → b ≡ not (not b)
    twice true = refl
    twice false = refl

-- ---- how many there are
module _ (gone : List Waiting) (s : State) (w : Waits gone s) where
  pub number-waits : length s.waiting + length gone ≡ length s.entries
  number-waits = sym (length-append s.waiting gone) ∙ length-order w ∙ length-map s.entries waiter_for

-- ---- what a waiting row is
module _ (gone : List Waiting) (s : State) (w : Waits gone s) where
  -- no hash waits twice
  pub waits-once : ascending (map (λ e. e.hash) s.entries) ≡ true → repeated (map (λ x. x.hash) s.waiting) ≡ false
  waits-once o =
      let all-rows : repeated (map (λ x. x.hash) (s.waiting ++ gone)) ≡ repeated (map (λ e. e.hash) s.entries) =
      repeated-order (Permᴰ.map (λ x. x.hash) w) ∙ ap repeated (map-map (λ x. x.hash) waiter_for s.entries) in
      once-left (map (λ x. x.hash) s.waiting) (map (λ x. x.hash) gone)
      (ap repeated (sym (map-append (λ x. x.hash) s.waiting gone)) ∙ all-rows ∙ ascending-once 0 (map (λ e. e.hash) s.entries) o)

  -- none of a hash that has no entry waits
  pub waits-absent : (h : ℕ) → elem h (map (λ e. e.hash) s.entries) ≡ false → keep (λ x. eqb x.hash h) s.waiting ≡ []
  waits-absent h a =
      let p : Waiting → Bool = λ x. eqb x.hash h in
      let none_left : length (keep p (map waiter_for s.entries)) ≡ 0 = ap length (keep-map p waiter_for s.entries ∙ ap (map waiter_for) (keep-absent (λ e. e.hash) h s.entries a)) in
      no_length (keep p s.waiting) (omega (arith, length-order (keep-order p w), none_left, ap length (keep_append p s.waiting gone), length-append (keep p s.waiting) (keep p gone)))
    where
      no_length : (xs : List Waiting) → length xs ≡ 0 → xs ≡ []
      no_length [] n = refl
      no_length (x ∷ xs) n = absurd (omega arith)

-- ---- they are tied exactly where they are the entries' rows

-- a row names no entry where its hash has none
unnamed : (w : Waiting) (es : List Entry) → elem w.hash (map (λ e. e.hash) es) ≡ false → any (names w) es ≡ false
unfolding any names
unnamed w [] a = refl
unnamed w (e ∷ es) a =
    let f = or-false (eqb w.hash e.hash) (elem w.hash (map (λ x. x.hash) es)) a in
    rw (eqb-sym e.hash w.hash, f.0) (unnamed w es f.1)

-- else it is the row of the one entry of its hash
row_named : (w : Waiting) (es : List Entry) → repeated (map (λ e. e.hash) es) ≡ false → any (names w) es ≡ true
    → map waiter_for (keep (λ e. eqb e.hash w.hash) es) ≡ w ∷ []
unfolding any names keep repeated
row_named w [] n a = absurd (false≢true a)
row_named w (e ∷ es) n a =
    let f = or-false (elem e.hash (map (λ x. x.hash) es)) (repeated (map (λ x. x.hash) es)) n in
    elim (ℕ_discrete e.hash w.hash) [
      | yes m ↦
          let absent : elem w.hash (map (λ x. x.hash) es) ≡ false = rw m at f.0 in
          let round = eqb-true e.born w.born (sym (or-none (eqb e.born w.born)) ∙ rw (eq-eqb e.hash w.hash m, unnamed w es absent) at a) in
          rw (eq-eqb e.hash w.hash m, keep-absent (λ x. x.hash) w.hash es absent, round, m)
      | no m ↦ rw (ne_eqb e.hash w.hash m) (row_named w es f.1 (rw (ne_eqb e.hash w.hash m) at a))
    ]

-- rows that name entries, no two the same, are the rows of those whose hashes they have
rows_named : (ws : List Waiting) (es : List Entry) → repeated (map (λ e. e.hash) es) ≡ false → all (λ w. any (names w) es) ws ≡ true → repeated (map (λ w. w.hash) ws) ≡ false
    → Reordered ws (map waiter_for (keep (λ e. elem e.hash (map (λ w. w.hash) ws)) es))
unfolding all any repeated
rows_named [] es n a r = rw (keep-empty {A = Entry} (λ e. false) (λ e. true) (λ e t. refl) es (every es)) order-nil
rows_named (w ∷ ws) es n a r =
    let f = or-false (elem w.hash (map (λ x. x.hash) ws)) (repeated (map (λ x. x.hash) ws)) r in
    let p : Entry → Bool = λ e. eqb e.hash w.hash in
    let q : Entry → Bool = λ e. elem e.hash (map (λ x. x.hash) ws) in
    let both = Permᴰ.map waiter_for (keep-either p q (λ e t. rw (eqb-true e.hash w.hash t) f.0) es) in
    order_trans (order-cons refl (rows_named ws es n (and_right (any (names w) es) _ a) f.1))
    (rw (map-append waiter_for (keep p es) (keep q es), row_named w es n (and_left _ _ a)) at both)

-- every entry's row names it
own-named : (es : List Entry) → all (λ e. any (names (waiter_for e)) es) es ≡ true
unfolding all any names
own-named [] = refl
own-named (x ∷ es) =
    rw (eq-eqb x.hash x.hash refl, eq-eqb x.born x.born refl)
    (all_weaker (λ e. any (names (waiter_for e)) (x ∷ es)) (λ e. any (names (waiter_for e)) es) (λ e t. rw t (or-true (names (waiter_for e) x))) es (own-named es))

-- the rows of the entries that don't wait
unfoldable pub gone_of : State → List Waiting
gone_of s = map waiter_for (keep (λ e. not (elem e.hash (map (λ w. w.hash) s.waiting))) s.entries)

module _ (s : State) (o : ascending (map (λ e. e.hash) s.entries) ≡ true) where
  pub tied-waits : tied s ≡ true → Waits (gone_of s) s
  unfolding tied gone_of
  tied-waits t =
      let p : Entry → Bool = λ e. elem e.hash (map (λ w. w.hash) s.waiting) in
      let rest : Entry → Bool = λ e. not (p e) in
      let once = not-true (repeated (map (λ w. w.hash) s.waiting)) (and_right (all (λ w. any (names w) s.entries) s.waiting) _ t) in
      let rows = rows_named s.waiting s.entries (ascending-once 0 (map (λ e. e.hash) s.entries) o) (and_left _ _ t) once in
      let both = Permᴰ.map waiter_for (two-parts p rest (λ e. true) (λ e x. refl) s.entries (every s.entries)) in
      order_trans (Permᴰ.append_right (map waiter_for (keep rest s.entries)) rows)
      (rw (map-append waiter_for (keep p s.entries) (keep rest s.entries)) at both)

  -- so there are no more waiting rows than entries
  pub tied-few : tied s ≡ true → length s.waiting ≤ length s.entries
  tied-few t = omega (arith, number-waits (gone_of s) s (tied-waits t))

  -- and none of a hash that has no entry waits
  pub tied-absent : tied s ≡ true → (h : ℕ) → elem h (map (λ e. e.hash) s.entries) ≡ false → keep (λ x. eqb x.hash h) s.waiting ≡ []
  tied-absent t h a = waits-absent (gone_of s) s (tied-waits t) h a

  pub waits-tied : (gone : List Waiting) → Waits gone s → tied s ≡ true
  unfolding tied
  waits-tied gone w =
      let p : Waiting → Bool = λ x. any (names x) s.entries in
      and_both _ _ (all_left p s.waiting gone (all-order p w ∙ all_map p waiter_for s.entries ∙ own-named s.entries)) (ap not (waits-once gone s w o))

-- ---- a whole delta
-- after an insert of an absent hash another one is still absent
absent-insert : (h : ℕ) (e : Entry) (s : State) → elem e.hash (map (λ x. x.hash) s.entries) ≡ false → (h ≡ e.hash → ⊥)
    → elem h (map (λ x. x.hash) s.entries) ≡ false → elem h (map (λ x. x.hash) (insert e s).entries) ≡ false
unfolding insert put_entry put_rows any
absent-insert h e s b ne a =
    any_order (eqb h) (Permᴰ.map (λ x. x.hash) (put-absent (λ x. x.hash) e s.entries e.hash b)) ∙ rw (ne_eqb h e.hash ne) a

pub present-absent : (s : State) (d : Delta) → present s d ≡ false → Absent d.inserts s
unfolding present
present-absent s d p = or-false (any (λ e. elem e.hash (map (λ x. x.hash) s.entries)) d.inserts) (repeated (map (λ e. e.hash) d.inserts)) p

module _ (e : Entry) (is : List Entry) (s : State) (a : Absent (e ∷ is) s) where
  pub first_absent : elem e.hash (map (λ x. x.hash) s.entries) ≡ false
  unfolding any
  first_absent = (or-false (elem e.hash (map (λ y. y.hash) s.entries)) (any (λ x. elem x.hash (map (λ y. y.hash) s.entries)) is) a.0).0

  -- after the first insert the others are still absent
  pub still-absent : Absent is (insert e s)
  unfolding any repeated
  still-absent =
      let f = or-false (elem e.hash (map (λ y. y.hash) s.entries)) (any (λ x. elem x.hash (map (λ y. y.hash) s.entries)) is) a.0 in
      let g = or-false (elem e.hash (map (λ x. x.hash) is)) (repeated (map (λ x. x.hash) is)) a.1 in
      (go is g.0 f.1, g.1)
    where
      go : (js : List Entry) → elem e.hash (map (λ x. x.hash) js) ≡ false → any (λ x. elem x.hash (map (λ y. y.hash) s.entries)) js ≡ false
          → any (λ x. elem x.hash (map (λ y. y.hash) (insert e s).entries)) js ≡ false
      go [] n b = refl
      go (j ∷ js) n b =
          let f = or-false (eqb e.hash j.hash) (elem e.hash (map (λ x. x.hash) js)) n in
          let g = or-false (elem j.hash (map (λ y. y.hash) s.entries)) (any (λ x. elem x.hash (map (λ y. y.hash) s.entries)) js) b in
          rw (absent-insert j.hash e s first_absent (λ q. eqb-false e.hash j.hash f.0 (sym q)) g.0) (go js f.1 g.1)

waits-inserts : (gone : List Waiting) (is : List Entry) (s : State) → Absent is s → Waits gone s → Waits gone (fold insert is s)
unfolding fold
waits-inserts gone [] s a w = w
waits-inserts gone (e ∷ is) s a w = waits-inserts gone is (insert e s) (still-absent e is s a) (waits-insert gone e s (first_absent e is s a) w)

-- of the rows that were handed out, those whose hashes are not removed
unfoldable pub still_gone : List ℕ → List Waiting → List Waiting
still_gone hs gone = fold (λ h. keep (λ w. not (eqb w.hash h))) hs gone

pub none-gone : (hs : List ℕ) → still_gone hs [] ≡ []
unfolding still_gone fold keep
none-gone [] = refl
none-gone (h ∷ hs) = none-gone hs

waits-removes : (gone : List Waiting) (hs : List ℕ) (s : State) → Waits gone s → Waits (still_gone hs gone) (fold remove hs s)
unfolding fold still_gone
waits-removes gone [] s w = w
waits-removes gone (h ∷ hs) s w = waits-removes (keep (λ x. not (eqb x.hash h)) gone) hs (remove h s) (waits-remove gone h s w)

pub waits-after : (gone : List Waiting) (d : Delta) (s : State) → present s d ≡ false → Waits gone s → Waits (still_gone d.removes gone) (state_after d s)
unfolding state_after
waits-after gone d s p w = waits-removes gone d.removes (fold insert d.inserts s) (waits-inserts gone d.inserts s (present-absent s d p) w)
