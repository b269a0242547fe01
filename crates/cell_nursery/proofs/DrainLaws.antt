-- What draining hands out: the first waiting rows, each with the entry of its hash where the rounds agree.
-- Assumes nothing.
use Rattle.std.specs.Prelude.{◌≡◌, Bool, ℕ, suc, ◌+◌, ◌-◌, ◌≤◌, ◌<◌, take, drop, leb, ltb}
use Rattle.std.proofs.Math.Path.{refl, sym, ap, fun_ext}
use Rattle.std.proofs.Common.{◌∙◌, arith}
use Rattle.std.proofs.Math.Bool.{true, false, not}
use mathlib.Core.List.{List, [], ◌∷◌, ◌++◌, map}
use Rattle.std.proofs.Math.Decide.{dec_le, ℕ_discrete}
use Rattle.std.proofs.Math.Dec.{eqb}
use borrow.Author.Tests.{lt-ltb, le-ltb, le-leb, lt-leb, eq-eqb, ne_eqb, eqb-true}
use Rattle.base.specs.Logic.{pick, elem, flat, keep, ascending_from, sorted_from}
use Rattle.base.specs.Maybe.{maybe}
use Rattle.base.specs.Laws.{and_left, ascending-head, ascending-tail}
use Rattle.base.specs.ListLaws.{keep_append, keep-swap, keep-whole, keep-empty, all-kept}
use Rattle.rows.specs.Keys.{place}
use Rattle.rows.proofs.KeyLaws.{keep-below, keep-from}
use Rattle.rows.proofs.RowLaws.{keep-absent}
use Rattle.cell_nursery.specs.Entries.{Entry, Waiting, names}
use Rattle.cell_nursery.specs.Drain.{due, named}
use Rattle.cell_nursery.proofs.EntryLaws.{entry_at}

-- a row is due by its round alone
module _ (delay round : ℕ) where
  due_below : delay ≤ round → (w : Waiting) → due delay round w ≡ ltb w.born (suc (round - delay))
  unfolding due
  due_below h w =
      elim (dec_le (w.born + delay) round) [
        | yes g ↦ le-leb (w.born + delay) round g ∙ sym (lt-ltb w.born (suc (round - delay)) (omega arith))
        | no g ↦ lt-leb (w.born + delay) round (omega arith) ∙ sym (le-ltb w.born (suc (round - delay)) (omega arith))
      ]

  due-from : delay ≤ round → (w : Waiting) → not (due delay round w) ≡ leb (suc (round - delay)) w.born
  unfolding due
  due-from h w =
      elim (dec_le (w.born + delay) round) [
        | yes g ↦ ap not (le-leb (w.born + delay) round g) ∙ sym (lt-leb (suc (round - delay)) w.born (omega arith))
        | no g ↦ ap not (lt-leb (w.born + delay) round (omega arith)) ∙ sym (le-leb (suc (round - delay)) w.born (omega arith))
      ]

  -- the due rows are the first ones, and the others wait on
  module _ (ws : List Waiting) (o : sorted_from 0 (map (λ w. w.born) ws) ≡ true) (h : delay ≤ round) (k : ℕ) (here : k ≡ place (suc (round - delay)) (map (λ w. w.born) ws)) where
    pub due-first : keep (due delay round) ws ≡ take k ws
    due-first = ap (λ (p : Waiting → Bool). keep p ws) (fun_ext (due_below h)) ∙ keep-below (λ w. w.born) (suc (round - delay)) 0 ws o ∙ rw (← here)

    pub due-rest : keep (λ w. not (due delay round w)) ws ≡ drop k ws
    due-rest = ap (λ (p : Waiting → Bool). keep p ws) (fun_ext (due-from h)) ∙ keep-from (λ w. w.born) (suc (round - delay)) 0 ws o ∙ rw (← here)

  -- before the delay is over none is due
  module _ (h : round < delay) where
    pub due-none : (ws : List Waiting) → keep (due delay round) ws ≡ []
    unfolding keep due
    due-none [] = refl
    due-none (w ∷ ws) = rw (lt-leb (w.born + delay) round (omega arith)) (due-none ws)

    pub due-all-rest : (ws : List Waiting) → keep (λ w. not (due delay round w)) ws ≡ ws
    unfolding keep due
    due-all-rest [] = refl
    due-all-rest (w ∷ ws) = rw (lt-leb (w.born + delay) round (omega arith)) (ap (λ (l : List Waiting). w ∷ l) (due-all-rest ws))

-- a waiting row names the entry of its hash, where the rounds agree
pub named-above : (w : Waiting) (lo : ℕ) (es : List Entry) → w.hash < lo → ascending_from lo (map (λ e. e.hash) es) ≡ true → named es w ≡ []
unfolding named names keep
named-above w lo [] h o = refl
named-above w lo (e ∷ es) h o =
    let l = ascending-head lo e.hash (map (λ x. x.hash) es) o in
    rw (ne_eqb e.hash w.hash (omega arith)) (named-above w (suc e.hash) es (omega arith) (ascending-tail lo e.hash (map (λ x. x.hash) es) o))

pub named-entry_at : (w : Waiting) (lo : ℕ) (es : List Entry) → ascending_from lo (map (λ e. e.hash) es) ≡ true
    → named es w ≡ maybe [] (λ e. pick (eqb e.born w.born) (e ∷ []) []) (entry_at w.hash es)
unfolding named names keep entry_at
named-entry_at w lo [] o = refl
named-entry_at w lo (e ∷ es) o =
    let r = ascending-tail lo e.hash (map (λ x. x.hash) es) o in
    elim (ℕ_discrete e.hash w.hash) [
      | yes m ↦ rw (eq-eqb e.hash w.hash m, named-above w (suc e.hash) es (omega arith) r)
      | no m ↦ rw (ne_eqb e.hash w.hash m) (named-entry_at w (suc e.hash) es r)
    ]

-- ---- under a hash
module _ (h : ℕ) (es : List Entry) where
  -- a row names entries of its own hash
  named-hash : (w : Waiting) → keep (λ e. eqb e.hash h) (named es w) ≡ pick (eqb w.hash h) (named es w) []
  unfolding named names
  named-hash w =
      let q = names w in
      let own : (e : Entry) → q e ≡ true → e.hash ≡ w.hash = λ e t. eqb-true e.hash w.hash (and_left _ _ t) in
      elim (ℕ_discrete w.hash h) [
        | yes m ↦ rw (eq-eqb w.hash h m) (keep-whole (λ e. eqb e.hash h) q (λ e t. eq-eqb e.hash h (own e t ∙ m)) (keep q es) (all-kept q es))
        | no m ↦ rw (ne_eqb w.hash h m) (keep-empty (λ e. eqb e.hash h) q (λ e t. ne_eqb e.hash h (λ z. m (sym (own e t) ∙ z))) (keep q es) (all-kept q es))
      ]

  -- so what rows name under the hash, the hash's rows name
  pub named-rows : (ws : List Waiting) → keep (λ e. eqb e.hash h) (flat (named es) ws) ≡ flat (named es) (keep (λ w. eqb w.hash h) ws)
  unfolding flat keep
  named-rows [] = refl
  named-rows (w ∷ ws) = keep_append (λ e. eqb e.hash h) (named es w) (flat (named es) ws) ∙ rw (named-hash w, named-rows ws) (go (eqb w.hash h) (keep (λ x. eqb x.hash h) ws))
    where
      go : (b : Bool) (k : List Waiting) → pick b (named es w) [] ++ flat (named es) k ≡ flat (named es) (pick b (w ∷ k) k)
      go true k = refl
      go false k = refl

  -- and under one that has no entry nothing is named
  module _ (absent : elem h (map (λ e. e.hash) es) ≡ false) where
    none_named : (w : Waiting) → keep (λ e. eqb e.hash h) (named es w) ≡ []
    unfolding named keep
    none_named w = keep-swap (λ e. eqb e.hash h) (names w) es ∙ ap (λ (l : List Entry). keep (names w) l) (keep-absent (λ e. e.hash) h es absent)

    pub named-absent : (ws : List Waiting) → keep (λ e. eqb e.hash h) (flat (named es) ws) ≡ []
    unfolding flat keep
    named-absent [] = refl
    named-absent (w ∷ ws) = keep_append (λ e. eqb e.hash h) (named es w) (flat (named es) ws) ∙ rw (none_named w, named-absent ws)
