-- A turn of each loop over a delta's inserts that looks at their hashes.
-- Assumes nothing.
use Rattle.std.specs.Prelude.{◌≡◌, Bool, true, false, ◌||◌, List, [], ◌∷◌, map, ℕ, ◌+◌, ◌-◌, ◌≤◌, ◌<◌, length, drop, ltb, eqb}
use Rattle.std.proofs.Common.{refl, sym, arith, lt-ltb, le-ltb}
use Rattle.std.proofs.Math.Decide.{dec_lt}
use Rattle.base.specs.Logic.{any, elem, repeated}
use Rattle.rows.specs.declared.Wide.{Wide}
use Rattle.rows.specs.Wide.{key_of}
use Rattle.rows.proofs.WideLaws.{Words}
use Rattle.rows.proofs.RowLaws.{elem-hit}
use Rattle.cell_nursery.specs.Entries.{Entry}
use Rattle.cell_nursery.proofs.SearchLaws.{index-found, index-none}
use Rattle.cell_nursery.specs.Rows.{index_of}
use Rattle.delta_items.specs.Walk.{hash_in, insert_in, insert_len, inserts_in, inserts_from}
use Rattle.delta_items.specs.WalkLaws.{inserts-turn, inserts-done}

-- a key is among keys where a search finds it before their end
pub found-elem : (h n k : ℕ) (ks : List ℕ) → length ks ≡ n → k ≡ index_of h ks → ltb k n ≡ elem h ks
found-elem h n k ks l e =
    elim (dec_lt k n) [
      | yes p ↦ rw (lt-ltb k n p) (sym (elem-hit h ks k (omega arith) (rw e (index-found h ks (omega arith)))))
      | no p ↦ rw (le-ltb k n (omega arith)) (sym (index-none h ks (omega arith)))
    ]

-- a call of a closure on a key answers what g says of its number
abbrev pub Tells : (Wide → Bool → Type 0) → (ℕ → Bool) → Type 0
Tells post g = (k : Wide) → Words k → (b : Bool) → post k b → b ≡ g (key_of k)

module _ (w n i at : ℕ) (items : List ℕ) where
  abbrev behind : List Entry
  behind = inserts_from w n (i + 1) (at + insert_len w (drop at items)) items

  module _ (more : i < n) where
    -- what is told of an insert's hash
    pub told-turn : (g : ℕ → Bool) → any (λ e. g e.hash) (inserts_from w n i at items) ≡ (g (hash_in (drop at items)) || any (λ e. g e.hash) behind)
    unfolding any insert_in
    told-turn g = rw (inserts-turn w n i at 0 items more)

    -- by what a call on its hash answered: yes, or what is told of those behind it
    module _ (g : ℕ → Bool) (k : Wide) (b : Bool) (here : key_of k ≡ hash_in (drop at items)) (tells : b ≡ g (key_of k)) where
      pub told-yes : b ≡ true → true ≡ any (λ e. g e.hash) (inserts_from w n i at items)
      told-yes e = sym (rw (← here, ← tells, e) at (told-turn g))

      pub told-no : b ≡ false → any (λ e. g e.hash) behind ≡ any (λ e. g e.hash) (inserts_from w n i at items)
      told-no e = sym (rw (← here, ← tells, e) at (told-turn g))

    -- an insert's hash among keys
    pub stored-turn : (ks : List ℕ) → any (λ e. elem e.hash ks) (inserts_from w n i at items) ≡ (elem (hash_in (drop at items)) ks || any (λ e. elem e.hash ks) behind)
    stored-turn ks = told-turn (λ h. elem h ks)

    -- a hash among the inserts' hashes
    pub named-turn : (h : ℕ) → elem h (map (λ e. e.hash) (inserts_from w n i at items)) ≡ (eqb h (hash_in (drop at items)) || elem h (map (λ e. e.hash) behind))
    unfolding any insert_in
    named-turn h = rw (inserts-turn w n i at 0 items more)

    -- a hash that comes again
    pub repeated-turn : repeated (map (λ e. e.hash) (inserts_from w n i at items)) ≡ (elem (hash_in (drop at items)) (map (λ e. e.hash) behind) || repeated (map (λ e. e.hash) behind))
    unfolding repeated insert_in
    repeated-turn = rw (inserts-turn w n i at 0 items more)

  pub told-done : n ≤ i → (g : ℕ → Bool) → any (λ e. g e.hash) (inserts_from w n i at items) ≡ false
  unfolding any
  told-done h g = rw (inserts-done w n i at 0 items h)

  pub stored-done : n ≤ i → (ks : List ℕ) → any (λ e. elem e.hash ks) (inserts_from w n i at items) ≡ false
  stored-done h ks = told-done h (λ x. elem x ks)

  pub named-done : n ≤ i → (h : ℕ) → elem h (map (λ e. e.hash) (inserts_from w n i at items)) ≡ false
  unfolding any
  named-done l h = rw (inserts-done w n i at 0 items l)

  pub repeated-done : n ≤ i → repeated (map (λ e. e.hash) (inserts_from w n i at items)) ≡ false
  unfolding repeated
  repeated-done h = rw (inserts-done w n i at 0 items h)

-- all inserts are those from the first on
pub from-start : (w n : ℕ) (items : List ℕ) → inserts_from w n 0 0 items ≡ inserts_in w n items
from-start w n items =
    let z : n - 0 ≡ n = omega arith in
    rw z

-- a hash among the inserts' hashes is one that an insert has
pub named-any : (h : ℕ) (es : List Entry) → any (λ e. eqb h e.hash) es ≡ elem h (map (λ e. e.hash) es)
unfolding any
named-any h [] = refl
named-any h (e ∷ es) = rw (named-any h es)

-- what is left of a room is too little
pub room-short : (a b c : ℕ) → b ≤ a → ltb (a - b) c ≡ ltb a (b + c)
room-short a b c h =
    elim (dec_lt (a - b) c) [
      | yes p ↦ rw (lt-ltb (a - b) c p, lt-ltb a (b + c) (omega arith))
      | no p ↦ rw (le-ltb (a - b) c (omega arith), le-ltb a (b + c) (omega arith))
    ]
