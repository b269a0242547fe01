-- The lowest large index from lo on is also the lowest from a higher place on, as long as that place doesn't pass it.
-- Assumes nothing.
use Rattle.std.specs.Prelude.{◌≡◌, refl, Bool, true, false, ◌&&◌, List, [], ◌∷◌, ℕ, zero, suc, ◌≤◌, ◌<◌, ltb, Option}
use Rattle.std.specs.Option.{is_some}
use Rattle.std.proofs.Common.{sym, ap, ◌∙◌, subst, arith, ltb-false, lt-ltb, le-ltb}
use Rattle.std.proofs.lemmas.Bool.{false≢true}
use Rattle.std.proofs.Math.Decide.{dec_le}
use Rattle.base.specs.Logic.{pick, fold}
use Rattle.counters.specs.Counts.{Entry}
use Rattle.snapshot_tiers.specs.declared.Head.{Head}
use Rattle.snapshot_tiers.specs.Heads.{HeadTo, no_head, lower_from, head_at, idx_of}

-- the head that an entry makes
abbrev at : Entry → Option Head
at e = head_at e.idx e.count

-- what a test says beside one that holds
right : (a b : Bool) → a ≡ true → (a && b) ≡ false → b ≡ false
right true b e z = z
right false b e z = absurd (false≢true e)

-- what is found is never higher than before
step-lowers : (lo : ℕ) (e : Entry) (h : Option Head) → is_some h ≡ true → (is_some (lower_from lo e h) ≡ true) × ((idx_of (lower_from lo e h)) ≤ idx_of h)
step-lowers lo e h f = go (ltb e.idx lo) (is_some h && ltb (idx_of h) e.idx) (λ z. ltb-false (idx_of h) e.idx (right (is_some h) (ltb (idx_of h) e.idx) f z))
  where
    go : (p q : Bool) → (q ≡ false → e.idx ≤ idx_of h)
        → (is_some (pick p h (pick q h (at e))) ≡ true) × ((idx_of (pick p h (pick q h (at e)))) ≤ idx_of h)
    go true q g = (f, omega arith)
    go false true g = (f, omega arith)
    go false false g = (refl, g refl)

lowers : (lo : ℕ) (raw : List Entry) (h : Option Head) → is_some h ≡ true → (is_some (fold (lower_from lo) raw h) ≡ true) × (idx_of (fold (lower_from lo) raw h) ≤ idx_of h)
unfolding fold
lowers lo [] h f = (f, omega arith)
lowers lo (e ∷ raw) h f =
    let s = step-lowers lo e h f in
    let r = lowers lo raw (lower_from lo e h) s.0 in
    (r.0, omega arith)

-- an entry up to x, taken from lo on
taken-low : (lo x : ℕ) (e : Entry) (h : Option Head) → (is_some h ≡ true → x < idx_of h) → lo ≤ e.idx → e.idx ≤ x → lower_from lo e h ≡ at e
taken-low lo x e h above l u = rw (le-ltb e.idx lo l) (go (is_some h) refl)
  where
    go : (q : Bool) → is_some h ≡ q → pick (q && ltb (idx_of h) e.idx) h (at e) ≡ at e
    go true f = let a = above f in rw (le-ltb (idx_of h) e.idx (omega arith))
    go false f = refl

-- an entry above x
above_step : (x : ℕ) (e : Entry) (h : Option Head) → (is_some h ≡ true → x < idx_of h) → x < e.idx
    → (is_some (pick (is_some h && ltb (idx_of h) e.idx) h (at e)) ≡ true → x < idx_of (pick (is_some h && ltb (idx_of h) e.idx) h (at e)))
above_step x e h above g = go (is_some h && ltb (idx_of h) e.idx)
  where
    go : (q : Bool) → is_some (pick q h (at e)) ≡ true → x < (idx_of (pick q h (at e)))
    go true f = above f
    go false f = g

stays : (lo x : ℕ) → lo ≤ suc x → (raw : List Entry) (h : Option Head) → (is_some h ≡ true → x < idx_of h)
    → (is_some (fold (lower_from lo) raw h) ≡ true → x < idx_of (fold (lower_from lo) raw h)) → fold (lower_from lo) raw h ≡ fold (lower_from (suc x)) raw h
unfolding fold
stays lo x g [] h above last = refl
stays lo x g (e ∷ raw) h above last =
    elim (dec_le lo e.idx) [
      | yes l ↦
          elim (dec_le e.idx x) [
            | yes u ↦
                let low = taken-low lo x e h above l u in
                let f = lowers lo raw (lower_from lo e h) (ap (λ (k : Option Head). is_some k) low) in
                let i = ap (λ (k : Option Head). idx_of k) low in
                let b = last f.0 in
                absurd (omega arith)
            | no u ↦
                let p : lower_from lo e h ≡ lower_from (suc x) e h = rw (le-ltb e.idx lo l, le-ltb e.idx (suc x) (omega arith)) in
                let q : lower_from lo e h ≡ pick (is_some h && ltb (idx_of h) e.idx) h (at e) = rw (le-ltb e.idx lo l) in
                stays lo x g raw (lower_from lo e h) (subst (λ (k : Option Head). is_some k ≡ true → x < idx_of k) (sym q) (above_step x e h above (omega arith))) last
                ∙ ap (fold (lower_from (suc x)) raw) p
          ]
      | no l ↦
          let p : lower_from lo e h ≡ h = rw (lt-ltb e.idx lo (omega arith)) in
          let q : h ≡ lower_from (suc x) e h = rw (lt-ltb e.idx (suc x) (omega arith)) in
          ap (fold (lower_from lo) raw) p
          ∙ stays lo x g raw h above (subst (λ (k : Option Head). is_some (fold (lower_from lo) raw k) ≡ true → x < idx_of (fold (lower_from lo) raw k)) p last)
          ∙ ap (fold (lower_from (suc x)) raw) q
    ]

pub head-stays : (lo : ℕ) (raw : List Entry) (b : Option Head) → HeadTo lo raw b → (is_some b ≡ true → lo ≤ idx_of b) → b ≡ fold (lower_from lo) raw no_head
head-stays zero raw b t above = let z : t.from ≡ 0 = (let l = t.below in omega arith) in t.is ∙ ap (λ (k : ℕ). fold (lower_from k) raw no_head) z
head-stays (suc x) raw b t above =
    t.is
    ∙ stays t.from x t.below raw no_head (λ f. absurd (false≢true f)) (subst (λ (k : Option Head). is_some k ≡ true → x < idx_of k) t.is above)
