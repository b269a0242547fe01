-- When an operation made of refusing steps ends with a refusal or a value: for any steps.
-- Assumes nothing.
use Rattle.std.specs.Prelude.{◌≡◌, refl, ◌↔◌, Bool, ◌||◌, List, [], ◌∷◌, ◌++◌, ℕ, eqb}
use Rattle.std.proofs.Common.{sym, ap, ◌∙◌, arith, eq-eqb}
use Rattle.std.proofs.Math.Bool.{true, false, or-true}
use Rattle.std.proofs.lemmas.Bool.{false≢true}
use Rattle.base.specs.Logic.{any, elem}
use Rattle.base.specs.Answers.{Outcome, refused, taken, ◌>>=◌, ◌>>◌, refuse_if, number_of, either, answer_of, Refused}
use Rattle.base.specs.declared.Refusal.{Refusal}

-- an element of two lists together
elem-front : (n : ℕ) (ns ms : List ℕ) → elem n ns ≡ true → elem n (ns ++ ms) ≡ true
unfolding any
elem-front n [] ms e = absurd (false≢true e)
elem-front n (m ∷ ns) ms e = go (eqb n m) (elem-front n ns ms) e
  where
    go : (b : Bool) → (elem n ns ≡ true → elem n (ns ++ ms) ≡ true) → (b || elem n ns) ≡ true → (b || elem n (ns ++ ms)) ≡ true
    go true more f = refl
    go false more f = more f

elem_back : (n : ℕ) (ns ms : List ℕ) → elem n ms ≡ true → elem n (ns ++ ms) ≡ true
unfolding any
elem_back n [] ms e = e
elem_back n (m ∷ ns) ms e = rw (elem_back n ns ms e) (or-true (eqb n m))

module _ {B : Type 0} where
  -- refusals with two numbers are two, and no refusal is a value
  pub other-number : {r q : Refusal} → (number_of r ≡ number_of q → ⊥) → ◌≡◌ {A = Outcome B} (refused r) (refused q) → ⊥
  other-number h e = h (ap (either number_of (λ a. 0)) e)

  pub refused-taken : {r : Refusal} {a : B} → ◌≡◌ {A = Outcome B} (refused r) (taken a) → ⊥
  refused-taken e = let z : ◌≡◌ {A = ℕ} 0 1 = cc in omega arith

  pub taken_refused : {r : Refusal} {a : B} → ◌≡◌ {A = Outcome B} (taken a) (refused r) → ⊥
  taken_refused e = refused-taken (sym e)

  pub taken-same : (a b : B) → (◌≡◌ {A = Outcome B} (taken a) (taken b)) ↔ (b ≡ a)
  taken-same a b = (λ e. cc, λ e. ap taken (sym e))

  -- a step that was passed: its test failed, and the later steps gave the value
  pub passed : (b : Bool) (r : Refusal) (o : Outcome B) (a : B) → (refuse_if b r >> o) ≡ taken a → (b ≡ false) × (o ≡ taken a)
  passed true r o a e = absurd (refused-taken e)
  passed false r o a e = (refl, e)

  -- a step ends it exactly where its test passes, if no later step ends it so
  pub ends-here : {P : Type 0} {b : Bool} {r : Refusal} {o : Outcome B} → (b ≡ true) ↔ P → (o ≡ refused r → ⊥) → ((refuse_if b r >> o) ≡ refused r) ↔ P
  ends-here {P} {b} {r} {o} test none = go b test
    where
      go : (c : Bool) → (c ≡ true) ↔ P → ((refuse_if c r >> o) ≡ refused r) ↔ P
      go true t = (λ e. t.0 refl, λ p. refl)
      go false t = (λ e. absurd (none e), λ p. absurd (false≢true (t.1 p)))

  -- what a step doesn't end comes about exactly where its test fails and the later steps come to it
  pub ends-later : {P Q : Type 0} {b : Bool} {r : Refusal} {o w : Outcome B} → (b ≡ true) ↔ P → (refused r ≡ w → ⊥) → (o ≡ w) ↔ Q
      → ((refuse_if b r >> o) ≡ w) ↔ ((¬ P) × Q)
  ends-later {P} {Q} {b} {r} {o} {w} test other rest = go b test
    where
      go : (c : Bool) → (c ≡ true) ↔ P → ((refuse_if c r >> o) ≡ w) ↔ ((¬ P) × Q)
      go true t = (λ e. absurd (other e), λ p. absurd (p.0 (t.0 refl)))
      go false t = (λ e. ((λ p. false≢true (t.1 p)), rest.0 e), λ p. rest.1 p.1)

  -- what no step ends never comes about
  pub never_ends : {P : Type 0} {b : Bool} {r : Refusal} {o w : Outcome B} → (b ≡ true) ↔ P → (refused r ≡ w → ⊥) → (o ≡ w → ⊥) → (refuse_if b r >> o) ≡ w → ⊥
  never_ends {b = b} {r} {o} {w} test other none = go b
    where
      go : (c : Bool) → (refuse_if c r >> o) ≡ w → ⊥
      go true e = other e
      go false e = none e

  -- the numbers that refusals can have: those of the steps
  abbrev pub Refuses : List ℕ → Outcome B → Type 0
  Refuses ns o = (q : Refusal) → o ≡ refused q → elem (number_of q) ns ≡ true

  pub refuses-none : (ns : List ℕ) (a : B) → Refuses ns (taken a)
  refuses-none ns a q e = absurd (taken_refused e)

  pub refuses-step : {P : Type 0} {b : Bool} {o : Outcome B} (r : Refusal) (ns : List ℕ) → (b ≡ true) ↔ P → Refuses ns o → Refuses (number_of r ∷ ns) (refuse_if b r >> o)
  unfolding any
  refuses-step {b = b} {o} r ns test rest q = go b
    where
      go : (c : Bool) → (refuse_if c r >> o) ≡ refused q → (eqb (number_of q) (number_of r) || elem (number_of q) ns) ≡ true
      go true e = rw (eq-eqb (number_of q) (number_of r) (sym (ap (either number_of (λ a. 0)) e)))
      go false e = rw (rest q e) (or-true (eqb (number_of q) (number_of r)))

-- ---- a last step that tests what came about
module _ {A : Type 0} (test : A → Bool) (r : Refusal) where
  abbrev last : A → Outcome A
  last a = refuse_if (test a) r >> taken a

  -- the refusals but its own are those of the steps before it
  pub last-other : {q : Refusal} (o : Outcome A) → (number_of r ≡ number_of q → ⊥) → ((o >>= last) ≡ refused q) ↔ (o ≡ refused q)
  last-other (refused p) other = (λ e. e, λ e. e)
  last-other (taken a) other = (λ e. absurd (never_ends {P = test a ≡ true} (λ t. t, λ t. t) (other-number other) taken_refused e), λ e. absurd (taken_refused e))

  -- its own comes about exactly where they give something that it is for
  pub last-refused : (o : Outcome A) → (o ≡ refused r → ⊥) → ((o >>= last) ≡ refused r) ↔ ((a : A) × (o ≡ taken a) × (test a ≡ true))
  last-refused (refused p) before = (λ e. absurd (before e), λ (a, e, t). absurd (refused-taken e))
  last-refused (taken a) before =
      ((λ e. (a, refl, (ends-here {P = test a ≡ true} (λ t. t, λ t. t) taken_refused).0 e)), λ (x, e, t). rw (ap test (sym ((taken-same a x).0 e)) ∙ t))

  pub last_taken : (o : Outcome A) (x : A) → ((o >>= last) ≡ taken x) ↔ ((o ≡ taken x) × (test x ≡ false))
  last_taken (refused p) x = (λ e. absurd (refused-taken e), λ e. absurd (refused-taken e.0))
  last_taken (taken a) x = (to, λ (e, f). let same = (taken-same a x).0 e in rw (← same, f))
    where
      to : last a ≡ taken x → (taken a ≡ taken x) × (test x ≡ false)
      to e = let (f, same) = passed (test a) r (taken a) x e in (same, rw ((taken-same a x).0 same) f)

  -- the numbers: theirs, and then its own
  pub last-numbers : (ns : List ℕ) (o : Outcome A) → Refuses ns o → Refuses (ns ++ (number_of r ∷ [])) (o >>= last)
  last-numbers ns (refused p) before q e = elem-front (number_of q) ns (number_of r ∷ []) (before q e)
  last-numbers ns (taken a) before q e = elem_back (number_of q) ns (number_of r ∷ []) (refuses-step {P = test a ≡ true} r [] (λ t. t, λ t. t) (refuses-none [] a) q e)

-- ---- conditions side by side
module _ {X A B C : Type 0} where
  pub flat-three : X ↔ (A × (B × C)) → X ↔ (A × B × C)
  flat-three h = (λ x. let p = h.0 x in (p.0, p.1.0, p.1.1), λ p. h.1 (p.0, (p.1, p.2)))

  module _ {D : Type 0} where
    pub flat-four : X ↔ (A × (B × (C × D))) → X ↔ (A × B × C × D)
    flat-four h = (λ x. let p = h.0 x in (p.0, p.1.0, p.1.1.0, p.1.1.1), λ p. h.1 (p.0, (p.1, (p.2, p.3))))

    module _ {E : Type 0} where
      pub flat-five : X ↔ (A × (B × (C × (D × E)))) → X ↔ (A × B × C × D × E)
      flat-five h = (λ x. let p = h.0 x in (p.0, p.1.0, p.1.1.0, p.1.1.1.0, p.1.1.1.1), λ p. h.1 (p.0, (p.1, (p.2, (p.3, p.4)))))

      pub flat-six : {F : Type 0} → X ↔ (A × (B × (C × (D × (E × F))))) → X ↔ (A × B × C × D × E × F)
      flat-six h = (λ x. let p = h.0 x in (p.0, p.1.0, p.1.1.0, p.1.1.1.0, p.1.1.1.1.0, p.1.1.1.1.1), λ p. h.1 (p.0, (p.1, (p.2, (p.3, (p.4, p.5))))))

-- ---- the answer to an outcome
module _ {B : Type 0} where
  pub answer-refused : (o : Outcome B) (r : Refusal) → (answer_of o ≡ Refused r) ↔ (o ≡ refused r)
  answer-refused (refused q) r = (λ e. cc, λ e. ap answer_of e)
  answer-refused (taken a) r = (λ e. let z : ◌≡◌ {A = ℕ} 0 1 = cc in absurd (omega arith), λ e. absurd (taken_refused e))
