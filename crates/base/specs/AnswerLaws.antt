-- When an operation made of refusing steps ends so: a step met twice, a value that may be missing, bytes for an output, the call's answer, and a test before a call.
-- Assumes nothing.
use Rattle.std.specs.Prelude.{◌≡◌, refl, ◌↔◌, ◌⊎◌, Bool, not, ◌&&◌, ℕ, ◌<◌, length, eqb}
use Rattle.std.proofs.Common.{sym, ◌∙◌, inl, inr, true≢false, arith, eq-eqb}
use Rattle.std.proofs.Math.Path.{ap}
use Rattle.std.proofs.Math.Bool.{true, false, false≢true, or-true}
use Rattle.std.proofs.Math.Option.{Option, none, some}
use mathlib.Core.List.{List, [], ◌∷◌}
use Rattle.base.specs.Logic.{pick, any, elem}
use Rattle.base.specs.ListLaws.{ltb-lt}
use Rattle.base.specs.Answers.{Outcome, refused, taken, ◌>>=◌, ◌>>◌, refuse_if, or_refuse, either, answer_of, number_of, answer_number, Answer, Taken, Refused}
use Rattle.base.specs.OutcomeLaws.{answer-refused, other-number, taken_refused, ends-here, ends-later, Refuses, refuses-none, refuses-step}
use Rattle.base.specs.Output.{fitting}
use Rattle.base.specs.declared.Refusal.{Refusal}
use Rattle.base.specs.declared.Refusal.TheVariants.{OutputFull, Broken}

-- a test that is asked the other way round
pub not_test : (b : Bool) → (not b ≡ true) ↔ (b ≡ false)
not_test true = (λ e. absurd (false≢true e), λ e. absurd (true≢false e))
not_test false = (λ e. refl, λ e. refl)

-- a pair of tests fails exactly where one of them does
pub and-fails : (a b : Bool) → (a && b ≡ false) ↔ ((a ≡ false) ⊎ (b ≡ false))
and-fails true b = (λ e. inr e, λ s. elim s [ inl e ↦ absurd (true≢false e) | inr e ↦ e ])
and-fails false b = (λ e. inl refl, λ s. refl)

-- what is so exactly where P is, and P exactly where Q is
pub exactly : {X P Q : Type 0} → X ↔ P → P ↔ Q → X ↔ Q
exactly f g = (λ x. g.0 (f.0 x), λ q. f.1 (g.1 q))

-- a refusal that a later step gives too
pub ends-twice : {B P Q : Type 0} {b : Bool} {r : Refusal} {o : Outcome B} → (b ≡ true) ↔ P → (o ≡ refused r) ↔ Q → ((refuse_if b r >> o) ≡ refused r) ↔ (P ⊎ ((¬ P) × Q))
ends-twice {B} {P} {Q} {b} {r} {o} test rest = go b test
  where
    go : (c : Bool) → (c ≡ true) ↔ P → ((refuse_if c r >> o) ≡ refused r) ↔ (P ⊎ ((¬ P) × Q))
    go true t = (λ e. inl (t.0 refl), λ s. refl)
    go false t = (
      λ e. inr ((λ p. false≢true (t.1 p)), rest.0 e),
      λ s. elim s [ inl p ↦ absurd (false≢true (t.1 p)) | inr p ↦ rest.1 p.1 ],
    )

-- ---- a value that may be missing
some-none : {A : Type 0} {a : A} → some a ≡ none → ⊥
some-none e = let z : ◌≡◌ {A = ℕ} 0 1 = cc in omega arith

module _ {A B : Type 0} (r : Refusal) (o : Option A) (f : A → Outcome B) where
  -- its refusal comes exactly where it is missing, if no later step gives it
  pub missing-here : ((a : A) → f a ≡ refused r → ⊥) → ((or_refuse r o >>= f) ≡ refused r) ↔ (o ≡ none)
  missing-here other = go o
    where
      go : (p : Option A) → ((or_refuse r p >>= f) ≡ refused r) ↔ (p ≡ none)
      go none = (λ e. refl, λ e. refl)
      go (some a) = (λ e. absurd (other a e), λ e. absurd (some-none e))

  -- another outcome comes exactly where it is there and the later steps come to it
  pub missing-later : {w : Outcome B} → (refused r ≡ w → ⊥) → ((or_refuse r o >>= f) ≡ w) ↔ ((a : A) × (o ≡ some a) × (f a ≡ w))
  missing-later {w} other = (to o refl, λ (a, i, e). rw i e)
    where
      to : (p : Option A) → o ≡ p → (or_refuse r p >>= f) ≡ w → (a : A) × (o ≡ some a) × (f a ≡ w)
      to none i e = absurd (other e)
      to (some a) i e = (a, i, e)

  pub missing-numbers : (ns : List ℕ) → ((a : A) → Refuses ns (f a)) → Refuses (number_of r ∷ ns) (or_refuse r o >>= f)
  unfolding any
  missing-numbers ns inner q = go o
    where
      go : (p : Option A) → (or_refuse r p >>= f) ≡ refused q → elem (number_of q) (number_of r ∷ ns) ≡ true
      go none e = rw (eq-eqb (number_of q) (number_of r) (sym (ap (either number_of (λ x. 0)) e)))
      go (some a) e = rw (inner a q e) (or-true (eqb (number_of q) (number_of r)))

-- ---- bytes for an output
-- the room is asked for last
fitting-step : (room : ℕ) (b : Bool) (r : Refusal) (o : Outcome (List ℕ)) → fitting room (refuse_if b r >> o) ≡ (refuse_if b r >> fitting room o)
unfolding fitting
fitting-step room true r o = refl
fitting-step room false r o = refl

module _ (room : ℕ) (bs : List ℕ) where
  pub output-full : (fitting room (taken bs) ≡ refused OutputFull) ↔ (room < length bs)
  unfolding fitting
  output-full = ends-here (ltb-lt room (length bs)) taken_refused

  pub output-numbers : Refuses (15 ∷ []) (fitting room (taken bs))
  unfolding fitting
  output-numbers = refuses-step OutputFull [] (ltb-lt room (length bs)) (refuses-none [] bs)

  -- on tables that pass a check, or don't
  module _ (held : Bool) where
    abbrev pub lent_to : Outcome (List ℕ)
    lent_to = fitting room (refuse_if (not held) Broken >> taken bs)

    pub lent-broken : (lent_to ≡ refused Broken) ↔ (held ≡ false)
    unfolding any
    lent-broken = rw (fitting-step room (not held) Broken (taken bs)) (ends-here (not_test held) (λ e. false≢true (output-numbers Broken e)))

    pub lent-full : (lent_to ≡ refused OutputFull) ↔ ((held ≡ true) × (room < length bs))
    lent-full =
        exactly {P = (¬ (held ≡ false)) × (room < length bs)} (rw (fitting-step room (not held) Broken (taken bs)) (ends-later (not_test held) (other-number (omega arith)) output-full))
        ((λ p. (holds held p.0, p.1)), λ p. ((λ e. true≢false (sym p.0 ∙ e)), p.1))
      where
        holds : (b : Bool) → ¬ (b ≡ false) → b ≡ true
        holds true n = refl
        holds false n = absurd (n refl)

    pub lent-numbers : Refuses (20 ∷ 15 ∷ []) lent_to
    lent-numbers = rw (fitting-step room (not held) Broken (taken bs)) (refuses-step Broken (15 ∷ []) (not_test held) output-numbers)

-- ---- answers
-- one that is taken is no refusal
pub not-refused : {r : Refusal} → Taken ≡ Refused r → ⊥
not-refused e = let z : ◌≡◌ {A = ℕ} 0 1 = cc in omega arith

-- an answer that is an outcome's is a refusal exactly where the outcome is
pub says : {A P : Type 0} {a : Answer} {r : Refusal} (o : Outcome A) → a ≡ answer_of o → (o ≡ refused r) ↔ P → (a ≡ Refused r) ↔ P
says {r = r} o e f = (λ q. f.0 ((answer-refused o r).0 (sym e ∙ q)), λ p. e ∙ (answer-refused o r).1 (f.1 p))

-- the numbers that an answer can have
abbrev pub Answers : List ℕ → Answer → Type 0
Answers ns a = (q : Refusal) → a ≡ Refused q → elem (number_of q) ns ≡ true

-- they are its outcome's
pub says-numbers : {A : Type 0} {a : Answer} (ns : List ℕ) (o : Outcome A) → a ≡ answer_of o → Refuses ns o → Answers ns a
says-numbers ns o e f q p = f q ((answer-refused o q).0 (sym e ∙ p))

-- ---- a test that is made before a call: x is what the test refuses with r, y the call
module _ {X : Type 0} (answer : X → Answer) (x y : X) (r : Refusal) (e : answer x ≡ Refused r) where
  -- it is refused so where the test says so, or where the call is by itself
  pub first-refused : {Q : Type 0} (b : Bool) → (answer y ≡ Refused r) ↔ Q → (answer (pick b x y) ≡ Refused r) ↔ ((b ≡ true) ⊎ Q)
  first-refused true f = (λ p. inl refl, λ s. e)
  first-refused false f = (λ p. inr (f.0 p), λ s. elim s [ inl p ↦ absurd (false≢true p) | inr q ↦ f.1 q ])

  -- the test's alone
  pub first_alone : (b : Bool) → (answer y ≡ Refused r → ⊥) → (answer (pick b x y) ≡ Refused r) ↔ (b ≡ true)
  first_alone b n =
      exactly (first-refused {Q = ⊥} b (n, λ z. absurd z)) (λ s. elim s [ inl p ↦ p | inr z ↦ absurd z ], λ p. inl p)

  -- every other refusal is the call's
  pub later-refused : {Q : Type 0} {q : Refusal} (b : Bool) → (number_of r ≡ number_of q → ⊥) → (answer y ≡ Refused q) ↔ Q → (answer (pick b x y) ≡ Refused q) ↔ ((b ≡ false) × Q)
  later-refused true n f = (λ p. absurd (n (ap answer_number (sym e ∙ p))), λ s. absurd (true≢false s.0))
  later-refused false n f = (λ p. (refl, f.0 p), λ s. f.1 s.1)

  pub first-numbers : (b : Bool) (ns : List ℕ) → Answers ns (answer y) → Answers (number_of r ∷ ns) (answer (pick b x y))
  unfolding any
  first-numbers true ns f q p = let same : number_of q ≡ number_of r = ap answer_number (sym p ∙ e) in rw (eq-eqb (number_of q) (number_of r) same)
  first-numbers false ns f q p = rw (f q p) (or-true (eqb (number_of q) (number_of r)))
