-- What may be missing: a claim of what is given if something is, and steps that gave something.
-- Assumes nothing.
use Rattle.std.specs.Prelude.{◌≡◌, refl, Bool, true, false, ℕ}
use Rattle.std.proofs.Math.Option.{Option, none, some}
use Rattle.std.proofs.Common.{arith}
use Rattle.base.specs.Logic.{pick}
use Rattle.base.specs.Maybe.{◌>>=◌, ◌>>◌, ensure}

-- ---- a claim of what is given, if something is
pub data Gives {A : Type 0} (P : A → Type 0) : Option A → Type 0 where
  nothing : Gives P none
  gives : {a : A} → P a → Gives P (some a)

pub gives-bind : {A B : Type 0} {P : A → Type 0} {Q : B → Type 0} {o : Option A} {f : A → Option B} → Gives P o → ((a : A) → P a → Gives Q (f a)) → Gives Q (o >>= f)
gives-bind nothing h = nothing
gives-bind (gives {a = a} p) h = h a p

pub gives-ensure : {B : Type 0} {Q : B → Type 0} (t : Bool) {o : Option B} → (t ≡ true → Gives Q o) → Gives Q (ensure t >> o)
gives-ensure true h = h refl
gives-ensure false h = nothing

pub gives-pick : {B : Type 0} {Q : B → Type 0} (t : Bool) {o o' : Option B} → Gives Q o → Gives Q o' → Gives Q (pick t o o')
gives-pick true p p' = p
gives-pick false p p' = p'

pub gives-weaken : {A : Type 0} {P Q : A → Type 0} {o : Option A} → Gives P o → ((a : A) → P a → Q a) → Gives Q o
gives-weaken nothing h = nothing
gives-weaken (gives {a = a} p) h = gives (h a p)

pub given : {A : Type 0} {P : A → Type 0} {o : Option A} {a : A} → Gives P o → o ≡ some a → P a
given {P = P} {a = a} g e = go (rw e at g)
  where
    go : Gives P (some a) → P a
    go (gives p) = p

pub gives-each : {A : Type 0} {P : A → Type 0} (o : Option A) → ((a : A) → o ≡ some a → P a) → Gives P o
gives-each none h = nothing
gives-each (some a) h = gives (h a refl)

-- ---- steps that gave something
pub ensure-none : {B : Type 0} (b : Bool) {o : Option B} → o ≡ none → (ensure b >> o) ≡ none
ensure-none true e = e
ensure-none false e = refl

pub ensure-some : {B : Type 0} (b : Bool) {o : Option B} {y : B} → (ensure b >> o) ≡ some y → (b ≡ true) × (o ≡ some y)
ensure-some true e = (refl, e)
ensure-some false e = let z : ◌≡◌ {A = ℕ} 0 1 = cc in absurd (omega arith)

pub bind-some : {A B : Type 0} (o : Option A) {f : A → Option B} {y : B} → (o >>= f) ≡ some y → (x : A) × (o ≡ some x) × (f x ≡ some y)
bind-some none e = let z : ◌≡◌ {A = ℕ} 0 1 = cc in absurd (omega arith)
bind-some (some x) e = (x, refl, e)

pub not_none : {A : Type 0} {x : A} {o : Option A} → o ≡ some x → o ≡ none → ⊥
not_none {A} {x} {o} e q = let z : ◌≡◌ {A = ℕ} 0 1 = cc in omega arith
