-- A mode's hash is the one from its start, and has 32 bytes; which keys are bad, and what a call makes of them.
-- Assumes nothing.
use Rattle.std.specs.Prelude.{◌≡◌, refl, ◌↔◌, Bool, true, false, not, List, ℕ, length, eqb, Ok, Err}
use Rattle.std.proofs.Common.{sym, ap, ◌∙◌, eq-eqb, ne_eqb, eqb-true}
use Rattle.std.proofs.lemmas.Bool.{false≢true}
use Rattle.base.specs.Logic.{pick}
use Rattle.base.specs.declared.Refusal.{Refusal}
use Rattle.base.specs.declared.Refusal.TheVariants.{BadSetting}
use Rattle.blake3.specs.declared.Start.{Start}
use Rattle.blake3.specs.Spec.{keyed_hash, keyed, hash}
use Rattle.blake3.specs.Equations.{length-hash_with}
use Rattle.blake3.specs.Mode.{Mode, mode_of, bad_key, hash_by, start_of, start_call, hash_from}

-- hashing from a mode's start is hashing in that mode
from_start : (m : Mode) → hash_from (start_of m) ≡ hash_by m
unfolding hash_from start_of hash_by keyed hash
from_start m = go m.under_key
  where
    go : (b : Bool) → hash_from (start_of (mode_of b m.key)) ≡ hash_by (mode_of b m.key)
    go true = refl
    go false = refl

pub started : (m : Mode) {w : Start} → w ≡ start_of m → hash_from w ≡ hash_by m
started m e = ap hash_from e ∙ from_start m

pub length-hash_from : (w : Start) (bs : List ℕ) → length (hash_from w bs) ≡ 32
unfolding hash_from
length-hash_from w bs = length-hash_with w.words (pick w.keyed keyed_hash 0) bs

pub length-hash_by : (m : Mode) (bs : List ℕ) → length (hash_by m bs) ≡ 32
length-hash_by m bs = rw (← from_start m) (length-hash_from (start_of m) bs)

-- a key is bad exactly where there is one, and it isn't of 32 bytes
pub bad-key : (m : Mode) → (bad_key m ≡ true) ↔ ((m.under_key ≡ true) × (¬ (length m.key ≡ 32)))
unfolding bad_key
bad-key m = go m.under_key
  where
    go : (b : Bool) → (bad_key (mode_of b m.key) ≡ true) ↔ ((b ≡ true) × (¬ (length m.key ≡ 32)))
    go true = (λ e. (refl, λ f. false≢true (sym (ap not (eq-eqb (length m.key) 32 f)) ∙ e)), λ (t, n). ap not (ne_eqb (length m.key) 32 n))
    go false = (λ e. absurd (false≢true e), λ (t, n). absurd (false≢true t))

-- a key that isn't bad has 32 bytes
pub key-length : (key : List ℕ) → bad_key (mode_of true key) ≡ false → length key ≡ 32
unfolding bad_key
key-length key e = go (eqb (length key) 32) refl e
  where
    go : (b : Bool) → eqb (length key) 32 ≡ b → not b ≡ false → length key ≡ 32
    go true f g = eqb-true (length key) 32 f
    go false f g = absurd (false≢true (sym g))

-- a call is refused exactly where the key is bad, and starts from the mode's start where it isn't
pub start-refused : (m : Mode) {r : Refusal} → Err r ≡ start_call m → (bad_key m ≡ true) × (r ≡ BadSetting)
unfolding start_call
start-refused m {r} = go (bad_key m) refl
  where
    go : (b : Bool) → bad_key m ≡ b → Err r ≡ pick b (Err BadSetting) (Ok (start_of m)) → (bad_key m ≡ true) × (r ≡ BadSetting)
    go true f g = (f, cc)
    go false f g = absurd (cc)

pub start-taken : (m : Mode) {w : Start} → Ok w ≡ start_call m → (bad_key m ≡ false) × (w ≡ start_of m)
unfolding start_call
start-taken m {w} = go (bad_key m) refl
  where
    go : (b : Bool) → bad_key m ≡ b → Ok w ≡ pick b (Err BadSetting) (Ok (start_of m)) → (bad_key m ≡ false) × (w ≡ start_of m)
    go true f g = absurd (cc)
    go false f g = (f, cc)
