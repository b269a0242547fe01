-- How a box hashes its records: in hash mode, or in keyed mode under a key.
-- Assumes nothing.
use Rattle.std.specs.Prelude.{ℕ, Bool, true, false, not, ◌&&◌, List, [], length, eqb, Option, Some, None, Result, Ok, Err}
use Rattle.base.specs.Logic.{pick}
use Rattle.base.specs.declared.Refusal.{Refusal}
use Rattle.base.specs.declared.Refusal.TheVariants.{BadSetting}
use Rattle.blake3_compress.specs.Spec.{iv}
use Rattle.blake3.specs.declared.Start.{Start}
use Rattle.blake3.specs.Spec.{keyed_hash, key_words, hash_with, keyed, hash}

pub record Mode : Type 0 where
  pub under_key : Bool
  pub key : List ℕ

-- a mode as the calls are given it: whether there is a key, and its bytes
abbrev pub mode_of : Bool → List ℕ → Mode
mode_of under_key key = record { under_key = under_key; key = key }

abbrev pub unkeyed : Mode
unkeyed = mode_of false []

-- a mode as a call is given it by a key's bytes, or none
abbrev pub mode_in : Option (List ℕ) → Mode
mode_in None = unkeyed
mode_in (Some key) = mode_of true key

-- a key that isn't of 32 bytes; in hash mode there is none, and no byte is looked at
unfoldable pub bad_key : Mode → Bool
bad_key m = m.under_key && not (eqb (length m.key) 32)

-- the hash in use
unfoldable pub hash_by : Mode → List ℕ → List ℕ
hash_by m bs = pick m.under_key (keyed m.key bs) (hash bs)

-- what a mode's hashing starts from: the key's words or the constant ones, and whether they are a key's
unfoldable pub start_of : Mode → Start
start_of m = record { words = pick m.under_key (key_words m.key) iv; keyed = m.under_key }

-- that, or the refusal of a bad key
unfoldable pub start_call : Mode → Result Start Refusal
start_call m = pick (bad_key m) (Err BadSetting) (Ok (start_of m))

-- the flags that every compression carries
abbrev pub flags_of : Start → ℕ
flags_of s = pick s.keyed keyed_hash 0

-- the hash from a start
unfoldable pub hash_from : Start → List ℕ → List ℕ
hash_from s bs = hash_with s.words (flags_of s) bs
