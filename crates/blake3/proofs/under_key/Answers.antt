-- `blake3::under_key` meets its contract. By evaluation, over the words of the key.
-- Assumes nothing.
use mathlib.Core.Path.{ap}
use mathlib.Core.List.{List}
use mathlib.Core.Bool.{true}
use Prim.Native.Nat.{ℕ}
use Rattle.blake3.specs.declared.Start.{Start}
use Rattle.blake3.specs.Spec.{key_words}
use Rattle.blake3.specs.Mode.{start_of}
use Rattle.blake3.proofs.under_key.Goals as goal

pub returns : goal.returns
unfolding start_of key_words
returns c = let started : List ℕ → Start = λ w. record { words = w; keyed = true } in ap started c.words-words.ensures
