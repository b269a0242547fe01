-- What the call answers: 15 where an output is too short, else both outputs.
-- Assumes nothing.
use Rattle.std.specs.Prelude.{◌≡◌, false, List, ℕ, ◌≤◌, ◌<◌, ltb}
use Rattle.std.proofs.Math.ListN.{length}
use borrow.Author.Tests.{le-ltb, lt-ltb}
use Rattle.base.specs.Logic.{overlay}
use Rattle.base.specs.declared.Refusal.TheVariants.{OutputFull}
use Rattle.base.specs.Answers.{Taken, Refused}
use Rattle.journal.specs.Returned.{ConvertedAnswer}
use Rattle.journal.specs.Convert.{convert, effect, converted_out, convert_call}
use Rattle.journal_convert.specs.declared.Sizes.{Sizes}
use Rattle.journal_convert.specs.Rewriting.{list_bytes, sizes_of}

-- what stands beside the refusal
abbrev pub full : ConvertedAnswer
full = record { answer = Refused OutputFull; len = 0; dropped_len = 0 }

module _ (hash : List ℕ → List ℕ) (s out dropped : List ℕ) (z : Sizes) (e : z ≡ sizes_of hash s) where
  pub out-short : length out < z.len → effect full out dropped ≡ convert_call hash s out dropped
  unfolding sizes_of convert_call converted_out
  out-short h = let k : length out < length (convert hash s).bytes = rw e at h in rw (lt-ltb (length out) (length (convert hash s).bytes) k)

  module _ (room : z.len ≤ length out) where
    first-test : ltb (length out) (length (convert hash s).bytes) ≡ false
    unfolding sizes_of
    first-test = le-ltb (length out) (length (convert hash s).bytes) (rw e at room)

    pub list-short : length dropped < z.dropped_len → effect full out dropped ≡ convert_call hash s out dropped
    unfolding sizes_of convert_call converted_out
    list-short h =
        let k : length dropped < length (list_bytes (convert hash s)) = rw e at h in
        rw (first-test, lt-ltb (length dropped) (length (list_bytes (convert hash s))) k)

    pub both-written : z.dropped_len ≤ length dropped
        → effect (record { answer = Taken; len = z.len; dropped_len = z.dropped_len }) (overlay (convert hash s).bytes out) (overlay (list_bytes (convert hash s)) dropped) ≡ convert_call hash s out dropped
    unfolding sizes_of convert_call converted_out
    both-written h =
        let k : length (list_bytes (convert hash s)) ≤ length dropped = rw e at h in
        rw (e, first-test, le-ltb (length dropped) (length (list_bytes (convert hash s))) k)
