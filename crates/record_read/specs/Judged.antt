-- What the tests before the hash say of a record; a record whose length and hash are right, by its payload of n bytes; and decoding by what is read.
-- Assumes nothing.
use Rattle.std.specs.Prelude.{ℕ, ◌≡◌, List, take, drop, ltb, Result, Ok, Err}
use Rattle.base.specs.Logic.{pick}
use Rattle.base.specs.Answers.{refused, taken, ◌>>=◌, or_refuse}
use Rattle.base.specs.declared.Refusal.{Refusal}
use Rattle.base.specs.declared.Refusal.TheVariants.{Misfit, Leftover}
use Rattle.format.specs.Returned.{Decoded}
use Rattle.format.specs.Payload.{Payload, payload_of}
use Rattle.format.specs.Record.{Decoding, stats_of, leftover, stated, Whole}
use Rattle.format.specs.Calls.{decoded_of, parse_call}

-- the length that is stated, where the record is whole; else what reading it refuses, by any hash
abbrev pub Framing : List ℕ → Result ℕ Refusal → Type 0
Framing bs (Ok n) = (n ≡ stated bs) × Whole bs
Framing bs (Err r) = (hash : List ℕ → List ℕ) → parse_call hash bs ≡ decoded_of (refused r)

unfoldable pub decoding_of : ℕ → List ℕ → Payload → Decoding
decoding_of n bs p = record { id = p.id; hash = take 32 bs; delta = p.delta; stats = stats_of n p.delta }

unfoldable pub payload_call : ℕ → List ℕ → Decoded
payload_call n bs = decoded_of (or_refuse Misfit (payload_of (take n (drop 40 bs))) >>= λ p. taken (decoding_of n bs p))

-- what decoding gives, by what reading the record gave
unfoldable pub exact_call : Decoded → Decoded
exact_call d = pick (ltb 0 (leftover d.stats)) (decoded_of (refused Leftover)) d
