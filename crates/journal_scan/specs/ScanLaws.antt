-- Records passed in turn: what holds between two of them, and how the pass ends.
-- Assumes nothing.
use Rattle.std.specs.Prelude.{◌≡◌, List, ℕ, ◌+◌, ◌-◌, ◌≤◌, ◌<◌, length, take, drop}
use Rattle.std.proofs.Math.Path.{refl, ap}
use Rattle.std.proofs.Common.{sym, ◌∙◌, add-one, arith, take_all}
use Rattle.std.proofs.Math.ListN.{length-drop}
use Rattle.std.proofs.Math.Seq.{drop-drop, drop-length}
use Rattle.base.specs.Answers.{Outcome, refused, taken, Answer, Taken, Refused}
use Rattle.base.specs.AnswerLaws.{not-refused}
use Rattle.base.specs.declared.Refusal.{Refusal}
use Rattle.format.specs.Returned.{Decoded}
use Rattle.format.specs.Record.{Decoding, decode}
use Rattle.format.specs.Calls.{decoded_of, decode_call}
use Rattle.format.proofs.TakenLaws.{taken-lent}
use Rattle.journal.specs.Journal.{pass_record, scan}
use Rattle.journal.proofs.ReadLaws.{records_in, passed-refused, passed-taken, records-end, records-taken, records-refused}

module _ (hash : List ℕ → List ℕ) (s : List ℕ) where
  -- the rest of the journal leads to the same end
  pub record Passing (records place : ℕ) : Type 0 where
    pub inside : place ≤ length s
    pub counted : records ≤ place
    pub leads : records_in (pass_record hash) tt records place (drop place s) ≡ records_in (pass_record hash) tt 0 0 s

  module _ (records place : ℕ) (x : Passing records place) where
    -- the pass ends here
    closed : (a : Answer) → records_in (pass_record hash) tt records place (drop place s) ≡ record { state = tt; records = records; place = place; ended = a }
        → record { answer = Taken; records = records; place = place; ended = a } ≡ scan hash s
    unfolding scan
    closed a e = rw (← x.leads, e)

    pub finished : place ≡ length s → record { answer = Taken; records = records; place = length s; ended = Taken } ≡ scan hash s
    finished e = rw (← e) (closed Taken (rw (e, drop-length s) (records-end (pass_record hash) tt records (length s))))

    -- the record at this place; the bytes from there on are lent as a part of the journal
    module _ (more : place < length s) (q : Decoded) (e : q ≡ decode_call hash (take (length s - place) (drop place s))) where
      abbrev rest : List ℕ
      rest = drop place s

      some_left : 0 < length rest
      some_left = omega (arith, length-drop place s)

      on-rest : q ≡ decode_call hash rest
      on-rest = e ∙ ap (λ (l : List ℕ). decode_call hash l) (take_all (length s - place) rest (omega (arith, length-drop place s)))

      -- it is refused
      pub stopped : (r : Refusal) → q.answer ≡ Refused r → record { answer = Taken; records = records; place = place; ended = q.answer } ≡ scan hash s
      unfolding decode_call decoded_of
      stopped r a = go (decode hash rest) refl on-rest
        where
          go : (o : Outcome Decoding) → decode hash rest ≡ o → q ≡ decoded_of o → record { answer = Taken; records = records; place = place; ended = q.answer } ≡ scan hash s
          go (refused y) i f =
              rw f (closed (Refused y) (records-refused (pass_record hash) tt records place y rest some_left ((passed-refused hash rest y).1 i)))
          go (taken d) i f = absurd (not-refused (sym (ap (λ (z : Decoded). z.answer) f) ∙ a))

      -- it is taken: the next stands behind it
      pub passed : q.answer ≡ Taken → Passing (records + 1) (place + (56 + q.items_len))
      unfolding decode_call decoded_of
      passed a = go (decode hash rest) refl on-rest
        where
          go : (o : Outcome Decoding) → decode hash rest ≡ o → q ≡ decoded_of o → Passing (records + 1) (place + (56 + q.items_len))
          go (refused y) i f = absurd (not-refused (sym a ∙ ap (λ (z : Decoded). z.answer) f))
          go (taken d) i f =
              let size = d.stats.payload_bytes in
              let whole = taken-lent hash rest d i in
              let n : 56 + q.items_len ≡ 40 + size = rw f (omega (arith, whole.head)) in
              let turn = records-taken (pass_record hash) tt records place tt size rest some_left ((passed-taken hash rest size).1 (d, i, refl)) in
              record {
                inside = omega (arith, n, length-drop place s, whole.inside);
                counted = omega (arith, n, x.counted);
                leads = rw (add-one records, n, ← drop-drop (40 + size) place s) (sym turn ∙ x.leads);
              }
