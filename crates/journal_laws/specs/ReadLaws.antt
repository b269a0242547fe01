-- A journal of accepted deltas' records, cut after any byte, is read up to the last whole record: what was applied, where, and how it ended. No record of it is damaged.
-- Assumes nothing.
use Rattle.std.specs.Prelude.{◌≡◌, Bool, leb, eqb}
use Rattle.std.proofs.Math.Path.{refl, ap}
use Rattle.std.proofs.Common.{◌∙◌, inl, drop_at, length-take-le, le-leb, eq-eqb, ne_eqb}
use Rattle.std.proofs.Math.Bool.{true, false}
use mathlib.Core.List.{List, [], ◌∷◌, ◌++◌}
use Prim.Native.Nat.{ℕ, zero, suc, ◌+◌, ◌-◌, ◌≤◌, ◌<◌}
use Rattle.std.proofs.Math.Nat.{add-zero, zero-add}
use native.Mathlib.Omega.{arith}
use Rattle.std.proofs.Math.Decide.{dec_le, ℕ_discrete}
use Rattle.std.proofs.Math.ListN.{length, take, length-append}
use Rattle.std.proofs.Math.Seq.{take-append-add, take-append-le}
use Rattle.std.proofs.lemmas.Bool.{lt-leb}
use Rattle.base.specs.Logic.{pick, flat, fold}
use Rattle.base.specs.Answers.{refused, taken, Answer, Taken, Refused}
use Rattle.base.specs.declared.Refusal.TheVariants.{ShortRecord}
use Rattle.cell_nursery.specs.Entries.{State, empty}
use Rattle.cell_nursery.specs.Items.{Delta}
use Rattle.cell_nursery.specs.Delta.{Room, present, full, state_after}
use Rattle.cell_nursery.proofs.WaitLaws.{Waits, none-gone, waits-after}
use Rattle.cell_nursery.specs.Held.{WellFormed}
use Rattle.cell_nursery.proofs.EntryLaws.{well-after, InRoom, room_after}
use Rattle.format.specs.Payload.{payload_bytes}
use Rattle.format.specs.Record.{stats_of, record_bytes}
use Rattle.format.proofs.RecordLaws.{length-record, Fits, decode-whole, decode-cut}
use Rattle.journal.specs.Journal.{End, Step, records_from, pass_record, scan, damages, damaged, apply_record, read_journal}
use Rattle.journal.proofs.ReadLaws.{record-refused, record-taken, passed-refused, passed-taken, records_in, records-taken, records-refused}
use Rattle.journal_laws.specs.DeltaLaws.{Accepted, accepted-taken}

-- a delta that a nursery accepts is accepted by one with the same entries, whichever of them wait
pub accepted-again : (m : Room) (s u : State) (d : Delta) → u.entries ≡ s.entries → Accepted m s d → Accepted m u d
unfolding present full
accepted-again m s u d e a = record { short = a.short; new = rw e a.new; fits = rw e a.fits }

-- what ends the reading of the first k bytes, of which the whole records are the first n
abbrev pub end_of : ℕ → ℕ → Answer
end_of n k = pick (eqb n k) Taken (Refused ShortRecord)

end_later : (b n k : ℕ) → b ≤ k → end_of n (k - b) ≡ end_of (b + n) k
end_later b n k h = elim (ℕ_discrete n (k - b)) [ yes e ↦ rw (eq-eqb n (k - b) e, eq-eqb (b + n) k (omega arith)) | no e ↦ rw (ne_eqb n (k - b) e, ne_eqb (b + n) k (λ q. e (omega arith))) ]

-- neither is damage
end-undamaged : (n k : ℕ) → damages (end_of n k) ≡ false
unfolding damages
end-undamaged n k = go (eqb n k)
  where
    go : (b : Bool) → damages (pick b Taken (Refused ShortRecord)) ≡ false
    go true = refl
    go false = refl

-- ---- items that carry an id and a delta, of which records are made
module _ (hash : List ℕ → List ℕ) {A : Type 0} (id : A → ℕ) (delta : A → Delta) where
  abbrev pub bytes_of : A → List ℕ
  bytes_of x = record_bytes hash (id x) (delta x)

  -- those whose records are whole in the first k bytes
  unfoldable pub whole_in : ℕ → List A → List A
  whole_in k [] = []
  whole_in k (x ∷ xs) = pick (leb (length (bytes_of x)) k) (x ∷ whole_in (k - length (bytes_of x)) xs) []

  -- the nursery after their deltas
  unfoldable pub applied-all : List A → State → State
  applied-all xs s = fold (λ x. state_after (delta x)) xs s

  module _ (m : Room) where
    -- deltas that records can carry and that are accepted one after the other
    pub data Applies : State → List A → Type 0 where
      done : {s : State} → Applies s []
      more : {s : State} {x : A} {xs : List A} → Fits (id x) (delta x) → Accepted m s (delta x) → Applies (state_after (delta x) s) xs → Applies s (x ∷ xs)

    -- the whole ones are accepted too
    pub applies-whole : {s : State} {xs : List A} → Applies s xs → (k : ℕ) → Applies s (whole_in k xs)
    unfolding whole_in
    applies-whole done k = done
    applies-whole (more {s = s} {x = x} {xs = xs} f a r) k = go (leb (length (bytes_of x)) k) (applies-whole r (k - length (bytes_of x)))
      where
        go : (b : Bool) → Applies (state_after (delta x) s) (whole_in (k - length (bytes_of x)) xs) → Applies s (pick b (x ∷ whole_in (k - length (bytes_of x)) xs) [])
        go true q = more f a q
        go false q = done

    -- what they leave: every entry waits, the fields are within their bounds, and the tables have room for it
    pub applied-waits : {s : State} {xs : List A} → Applies s xs → Waits [] s → Waits [] (applied-all xs s)
    unfolding applied-all fold
    applied-waits done w = w
    applied-waits (more {s = s} {x = x} f a r) w =
        applied-waits r (rw (none-gone (delta x).removes) at (waits-after [] (delta x) s a.new w))

    pub applied-well : {s : State} {xs : List A} → Applies s xs → WellFormed s → WellFormed (applied-all xs s)
    unfolding applied-all fold
    applied-well done w = w
    applied-well (more {s = s} {x = x} f a r) w = applied-well r (well-after (delta x) s f.inserts a.new w)

    pub applied-fits : {s : State} {xs : List A} → Applies s xs → InRoom m.entries m.cells s → InRoom m.entries m.cells (applied-all xs s)
    unfolding applied-all fold
    applied-fits done w = w
    applied-fits (more {s = s} {x = x} f a r) w = applied-fits r (room_after m (delta x) s a.fits)

  module _ (long : (b : List ℕ) → length (hash b) ≡ 32) where
    length-bytes : (x : A) → length (bytes_of x) ≡ 40 + length (payload_bytes (id x) (delta x))
    length-bytes x = length-record hash long (id x) (delta x)

    -- ---- their records, each by a step
    module _ {S : Type 0} (step : Step S) (after : A → S → S) where
      -- the step takes each of them, and refuses one that is cut with 16
      data Steps : S → List A → Type 0 where
        none : {s : S} → Steps s []
        next : {s : S} {x : A} {xs : List A} → ((rest : List ℕ) → step s (bytes_of x ++ rest) ≡ taken (after x s, length (payload_bytes (id x) (delta x))))
            → ((k : ℕ) → k < length (bytes_of x) → step s (take k (bytes_of x)) ≡ refused ShortRecord) → Steps (after x s) xs → Steps s (x ∷ xs)

      -- how they end where some of them are whole
      abbrev ending : S → ℕ → ℕ → ℕ → List A → End S
      ending s records place k ws =
          record {
            state = fold after ws s;
            records = records + length ws;
            place = place + length (flat bytes_of ws);
            ended = end_of (length (flat bytes_of ws)) k;
          }

      -- a whole record, and what is left behind it
      step-whole : (s : S) (x : A) (rest : List ℕ) (records place : ℕ) → step s (bytes_of x ++ rest) ≡ taken (after x s, length (payload_bytes (id x) (delta x)))
          → records_in step s records place (bytes_of x ++ rest) ≡ records_in step (after x s) (suc records) (place + length (bytes_of x)) rest
      step-whole s x rest records place whole =
          let n : ℕ = length (payload_bytes (id x) (delta x)) in
          let l = length-bytes x in
          records-taken step s records place (after x s) n (bytes_of x ++ rest) (simp length-append (omega arith)) whole
          ∙ rw (← l, drop_at (bytes_of x) rest (length (bytes_of x)) refl)

      -- a record that is cut
      step-short : (s : S) (x : A) (records place k : ℕ) → k < length (bytes_of x) → step s (take k (bytes_of x)) ≡ refused ShortRecord
          → records_in step s records place (take k (bytes_of x)) ≡ record { state = s; records = records; place = place; ended = end_of 0 k }
      unfolding records_from
      step-short s x records place zero l cut = refl
      step-short s x records place (suc k) l cut =
          rw (ne_eqb 0 (suc k) (omega arith))
          (records-refused step s records place ShortRecord (take (suc k) (bytes_of x)) (rw (length-take-le (suc k) (bytes_of x) (omega arith)) (omega arith)) cut)

      one-more : (s : S) (x : A) (ws : List A) (records place k : ℕ) → length (bytes_of x) ≤ k
          → ending (after x s) (suc records) (place + length (bytes_of x)) (k - length (bytes_of x)) ws ≡ ending s records place k (x ∷ ws)
      unfolding fold flat
      one-more s x ws records place k h =
          let b : ℕ = length (bytes_of x) in
          let n : ℕ = length (flat bytes_of ws) in
          let p : suc records + length ws ≡ records + suc (length ws) = omega arith in
          let q : place + b + n ≡ place + (b + n) = omega arith in
          rw (length-append (bytes_of x) (flat bytes_of ws), p, q, end_later b n k h)

      none_more : (s : S) (records place k : ℕ) → record { state = s; records = records; place = place; ended = end_of 0 k } ≡ ending s records place k []
      unfolding fold flat
      none_more s records place k = rw (add-zero records, add-zero place)

      -- of the first k bytes exactly the whole records are taken
      steps-cut : {s : S} {xs : List A} → Steps s xs → (records place k : ℕ) → k ≤ length (flat bytes_of xs)
          → records_in step s records place (take k (flat bytes_of xs)) ≡ ending s records place k (whole_in k xs)
      unfolding flat whole_in records_from
      steps-cut (none {s = s}) records place k h = let z : k ≡ 0 = omega arith in rw z (none_more s records place 0)
      steps-cut (next {s = s} {x = x} {xs = xs} whole short r) records place k h =
          elim (dec_le (length (bytes_of x)) k) [
            | yes l ↦
                let b : ℕ = length (bytes_of x) in
                let q : k ≡ b + (k - b) = omega arith in
                let cut : take k (bytes_of x ++ flat bytes_of xs) ≡ bytes_of x ++ take (k - b) (flat bytes_of xs) =
                ap (λ (i : ℕ). take i (bytes_of x ++ flat bytes_of xs)) q ∙ take-append-add (bytes_of x) (flat bytes_of xs) (k - b) in
                rw (le-leb b k l, cut)
                (step-whole s x (take (k - b) (flat bytes_of xs)) records place (whole (take (k - b) (flat bytes_of xs)))
                ∙ steps-cut r (suc records) (place + b) (k - b) (omega (arith, length-append (bytes_of x) (flat bytes_of xs)))
                ∙ one-more s x (whole_in (k - b) xs) records place k l)
            | no l ↦
                rw (lt-leb (length (bytes_of x)) k (omega arith), take-append-le k (bytes_of x) (flat bytes_of xs) (omega arith))
                (step-short s x records place k (omega arith) (short k (omega arith)) ∙ none_more s records place k)
          ]

    -- ---- read into a nursery
    module _ (m : Room) where
      read-steps : {s : State} {xs : List A} → Applies m s xs → Steps (apply_record hash m) (λ x. state_after (delta x)) s xs
      unfolding stats_of
      read-steps done = none
      read-steps (more {s = s} {x = x} {xs = xs} f a r) =
          next (λ rest.
          (record-taken hash m s (bytes_of x ++ rest) (state_after (delta x) s) (length (payload_bytes (id x) (delta x)))).1
          (_, decode-whole hash long (id x) (delta x) f rest, accepted-taken m s (delta x) a, refl)) (λ k l.
          (record-refused hash m s (take k (bytes_of x)) ShortRecord).1 (inl (decode-cut hash long (id x) (delta x) f k l))) (read-steps r)

      -- a journal read into an empty nursery
      pub journal-cut : (xs : List A) → Applies m empty xs → (k : ℕ) → k ≤ length (flat bytes_of xs)
          → read_journal hash m (take k (flat bytes_of xs))
          ≡ record {
            state = applied-all (whole_in k xs) empty;
            records = length (whole_in k xs);
            place = length (flat bytes_of (whole_in k xs));
            ended = end_of (length (flat bytes_of (whole_in k xs))) k;
          }
      unfolding read_journal applied-all
      journal-cut xs a k h =
          rw (zero-add (length (whole_in k xs)), zero-add (length (flat bytes_of (whole_in k xs)))) at (steps-cut (apply_record hash m) (λ x. state_after (delta x)) (read-steps a) 0 0 k h)

      -- ---- the first pass over them
      pass-steps : {s : State} {xs : List A} → Applies m s xs → Steps (pass_record hash) (λ x u. u) tt xs
      unfolding stats_of
      pass-steps done = none
      pass-steps (more {s = s} {x = x} {xs = xs} f a r) =
          next (λ rest.
          (passed-taken hash (bytes_of x ++ rest) (length (payload_bytes (id x) (delta x)))).1 (_, decode-whole hash long (id x) (delta x) f rest, refl)) (λ k l.
          (passed-refused hash (take k (bytes_of x)) ShortRecord).1 (decode-cut hash long (id x) (delta x) f k l)) (pass-steps r)

      -- it finds the same records
      pub scan-cut : (xs : List A) → Applies m empty xs → (k : ℕ) → k ≤ length (flat bytes_of xs)
          → scan hash (take k (flat bytes_of xs))
          ≡ record {
            answer = Taken;
            records = length (whole_in k xs);
            place = length (flat bytes_of (whole_in k xs));
            ended = end_of (length (flat bytes_of (whole_in k xs))) k;
          }
      unfolding scan
      scan-cut xs a k h =
          rw (steps-cut (pass_record hash) (λ x u. u) (pass-steps a) 0 0 k h, zero-add (length (whole_in k xs)), zero-add (length (flat bytes_of (whole_in k xs))))

      -- so none of them is damaged
      pub cut-undamaged : (xs : List A) → Applies m empty xs → (k : ℕ) → k ≤ length (flat bytes_of xs) → damaged hash (take k (flat bytes_of xs)) ≡ false
      unfolding damaged
      cut-undamaged xs a k h = rw (scan-cut xs a k h) (end-undamaged (length (flat bytes_of (whole_in k xs))) k)
