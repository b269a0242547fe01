-- What converting a journal keeps: one without leftovers stays as it is, a new one has none, and reading it is reading the old one by the rule before.
-- Its call is refused exactly where an output is too short.
-- Assumes nothing.
use Rattle.std.specs.Prelude.{◌≡◌, ◌↔◌, ◌⊎◌, Bool, ◌||◌, drop, eqb}
use Rattle.std.proofs.Math.Path.{refl, sym, ap}
use Rattle.std.proofs.Common.{◌∙◌, inl, inr, arith, take-append-drop, length-append, eq-eqb, le-ltb}
use Rattle.std.proofs.Math.Bool.{true, false, false≢true}
use mathlib.Core.List.{List, [], ◌∷◌, ◌++◌}
use Prim.Native.Nat.{ℕ, suc, ◌+◌, ◌*◌, ◌/◌, ◌≤◌, ◌<◌}
use Rattle.std.proofs.Math.Decide.{dec_lt}
use Rattle.std.proofs.Math.ListN.{length}
use Rattle.std.proofs.Math.Seq.{drop_at}
use Rattle.std.proofs.Math.Dec.{ltb}
use Rattle.base.specs.Logic.{pick, any, flat}
use Rattle.base.specs.ListLaws.{all_drop, ltb-lt}
use Rattle.base.specs.SpellLaws.{Bytes}
use Rattle.base.specs.Answers.{Outcome, refused, taken, number_of, ◌>>=◌, ◌>>◌, refuse_if, answer_of, Taken, Refused}
use Rattle.base.specs.AnswerLaws.{exactly, ends-twice, Answers, says, says-numbers, not-refused}
use Rattle.base.specs.OutcomeLaws.{taken_refused, ends-here, refuses-none, refuses-step}
use Rattle.base.specs.declared.Refusal.{Refusal}
use Rattle.base.specs.declared.Refusal.TheVariants.{OutputFull, ShortRecord, Damaged, Leftover, BadSetting}
use Rattle.cell_nursery.specs.Entries.{State, empty}
use Rattle.cell_nursery.specs.Items.{Delta}
use Rattle.cell_nursery.specs.Delta.{Room, apply_delta}
use Rattle.cell_nursery.specs.Layout.{room_of, delay_in_range}
use Rattle.format.specs.Payload.{payload_bytes}
use Rattle.format.specs.Record.{Decoding, stats_of, record_bytes, leftover, parse, decode}
use Rattle.format.proofs.RecordLaws.{length-record, Fits, decode-whole}
use Rattle.format.proofs.RefusalLaws.{parse-numbers, still-refused, still-taken, left_over, decode-taken}
use Rattle.format.proofs.ExactLaws.{Spelled, parsed, parse-exact}
use Rattle.journal.specs.Journal.{End, Step, pass_record, scan, damages, damaged, apply_record, read_journal, ReadIn, not_read, read_out, read_call}
use Rattle.journal.specs.Convert.{dropped_bytes, Conversion, unchanged, dropped_at, anew, convert, converted_out, convert_call, parsed_step, read_before}
use Rattle.journal.proofs.ReadLaws.{passed-refused, passed-taken, records_in, records-end, records-taken, records-refused}
use Rattle.journal.proofs.ConvertLaws.{parse-none, convert_in, convert-refused, convert-taken, Walk, finished, halted, next, walked, length-dropped, convert-sizes}

-- ---- a journal without leftovers stays as it is
module _ (hash : List ℕ → List ℕ) where
  -- a record as encoding writes it stays if what is behind it does
  stays : (place : ℕ) (bs : List ℕ) (d : Decoding) → let n = 40 + d.stats.payload_bytes in
      parse hash bs ≡ taken d → leftover d.stats ≡ 0 → record_bytes hash d.id d.delta ++ drop n bs ≡ bs
      → convert_in hash (place + n) (drop n bs) ≡ unchanged (drop n bs) → convert_in hash place bs ≡ unchanged bs
  unfolding anew dropped_at
  stays place bs d e z written later = convert-taken hash place bs d e ∙ ap (anew hash place d) later ∙ rw (eq-eqb (leftover d.stats) 0 z, written)

  abbrev passes : ℕ → ℕ → List ℕ → End (Unit {0})
  passes = records_in (pass_record hash) tt

  same : {bs : List ℕ} → Walk hash bs → Bytes bs → (records p place : ℕ) → ((passes records p bs).ended ≡ Refused Leftover → ⊥) → convert_in hash place bs ≡ unchanged bs
  same finished b records p place none = convert-refused hash place [] ShortRecord (parse-none hash)
  same (halted {bs} r l e) b records p place none = convert-refused hash place bs r e
  same (next {bs} d e w) b records p place none =
      let n : ℕ = d.stats.payload_bytes in
      let some : 0 < length bs = omega (arith, (parsed hash bs d b e).whole) in
      elim (dec_lt 0 (leftover d.stats)) [
        | yes more ↦
            let last = records-refused (pass_record hash) tt records p Leftover bs some ((passed-refused hash bs Leftover).1 (left_over hash bs d e more)) in
            absurd (none (ap (λ (x : End (Unit {0})). x.ended) last))
        | no less ↦
            let z : leftover d.stats ≡ 0 = omega arith in
            let turn = records-taken (pass_record hash) tt records p tt n bs some ((passed-taken hash bs n).1 (d, still-taken hash bs d e z, refl)) in
            stays place bs d e z (ap (λ (x : List ℕ). x ++ drop (40 + n) bs) (sym (parse-exact hash bs d b e z)) ∙ take-append-drop (40 + n) bs)
            (same w (all_drop (λ x. ltb x 256) (40 + n) bs b) (suc records) (p + (40 + n)) (place + (40 + n)) (λ f. none (ap (λ (x : End (Unit {0})). x.ended) turn ∙ f)))
      ]

  -- where no record that is reached has leftovers
  pub convert-same : (bs : List ℕ) → Bytes bs → ((scan hash bs).ended ≡ Refused Leftover → ⊥) → convert hash bs ≡ unchanged bs
  unfolding convert scan
  convert-same bs b none = same (walked hash bs) b 0 0 0 none

-- ---- records by the rule of today and by the one before
-- a record by today's, and what its delta does
unfoldable pub decoded_step : {S : Type 0} → (List ℕ → List ℕ) → (S → Delta → Outcome S) → Step S
decoded_step hash f s bs = do
  d ← decode hash bs
  t ← f s d.delta
  taken (t, d.stats.payload_bytes)

-- the first pass and the reading have such steps
passing : (hash : List ℕ → List ℕ) → pass_record hash ≡ decoded_step hash (λ u d. taken u)
unfolding pass_record decoded_step
passing hash = refl

applying : (hash : List ℕ → List ℕ) (m : Room) → apply_record hash m ≡ decoded_step hash (apply_delta m)
unfolding apply_record decoded_step
applying hash m = refl

-- a reading and how records end, but for the place: the new journal is shorter
unfoldable pub beside_place : ReadIn → ReadIn
beside_place c =
    let r = c.result in
    record {
      result = record { answer = r.answer; nursery = r.nursery; applied = r.applied; place = 0; ended = r.ended };
      entries = c.entries;
      waiting = c.waiting;
      cells = c.cells;
    }

abbrev pub unplaced : {S : Type 0} → End S → End S
unplaced e = record { state = e.state; records = e.records; place = 0; ended = e.ended }

module _ (hash : List ℕ → List ℕ) (long : (b : List ℕ) → length (hash b) ≡ 32) where
  -- whatever the deltas do, the records of a new journal by today's rule end as those of the old one by the rule before
  module _ {S : Type 0} (f : S → Delta → Outcome S) where
    abbrev today : S → ℕ → ℕ → List ℕ → End S
    today = records_in (decoded_step hash f)

    abbrev before : S → ℕ → ℕ → List ℕ → End S
    before = records_in (parsed_step hash f)

    -- a record that is refused
    both-refused : (s : S) (records p q : ℕ) (bs : List ℕ) (r : Refusal) → 0 < length bs → parse hash bs ≡ refused r → unplaced (today s records p bs) ≡ unplaced (before s records q bs)
    unfolding decoded_step parsed_step
    both-refused s records p q bs r l e =
        ap unplaced (records-refused (decoded_step hash f) s records p r bs l (rw (still-refused hash bs r e)))
        ∙ sym (ap unplaced (records-refused (parsed_step hash f) s records q r bs l (rw e)))

    -- one that is written anew
    both-taken : (s : S) (records p q : ℕ) (bs : List ℕ) (d : Decoding) (rest : List ℕ) → parse hash bs ≡ taken d → Spelled hash bs d
        → ((t : S) (i j : ℕ) → unplaced (today t (suc records) i rest) ≡ unplaced (before t (suc records) j (drop (40 + d.stats.payload_bytes) bs)))
        → unplaced (today s records p (record_bytes hash d.id d.delta ++ rest)) ≡ unplaced (before s records q bs)
    unfolding decoded_step parsed_step stats_of
    both-taken s records p q bs d rest e x later = go (f s d.delta) refl
      where
        n : ℕ
        n = d.stats.payload_bytes

        m : ℕ
        m = length (payload_bytes d.id d.delta)

        new : List ℕ
        new = record_bytes hash d.id d.delta ++ rest

        size : length (record_bytes hash d.id d.delta) ≡ 40 + m
        size = length-record hash long d.id d.delta

        some : 0 < length new
        some = simp length-append (omega (arith, size))

        some-before : 0 < length bs
        some-before = omega (arith, x.whole)

        go : (o : Outcome S) → f s d.delta ≡ o → unplaced (today s records p new) ≡ unplaced (before s records q bs)
        go (refused r) i =
            ap unplaced (records-refused (decoded_step hash f) s records p r new some (rw (decode-whole hash long d.id d.delta x.fits rest, i)))
            ∙ sym (ap unplaced (records-refused (parsed_step hash f) s records q r bs some-before (rw (e, i))))
        go (taken t) i =
            ap unplaced (records-taken (decoded_step hash f) s records p t m new some (rw (decode-whole hash long d.id d.delta x.fits rest, i)))
            ∙ rw (drop_at (record_bytes hash d.id d.delta) rest (40 + m) size) (later t (p + (40 + m)) (q + (40 + n)))
            ∙ sym (ap unplaced (records-taken (parsed_step hash f) s records q t n bs some-before (rw (e, i))))

    both : {bs : List ℕ} → Walk hash bs → Bytes bs → (s : S) (records p q place : ℕ) → unplaced (today s records p (convert_in hash place bs).bytes) ≡ unplaced (before s records q bs)
    unfolding anew
    both finished b s records p q place =
        rw (convert-refused hash place [] ShortRecord (parse-none hash), records-end (decoded_step hash f) s records p, records-end (parsed_step hash f) s records q)
    both (halted {bs} r l e) b s records p q place = rw (convert-refused hash place bs r e) (both-refused s records p q bs r l e)
    both (next {bs} d e w) b s records p q place =
        let n : ℕ = 40 + d.stats.payload_bytes in
        rw (convert-taken hash place bs d e)
        (both-taken s records p q bs d (convert_in hash (place + n) (drop n bs)).bytes e (parsed hash bs d b e) (λ t i j.
        both w (all_drop (λ x. ltb x 256) n bs b) t (suc records) i j (place + n)))

    pub convert-ends : (bs : List ℕ) → Bytes bs → (s : S)
        → unplaced (records_in (decoded_step hash f) s 0 0 (convert hash bs).bytes) ≡ unplaced (records_in (parsed_step hash f) s 0 0 bs)
    unfolding convert
    convert-ends bs b s = both (walked hash bs) b s 0 0 0 0

  -- ---- the new journal has no leftovers
  -- by the rule before none are seen
  abbrev passed_before : Step (Unit {0})
  passed_before = parsed_step {S = Unit {0}} hash (λ u d. taken u)

  none_before : {bs : List ℕ} → Walk hash bs → Bytes bs → (records p : ℕ) → (records_in passed_before tt records p bs).ended ≡ Refused Leftover → ⊥
  unfolding parsed_step any
  none_before finished b records p f = not-refused (rw (records-end passed_before tt records p) at f)
  none_before (halted {bs} r l e) b records p f =
      let last = records-refused passed_before tt records p r bs l (rw e) in
      let same : r ≡ Leftover = let h = rw last at f in cc in
      false≢true (parse-numbers hash bs Leftover (rw same at e))
  none_before (next {bs} d e w) b records p f =
      let n : ℕ = d.stats.payload_bytes in
      let turn = records-taken passed_before tt records p tt n bs (omega (arith, (parsed hash bs d b e).whole)) (rw e) in
      none_before w (all_drop (λ x. ltb x 256) (40 + n) bs b) (suc records) (p + (40 + n)) (rw turn at f)

  module _ (bs : List ℕ) (b : Bytes bs) where
    scan-ends : (scan hash (convert hash bs).bytes).ended ≡ (records_in passed_before tt 0 0 bs).ended
    unfolding scan
    scan-ends = rw (passing hash) (ap (λ (e : End (Unit {0})). e.ended) (convert-ends (λ u d. taken u) bs b tt))

    pub convert-clean : (scan hash (convert hash bs).bytes).ended ≡ Refused Leftover → ⊥
    convert-clean e = none_before (walked hash bs) b 0 0 (sym scan-ends ∙ e)

  -- so that converting again leaves it as it is
  still : (place id : ℕ) (d : Delta) (rest : List ℕ) → Fits id d → ((at : ℕ) → convert_in hash at rest ≡ unchanged rest)
      → convert_in hash place (record_bytes hash id d ++ rest) ≡ unchanged (record_bytes hash id d ++ rest)
  unfolding stats_of
  still place id d rest f later =
      let m : ℕ = 40 + length (payload_bytes id d) in
      let (parses, z) = (decode-taken hash (record_bytes hash id d ++ rest) _).0 (decode-whole hash long id d f rest) in
      let behind = drop_at (record_bytes hash id d) rest m (length-record hash long id d) in
      stays hash place (record_bytes hash id d ++ rest) _ parses z (rw behind) (rw behind (later (place + m)))

  again : {bs : List ℕ} → Walk hash bs → Bytes bs → (place at : ℕ) → convert_in hash at (convert_in hash place bs).bytes ≡ unchanged (convert_in hash place bs).bytes
  unfolding anew
  again finished b place at = rw (convert-refused hash place [] ShortRecord (parse-none hash)) (convert-refused hash at [] ShortRecord (parse-none hash))
  again (halted {bs} r l e) b place at = rw (convert-refused hash place bs r e) (convert-refused hash at bs r e)
  again (next {bs} d e w) b place at =
      let n : ℕ = 40 + d.stats.payload_bytes in
      rw (convert-taken hash place bs d e)
      (still at d.id d.delta (convert_in hash (place + n) (drop n bs)).bytes (parsed hash bs d b e).fits (again w (all_drop (λ x. ltb x 256) n bs b) (place + n)))

  pub convert-again : (bs : List ℕ) → Bytes bs → convert hash (convert hash bs).bytes ≡ unchanged (convert hash bs).bytes
  unfolding convert
  convert-again bs b = again (walked hash bs) b 0 0

  -- ---- reading the new journal is reading the old one by the rule before, but for the place
  pub convert-reads : (delay : ℕ) (bs es ws cs : List ℕ) → Bytes bs
      → beside_place (read_call hash delay (convert hash bs).bytes es ws cs) ≡ beside_place (read_before hash delay bs es ws cs)
  unfolding read_call read_before damaged read_journal read_out beside_place
  convert-reads delay bs es ws cs b = rw (scan-ends bs b) (go (delay_in_range delay) (damages (records_in passed_before tt 0 0 bs).ended))
    where
      m : Room
      m = room_of es ws cs

      now : ReadIn
      now = read_out delay es ws cs (read_journal hash m (convert hash bs).bytes)

      then : ReadIn
      then = read_out delay es ws cs (records_in (parsed_step hash (apply_delta m)) empty 0 0 bs)

      read : beside_place now ≡ beside_place then
      read = rw (applying hash m) (ap (λ (e : End State). beside_place (read_out delay es ws cs e)) (convert-ends (apply_delta m) bs b empty))

      go : (o c : Bool) → beside_place (pick o (pick c (not_read Damaged es ws cs) now) (not_read BadSetting es ws cs)) ≡ beside_place (pick o (pick c (not_read Damaged es ws cs) then) (not_read BadSetting es ws cs))
      go true true = refl
      go true false = read
      go false c = refl

-- ---- the call
module _ (hash : List ℕ → List ℕ) (bs out dropped : List ℕ) where
  -- the steps of the call, and their tests
  abbrev room : Outcome Conversion
  room = refuse_if (ltb (length dropped) (length (flat dropped_bytes (convert hash bs).dropped))) OutputFull >> taken (convert hash bs)

  abbrev judged : Outcome Conversion
  judged = refuse_if (ltb (length out) (length (convert hash bs).bytes)) OutputFull >> room

  bytes-test : (ltb (length out) (length (convert hash bs).bytes) ≡ true) ↔ (length out < length (convert hash bs).bytes)
  bytes-test = ltb-lt (length out) (length (convert hash bs).bytes)

  list-test : (ltb (length dropped) (length (flat dropped_bytes (convert hash bs).dropped)) ≡ true) ↔ (length dropped < 16 * length (convert hash bs).dropped)
  list-test = rw (length-dropped (convert hash bs).dropped) (ltb-lt (length dropped) (16 * length (convert hash bs).dropped))

  convert-answered : (convert_call hash bs out dropped).result.answer ≡ answer_of judged
  unfolding convert_call converted_out
  convert-answered = go judged
    where
      go : (o : Outcome Conversion) → (converted_out out dropped o).result.answer ≡ answer_of o
      go (refused r) = refl
      go (taken c) = refl

  -- 15, output full: one of the two is shorter than its answer
  pub convert-full : ((convert_call hash bs out dropped).result.answer ≡ Refused OutputFull)
      ↔ ((length out < length (convert hash bs).bytes) ⊎ (length dropped < 16 * length (convert hash bs).dropped))
  convert-full = says judged convert-answered (exactly (ends-twice bytes-test (ends-here list-test taken_refused)) (to, from))
    where
      A : Type 0
      A = length out < length (convert hash bs).bytes

      B : Type 0
      B = length dropped < 16 * length (convert hash bs).dropped

      to : A ⊎ ((¬ A) × B) → A ⊎ B
      to (inl a) = inl a
      to (inr (n, b)) = inr b

      from : A ⊎ B → A ⊎ ((¬ A) × B)
      from (inl a) = inl a
      from (inr b) = elim (dec_lt (length out) (length (convert hash bs).bytes)) [ yes a ↦ inl a | no n ↦ inr (n, b) ]

  -- and no other number
  pub convert-answers : Answers (15 ∷ []) (convert_call hash bs out dropped).result.answer
  unfolding any
  convert-answers q e =
      once (eqb (number_of q) 15)
      (says-numbers (15 ∷ 15 ∷ []) judged convert-answered (refuses-step OutputFull (15 ∷ []) bytes-test (refuses-step OutputFull [] list-test (refuses-none [] (convert hash bs)))) q e)
    where
      once : (b : Bool) → (b || (b || false)) ≡ true → (b || false) ≡ true
      once true f = refl
      once false f = f

  -- an output as long as the journal, and 16 bytes of list for each 57 of it, are always enough
  pub convert-room : ((b : List ℕ) → length (hash b) ≡ 32) → Bytes bs → length bs ≤ length out → 16 * (length bs / 57) ≤ length dropped
      → (convert_call hash bs out dropped).result.answer ≡ Taken
  convert-room long b o l =
      let s = convert-sizes hash long bs b in
      let d = length-dropped (convert hash bs).dropped in
      convert-answered
      ∙ rw (le-ltb (length out) (length (convert hash bs).bytes) (omega arith), le-ltb (length dropped) (length (flat dropped_bytes (convert hash bs).dropped)) (omega arith))
