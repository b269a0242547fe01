-- Each refusal of decoding and of encoding a record, exactly under document 01's condition; neither is refused with another number.
-- Assumes nothing.
use Rattle.std.specs.Prelude.{◌≡◌, ◌↔◌, ◌⊎◌, Bool, not, ◌||◌, length, take, drop, leb, eqb}
use Rattle.std.proofs.Math.Path.{refl}
use Rattle.std.proofs.Common.{sym, ap, ◌∙◌, nltb→le}
use Rattle.std.proofs.Math.Logic.{inl, inr}
use Rattle.std.proofs.Math.Bool.{true, false, false≢true}
use Rattle.std.proofs.Math.Option.{Option, none, some}
use mathlib.Core.List.{List, [], ◌∷◌}
use Prim.Native.Nat.{ℕ, ◌+◌, ◌-◌, ◌^◌, ◌≤◌, ◌<◌}
use native.Mathlib.Omega.{arith}
use Rattle.std.proofs.Math.Decide.{dec_lt}
use Rattle.std.proofs.Math.Dec.{ltb, nleb→lt}
use borrow.Author.Tests.{lt-ltb, ltb-true, ltb-false}
use Rattle.base.specs.Logic.{eqb_list, any, elem}
use Rattle.base.specs.Bytes.{unle}
use Rattle.base.specs.Answers.{Outcome, refused, taken, ◌>>=◌, ◌>>◌, refuse_if, or_refuse, answer_of, number_of, Refused}
use Rattle.base.specs.ListLaws.{leb-le, ltb-lt}
use Rattle.base.specs.OutcomeLaws.{other-number, refused-taken, taken_refused, taken-same, ends-here, ends-later, never_ends, Refuses, refuses-none, refuses-step, last-other, last-refused, last_taken, last-numbers}
use Rattle.base.specs.declared.Refusal.{Refusal}
use Rattle.base.specs.declared.Refusal.TheVariants.{TooLong, OutputFull, ShortRecord, FarLength, Mismatch, Misfit, Broken, Leftover}
use Rattle.slices.specs.Laws.{length_part, eqb_list-true, eqb_list-false}
use Rattle.slices.specs.NumberLaws.{read_le-at, read_le-short}
use Rattle.cell_nursery.specs.Items.{Delta, delta_of}
use Rattle.cell_nursery.specs.Delta.{too_long}
use Rattle.cell_nursery.specs.Calls.{length_width}
use Rattle.base.specs.AnswerLaws.{exactly, ends-twice, missing-here, missing-later, missing-numbers, Answers, says, says-numbers}
use Rattle.cell_nursery.proofs.RefusalLaws.{IsLong, long-test}
use Rattle.format.specs.Payload.{Payload, payload_bytes, payload_of}
use Rattle.format.specs.Record.{Encoding, Decoding, record_bytes, stats_of, encode, parse, leftover, decode, stated_hash, stated, payload, Whole, Matches}
use Rattle.format.proofs.RecordLaws.{length-payload}
use Rattle.format.specs.Calls.{encoded_out, encode_call, decoded_of, decode_call}

-- ---- a payload
-- the delta of the items behind a payload's 16 bytes, as many as these say
abbrev pub items_of : List ℕ → Option Delta
items_of p = delta_of 2 (unle (take 4 (drop 8 p))) (unle (take 4 (drop 12 p))) (drop 16 p)

module _ (p : List ℕ) where
  pub payload-short : length p < 16 → payload_of p ≡ none
  unfolding payload_of
  payload-short h = elim (dec_lt (length p) 8) [ yes a ↦ rw (read_le-short 8 0 p (omega arith) a) | no a ↦ counts a ]
    where
      counts : ¬ (length p < 8) → payload_of p ≡ none
      counts a = elim (dec_lt (length p) 12) [
        | yes b ↦ rw (read_le-at 8 0 p (omega arith), read_le-short 4 8 p (omega arith) b)
        | no b ↦ rw (read_le-at 8 0 p (omega arith), read_le-at 4 8 p (omega arith), read_le-short 4 12 p (omega arith) h)
      ]

  module _ (long : 16 ≤ length p) where
    pub payload-past : items_of p ≡ none → payload_of p ≡ none
    unfolding payload_of
    payload-past e = rw (read_le-at 8 0 p (omega arith), read_le-at 4 8 p (omega arith), read_le-at 4 12 p (omega arith), e)

    pub payload-items : (d : Delta) → items_of p ≡ some d → payload_of p ≡ some (record { id = unle (take 8 p); delta = d })
    unfolding payload_of
    payload-items d e = rw (read_le-at 8 0 p (omega arith), read_le-at 4 8 p (omega arith), read_le-at 4 12 p (omega arith), e)

  none-some : {q : Payload} → payload_of p ≡ none → payload_of p ≡ some q → ⊥
  none-some e f = let z : ◌≡◌ {A = ℕ} 0 1 = cc in omega arith

  -- a payload is none exactly where it has under 16 bytes or items run past it
  pub payload-none : (payload_of p ≡ none) ↔ ((length p < 16) ⊎ (items_of p ≡ none))
  payload-none = (to, from)
    where
      later : 16 ≤ length p → (o : Option Delta) → items_of p ≡ o → payload_of p ≡ none → (length p < 16) ⊎ (items_of p ≡ none)
      later l none i e = inr i
      later l (some d) i e = absurd (none-some e (payload-items l d i))

      to : payload_of p ≡ none → (length p < 16) ⊎ (items_of p ≡ none)
      to e = elim (dec_lt (length p) 16) [ yes h ↦ inl h | no h ↦ later (omega arith) (items_of p) refl e ]

      from : (length p < 16) ⊎ (items_of p ≡ none) → payload_of p ≡ none
      from (inl h) = payload-short h
      from (inr i) = elim (dec_lt (length p) 16) [ yes h ↦ payload-short h | no h ↦ payload-past (omega arith) i ]

  -- else it has an id and the delta of its items
  pub payload-some : (q : Payload) → (payload_of p ≡ some q) ↔ ((16 ≤ length p) × (items_of p ≡ some q.delta) × (q.id ≡ unle (take 8 p)))
  payload-some q = (to, λ (l, i, e). payload-items l q.delta i ∙ rw (← e))
    where
      Parts : Type 0
      Parts = (16 ≤ length p) × (items_of p ≡ some q.delta) × (q.id ≡ unle (take 8 p))

      later : 16 ≤ length p → (o : Option Delta) → items_of p ≡ o → payload_of p ≡ some q → Parts
      later l none i e = absurd (none-some (payload-past l i) e)
      later l (some d) i e =
          let f = payload-items l d i in
          let same : record { id = unle (take 8 p); delta = d } ≡ q = cc in
          (l, i ∙ ap (λ (x : Payload). some x.delta) same, sym (ap (λ (x : Payload). x.id) same))

      to : payload_of p ≡ some q → Parts
      to e = elim (dec_lt (length p) 16) [ yes h ↦ absurd (none-some (payload-short h) e) | no h ↦ later (omega arith) (items_of p) refl e ]

-- ---- parsing
module _ (hash : List ℕ → List ℕ) (bs : List ℕ) where
  abbrev decoding : Payload → Decoding
  decoding p = record { id = p.id; hash = take 32 bs; delta = p.delta; stats = stats_of (stated bs) p.delta }

  abbrev last : Outcome Decoding
  last = or_refuse Misfit (payload_of (payload bs)) >>= (λ p. taken (decoding p))

  -- the tests
  head-test : (ltb (length bs) 40 ≡ true) ↔ (length bs < 40)
  head-test = ltb-lt (length bs) 40

  far-test : (leb (2 ^ 64 - 8) (stated bs) ≡ true) ↔ (2 ^ 64 - 8 ≤ stated bs)
  far-test = leb-le (2 ^ 64 - 8) (stated bs)

  cut-test : (ltb (length bs) (40 + stated bs) ≡ true) ↔ (length bs < 40 + stated bs)
  cut-test = ltb-lt (length bs) (40 + stated bs)

  hash-test : (not (eqb_list (hash (take (8 + stated bs) (drop 32 bs))) (take 32 bs)) ≡ true) ↔ (¬ Matches hash bs)
  hash-test = go (eqb_list (hash (take (8 + stated bs) (drop 32 bs))) (take 32 bs)) refl
    where
      go : (b : Bool) → eqb_list (hash (take (8 + stated bs) (drop 32 bs))) (take 32 bs) ≡ b → (not b ≡ true) ↔ (¬ Matches hash bs)
      go true e = (λ f. absurd (false≢true f), λ n. absurd (n (eqb_list-true (hash (take (8 + stated bs) (drop 32 bs))) (take 32 bs) e)))
      go false e = (λ f. eqb_list-false (hash (take (8 + stated bs) (drop 32 bs))) (take 32 bs) e, λ n. refl)

  misfit-numbers : Refuses (19 ∷ []) last
  misfit-numbers = missing-numbers Misfit (payload_of (payload bs)) (λ p. taken (decoding p)) [] (λ p. refuses-none [] (decoding p))

  -- 16, short record: under 40 bytes, or fewer than 40 + stated length
  pub parse-short : (parse hash bs ≡ refused ShortRecord) ↔ ((length bs < 40) ⊎ ((stated bs < 2 ^ 64 - 8) × (length bs < 40 + stated bs)))
  unfolding parse any
  parse-short =
      exactly
      (ends-twice head-test
      (ends-later far-test (other-number (omega arith))
      (ends-here cut-test (never_ends hash-test (other-number (omega arith)) (λ e. false≢true (misfit-numbers ShortRecord e))))))
      (to, from)
    where
      to : (length bs < 40) ⊎ ((¬ (length bs < 40)) × ((¬ (2 ^ 64 - 8 ≤ stated bs)) × (length bs < 40 + stated bs))) → (length bs < 40) ⊎ ((stated bs < 2 ^ 64 - 8) × (length bs < 40 + stated bs))
      to (inl h) = inl h
      to (inr (h, (n, k))) = inr (omega arith, k)

      from : (length bs < 40) ⊎ ((stated bs < 2 ^ 64 - 8) × (length bs < 40 + stated bs)) → (length bs < 40) ⊎ ((¬ (length bs < 40)) × ((¬ (2 ^ 64 - 8 ≤ stated bs)) × (length bs < 40 + stated bs)))
      from (inl h) = inl h
      from (inr (n, k)) = elim (dec_lt (length bs) 40) [ yes h ↦ inl h | no h ↦ inr (h, ((λ f. omega arith), k)) ]

  -- 17, far length: stated length at or above 2^64 − 8
  pub parse-far : (parse hash bs ≡ refused FarLength) ↔ ((40 ≤ length bs) × (2 ^ 64 - 8 ≤ stated bs))
  unfolding parse any
  parse-far =
      exactly
      (ends-later head-test (other-number (omega arith))
      (ends-here far-test (never_ends cut-test (other-number (omega arith)) (never_ends hash-test (other-number (omega arith)) (λ e. false≢true (misfit-numbers FarLength e))))))
      ((λ p. (omega (arith, p.0), p.1)), λ p. ((λ h. omega (arith, p.0)), p.1))

  -- what comes behind these tests comes where the record is whole
  whole-then : {w : Outcome Decoding} {Q : Type 0} {o : Outcome Decoding} → (refused ShortRecord ≡ w → ⊥) → (refused FarLength ≡ w → ⊥) → (o ≡ w) ↔ Q
      → ((refuse_if (ltb (length bs) 40) ShortRecord >> (refuse_if (leb (2 ^ 64 - 8) (stated bs)) FarLength >> (refuse_if (ltb (length bs) (40 + stated bs)) ShortRecord >> o))) ≡ w) ↔ (Whole bs × Q)
  whole-then short far rest =
      exactly (ends-later head-test short (ends-later far-test far (ends-later cut-test short rest)))
      ((λ (h, (f, (c, q))). ((omega arith, omega arith), q)), λ (h, q). ((λ l. omega (arith, h.1)), ((λ l. omega (arith, h.0)), ((λ l. omega (arith, h.1)), q))))

  -- 18, mismatch: the record hash is wrong
  pub parse-mismatch : (parse hash bs ≡ refused Mismatch) ↔ (Whole bs × (¬ Matches hash bs))
  unfolding parse any
  parse-mismatch = whole-then (other-number (omega arith)) (other-number (omega arith)) (ends-here hash-test (λ e. false≢true (misfit-numbers Mismatch e)))

  -- what comes behind this one comes where the hash is right
  matches : ¬ (¬ Matches hash bs) → Matches hash bs
  matches n = go (eqb_list (hash (take (8 + stated bs) (drop 32 bs))) (take 32 bs)) refl
    where
      go : (b : Bool) → eqb_list (hash (take (8 + stated bs) (drop 32 bs))) (take 32 bs) ≡ b → Matches hash bs
      go true e = eqb_list-true (hash (take (8 + stated bs) (drop 32 bs))) (take 32 bs) e
      go false e = absurd (n (eqb_list-false (hash (take (8 + stated bs) (drop 32 bs))) (take 32 bs) e))

  -- 19, misfit: stated length under 16, or items run past it
  pub parse-misfit : (parse hash bs ≡ refused Misfit) ↔ (Whole bs × Matches hash bs × ((stated bs < 16) ⊎ (items_of (payload bs) ≡ none)))
  unfolding parse
  parse-misfit =
      exactly
      (whole-then (other-number (omega arith)) (other-number (omega arith))
      (ends-later hash-test (other-number (omega arith)) (exactly (missing-here Misfit (payload_of (payload bs)) (λ p. taken (decoding p)) (λ p e. taken_refused e)) (payload-none (payload bs)))))
      ((λ (w, (n, s)). (w, matches n, fewer w s)), λ (w, e, s). (w, ((λ n. n e), more w s)))
    where
      fewer : Whole bs → (length (payload bs) < 16) ⊎ (items_of (payload bs) ≡ none) → (stated bs < 16) ⊎ (items_of (payload bs) ≡ none)
      fewer w (inl h) = inl (omega (arith, length_part bs 40 (stated bs) w.1))
      fewer w (inr e) = inr e

      more : Whole bs → (stated bs < 16) ⊎ (items_of (payload bs) ≡ none) → (length (payload bs) < 16) ⊎ (items_of (payload bs) ≡ none)
      more w (inl h) = inl (omega (arith, length_part bs 40 (stated bs) w.1))
      more w (inr e) = inr e

  -- taken: none of the four
  pub parse-taken : (x : Decoding) → (parse hash bs ≡ taken x)
      ↔ (Whole bs × Matches hash bs × ((p : Payload) × (payload_of (payload bs) ≡ some p) × (x ≡ record { id = p.id; hash = take 32 bs; delta = p.delta; stats = stats_of (stated bs) p.delta })))
  unfolding parse
  parse-taken x =
      exactly
      (whole-then refused-taken refused-taken (ends-later hash-test refused-taken (missing-later Misfit (payload_of (payload bs)) (λ p. taken (decoding p)) refused-taken)))
      ((λ (w, (n, (p, i, e))). (w, matches n, (p, i, (taken-same (decoding p) x).0 e))), λ (w, m, (p, i, e)). (w, ((λ n. n m), (p, i, (taken-same (decoding p) x).1 e))))

  -- 16 to 19, and no other
  pub parse-numbers : Refuses (16 ∷ 17 ∷ 18 ∷ 19 ∷ []) (parse hash bs)
  unfolding parse any
  parse-numbers q e =
      once (eqb (number_of q) 16) (eqb (number_of q) 17) (elem (number_of q) (18 ∷ 19 ∷ []))
      (refuses-step ShortRecord (17 ∷ 16 ∷ 18 ∷ 19 ∷ []) head-test
      (refuses-step FarLength (16 ∷ 18 ∷ 19 ∷ []) far-test
      (refuses-step ShortRecord (18 ∷ 19 ∷ []) cut-test (refuses-step Mismatch (19 ∷ []) hash-test misfit-numbers))) q e)
    where
      once : (a b c : Bool) → (a || (b || (a || c))) ≡ true → (a || (b || c)) ≡ true
      once true b c f = refl
      once false true c f = refl
      once false false c f = f

  -- where a whole record is known to have its hash, the stated one will do
  pub parse-known : (Whole bs → Matches hash bs) → parse (stated_hash bs) bs ≡ parse hash bs
  unfolding parse
  parse-known known = go (ltb (length bs) 40) (leb (2 ^ 64 - 8) (stated bs)) (ltb (length bs) (40 + stated bs)) refl refl
    where
      -- what comes behind the tests of the lengths, by a hash
      rest : (List ℕ → List ℕ) → Outcome Decoding
      rest h = refuse_if (not (eqb_list (h (take (8 + stated bs) (drop 32 bs))) (take 32 bs))) Mismatch >> last

      same : Matches hash bs → rest (stated_hash bs) ≡ rest hash
      same e = rw e

      go : (a b c : Bool) → leb (2 ^ 64 - 8) (stated bs) ≡ b → ltb (length bs) (40 + stated bs) ≡ c
          → (refuse_if a ShortRecord >> (refuse_if b FarLength >> (refuse_if c ShortRecord >> rest (stated_hash bs)))) ≡ (refuse_if a ShortRecord >> (refuse_if b FarLength >> (refuse_if c ShortRecord >> rest hash)))
      go true b c near whole = refl
      go false true c near whole = refl
      go false false true near whole = refl
      go false false false near whole = same (known (nleb→lt (2 ^ 64 - 8) (stated bs) (rw near tt), nltb→le (length bs) (40 + stated bs) (rw whole tt)))

  -- ---- decoding, by what parsing gives
  pub decode-known : (Whole bs → Matches hash bs) → decode (stated_hash bs) bs ≡ decode hash bs
  unfolding decode
  decode-known known = rw (parse-known known)

  pub still-refused : (r : Refusal) → parse hash bs ≡ refused r → decode hash bs ≡ refused r
  unfolding decode
  still-refused r e = rw e

  pub still-taken : (x : Decoding) → parse hash bs ≡ taken x → leftover x.stats ≡ 0 → decode hash bs ≡ taken x
  unfolding decode
  still-taken x e z = rw (e, z)

  pub left_over : (x : Decoding) → parse hash bs ≡ taken x → 0 < leftover x.stats → decode hash bs ≡ refused Leftover
  unfolding decode
  left_over x e h = rw (e, lt-ltb 0 (leftover x.stats) h)

  -- a refusal with another number than 22 is parsing's
  refused-before : {q : Refusal} → (number_of Leftover ≡ number_of q → ⊥) → (decode hash bs ≡ refused q) ↔ (parse hash bs ≡ refused q)
  unfolding decode
  refused-before other = last-other (λ (d : Decoding). ltb 0 (leftover d.stats)) Leftover (parse hash bs) other

  -- 16, short record
  pub decode-short : (decode hash bs ≡ refused ShortRecord) ↔ ((length bs < 40) ⊎ ((stated bs < 2 ^ 64 - 8) × (length bs < 40 + stated bs)))
  decode-short = exactly (refused-before (omega arith)) parse-short

  -- 17, far length
  pub decode-far : (decode hash bs ≡ refused FarLength) ↔ ((40 ≤ length bs) × (2 ^ 64 - 8 ≤ stated bs))
  decode-far = exactly (refused-before (omega arith)) parse-far

  -- 18, mismatch
  pub decode-mismatch : (decode hash bs ≡ refused Mismatch) ↔ (Whole bs × (¬ Matches hash bs))
  decode-mismatch = exactly (refused-before (omega arith)) parse-mismatch

  -- 19, misfit
  pub decode-misfit : (decode hash bs ≡ refused Misfit) ↔ (Whole bs × Matches hash bs × ((stated bs < 16) ⊎ (items_of (payload bs) ≡ none)))
  decode-misfit = exactly (refused-before (omega arith)) parse-misfit

  -- a payload's bytes beside its stated length
  over : (p : Payload) → (0 < leftover (stats_of (stated bs) p.delta)) ↔ (length (payload_bytes p.id p.delta) < stated bs)
  unfolding leftover stats_of
  over p = let l = length-payload p.id p.delta in ((λ h. omega arith), λ h. omega arith)

  -- 22, leftover bytes: the payload's items end before its stated length does
  pub decode-leftover : (decode hash bs ≡ refused Leftover)
      ↔ (Whole bs × Matches hash bs × ((p : Payload) × (payload_of (payload bs) ≡ some p) × (length (payload_bytes p.id p.delta) < stated bs)))
  unfolding decode any
  decode-leftover =
      exactly (last-refused (λ (d : Decoding). ltb 0 (leftover d.stats)) Leftover (parse hash bs) (λ e. false≢true (parse-numbers Leftover e))) (
        (λ (d, i, h).
            let (w, m, (p, j, same)) = (parse-taken d).0 i in
            let k = ltb-true 0 (leftover d.stats) h in
            (w, m, (p, j, (over p).0 (rw same at k)))),
        λ (w, m, (p, j, h)). (decoding p, (parse-taken (decoding p)).1 (w, m, (p, j, refl)), lt-ltb 0 (leftover (decoding p).stats) ((over p).1 h)),
      )

  -- taken: none of the five
  pub decode-taken : (x : Decoding) → (decode hash bs ≡ taken x) ↔ ((parse hash bs ≡ taken x) × (leftover x.stats ≡ 0))
  unfolding decode
  decode-taken x =
      exactly (last_taken (λ (d : Decoding). ltb 0 (leftover d.stats)) Leftover (parse hash bs) x)
      ((λ (i, f). (i, omega (arith, ltb-false 0 (leftover x.stats) f))), λ (i, z). (i, rw z))

  -- 16 to 19 and 22, and no other
  pub decode-numbers : Refuses (16 ∷ 17 ∷ 18 ∷ 19 ∷ 22 ∷ []) (decode hash bs)
  unfolding decode
  decode-numbers = last-numbers (λ (d : Decoding). ltb 0 (leftover d.stats)) Leftover (16 ∷ 17 ∷ 18 ∷ 19 ∷ []) (parse hash bs) parse-numbers

  -- the call's answer
  decode-answered : (decode_call hash bs).answer ≡ answer_of (decode hash bs)
  unfolding decode_call decoded_of
  decode-answered = go (decode hash bs)
    where
      go : (o : Outcome Decoding) → (decoded_of o).answer ≡ answer_of o
      go (refused r) = refl
      go (taken x) = refl

  -- the numbers are the operation's
  pub decode-answer : (r : Refusal) → ((decode_call hash bs).answer ≡ Refused r) ↔ (decode hash bs ≡ refused r)
  decode-answer r = says (decode hash bs) decode-answered (λ e. e, λ e. e)

  pub decode-call-numbers : Answers (16 ∷ 17 ∷ 18 ∷ 19 ∷ 22 ∷ []) (decode_call hash bs).answer
  decode-call-numbers = says-numbers (16 ∷ 17 ∷ 18 ∷ 19 ∷ 22 ∷ []) (decode hash bs) decode-answered decode-numbers

-- ---- encoding
module _ (hash : List ℕ → List ℕ) (id : ℕ) (wide : Bool) (inserts removes : ℕ) (items out : List ℕ) where
  abbrev spelled : Option Delta
  spelled = delta_of (length_width wide) inserts removes items

  abbrev written : Delta → Outcome Encoding
  written d = encode hash id d >>= (λ e. refuse_if (ltb (length out) (length e.bytes)) OutputFull >> taken e)

  abbrev encoded : Outcome Encoding
  encoded = or_refuse Broken spelled >>= written

  encode-answered : (encode_call hash id wide inserts removes items out).result.answer ≡ answer_of encoded
  unfolding encode_call encoded_out
  encode-answered = go encoded
    where
      go : (o : Outcome Encoding) → (encoded_out out o).result.answer ≡ answer_of o
      go (refused r) = refl
      go (taken e) = refl

  -- a delta's steps
  module _ (d : Delta) where
    abbrev made : Encoding
    made = record { bytes = record_bytes hash id d; stats = stats_of (length (payload_bytes id d)) d }

    steps : written d ≡ (refuse_if (too_long d) TooLong >> (refuse_if (ltb (length out) (length (record_bytes hash id d))) OutputFull >> taken made))
    unfolding encode
    steps = go (too_long d)
      where
        go : (b : Bool) → ((refuse_if b TooLong >> taken made) >>= (λ e. refuse_if (ltb (length out) (length e.bytes)) OutputFull >> taken e))
            ≡ (refuse_if b TooLong >> (refuse_if (ltb (length out) (length (record_bytes hash id d))) OutputFull >> taken made))
        go true = refl
        go false = refl

    full-test : (ltb (length out) (length (record_bytes hash id d)) ≡ true) ↔ (length out < length (record_bytes hash id d))
    full-test = ltb-lt (length out) (length (record_bytes hash id d))

    written-long : (written d ≡ refused TooLong) ↔ IsLong d
    written-long = rw steps (ends-here (long-test d) (never_ends full-test (other-number (omega arith)) taken_refused))

    written-full : (written d ≡ refused OutputFull) ↔ ((¬ IsLong d) × (length out < length (record_bytes hash id d)))
    written-full = rw steps (ends-later (long-test d) (other-number (omega arith)) (ends-here full-test taken_refused))

    written-numbers : Refuses (14 ∷ 15 ∷ []) (written d)
    written-numbers = rw steps (refuses-step TooLong (15 ∷ []) (long-test d) (refuses-step OutputFull [] full-test (refuses-none [] made)))

  -- the delta that the items spell, where it is so
  later : {q : Refusal} {Q : Delta → Type 0} → (number_of q ≡ 20 → ⊥) → ((d : Delta) → (written d ≡ refused q) ↔ Q d)
      → ((encode_call hash id wide inserts removes items out).result.answer ≡ Refused q) ↔ ((d : Delta) × (spelled ≡ some d) × Q d)
  later {q} other rest =
      says encoded encode-answered
      (exactly (missing-later Broken spelled written (λ e. other (cc))) ((λ (d, i, e). (d, i, (rest d).0 e)), λ (d, i, e). (d, i, (rest d).1 e)))

  -- 20, broken: the items run past their bytes
  pub encode-broken : ((encode_call hash id wide inserts removes items out).result.answer ≡ Refused Broken) ↔ (delta_of (length_width wide) inserts removes items ≡ none)
  unfolding any
  encode-broken = says encoded encode-answered (missing-here Broken spelled written (λ d e. false≢true (written-numbers d Broken e)))

  -- 14, too long: the delta that they spell has a long cell or list
  pub encode-long : ((encode_call hash id wide inserts removes items out).result.answer ≡ Refused TooLong) ↔ ((d : Delta) × (delta_of (length_width wide) inserts removes items ≡ some d) × IsLong d)
  encode-long = later (omega arith) written-long

  -- 15, output full: it doesn't, and its record is longer than the output
  pub encode-full : ((encode_call hash id wide inserts removes items out).result.answer ≡ Refused OutputFull)
      ↔ ((d : Delta) × (delta_of (length_width wide) inserts removes items ≡ some d) × ((¬ IsLong d) × (length out < length (record_bytes hash id d))))
  encode-full = later (omega arith) written-full

  -- 20, 14 or 15, and no other
  pub encode-numbers : Answers (20 ∷ 14 ∷ 15 ∷ []) (encode_call hash id wide inserts removes items out).result.answer
  encode-numbers = says-numbers (20 ∷ 14 ∷ 15 ∷ []) encoded encode-answered (missing-numbers Broken spelled written (14 ∷ 15 ∷ []) written-numbers)
