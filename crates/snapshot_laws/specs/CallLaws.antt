-- The calls: what is written of a record and a table that hold a state, read into a table with room, leaves that state with fresh maintenance;
-- when they are refused; and what reading leaves, whatever the bytes.
-- Assumes nothing.
use Rattle.std.specs.Prelude.{◌≡◌, ◌↔◌, ◌⊎◌, Bool, false, get_or, take, drop}
use Rattle.std.proofs.Math.Path.{refl, ap}
use Rattle.std.proofs.Common.{sym, ◌∙◌, arith, take_at}
use Rattle.std.proofs.Math.Bool.{true, false≢true}
use mathlib.Core.List.{List, [], ◌∷◌}
use Prim.Native.Nat.{ℕ, zero, suc, ◌^◌, ◌≤◌, ◌<◌}
use Rattle.std.proofs.Math.Decide.{dec_lt}
use Rattle.std.proofs.Math.ListN.{length}
use Rattle.std.proofs.Math.Dec.{ltb}
use borrow.Author.Tests.{le-ltb, lt-ltb}
use Rattle.base.specs.ListLaws.{all_drop}
use Rattle.base.specs.Logic.{all, any, elem, overlay}
use Rattle.base.specs.Laws.{and_left, and_right}
use Rattle.base.specs.Answers.{Outcome, refused, taken, number_of, answer_number, answer_of, Answer, Taken, Refused}
use Rattle.base.specs.AnswerLaws.{not-refused, exactly, Answers, says-numbers}
use Rattle.base.specs.OutcomeLaws.{taken_refused, refuses-none, answer-refused}
use Rattle.base.specs.declared.Refusal.{Refusal}
use Rattle.base.specs.declared.Refusal.TheVariants.{Broken, OutputFull, BadSetting}
use Rattle.base.specs.Output.{Written, fitting, put, written}
use Rattle.rows.specs.Table.{rows_of}
use Rattle.rows.proofs.TableLaws.{length-rows_of}
use Rattle.counters.specs.declared.ShrinkSettings.{ShrinkSettings}
use Rattle.counters.specs.declared.Counters.{Counters}
use Rattle.counters.specs.Counts.{State}
use Rattle.counters.specs.Maintenance.{in_range}
use Rattle.counters.specs.Layout.{count_row, room_of, record_of, state_of, holds}
use Rattle.counters.proofs.LayoutLaws.{held, length-table_of, state_of-laid, holds-laid}
use Rattle.counters.specs.Calls.{on_state, laid, laid_out, with_settings, no_counters, laid_in}
use Rattle.counters.proofs.CallLaws.{on_state-held, on_state-broken, broken-exactly, on_state-numbers, with-ranged, with-other, with-setting, with-numbers, laid_out-answer, laid_out-refused}
use Rattle.snapshot.specs.Write.{snapshot_bytes}
use Rattle.snapshot.specs.Read.{read_snapshot}
use Rattle.snapshot.specs.Calls.{length_call, serialize_call, deserialize_call}
use Rattle.snapshot_laws.specs.RoundTrip.{WellFormed, renewed, read-snapshot}
use Rattle.snapshot_laws.specs.RefusalLaws.{parse-ordered, parse-fits, read-numbers, read-parsed, read-bounded}

-- ---- a table of u64 holds u64
module _ (p : ℕ → Bool) where
  pub word-passes : (t : List ℕ) (i : ℕ) → p 0 ≡ true → all p t ≡ true → p (get_or t i 0) ≡ true
  unfolding all
  word-passes [] i z a = z
  word-passes (x ∷ t) zero z a = and_left (p x) (all p t) a
  word-passes (x ∷ t) (suc i) z a = word-passes t i z (and_right (p x) (all p t) a)

  rows_pass : (n : ℕ) (t : List ℕ) → p 0 ≡ true → all p t ≡ true → all (λ e. p e.count) (rows_of count_row n t) ≡ true
  unfolding all rows_of
  rows_pass zero t z a = refl
  rows_pass (suc n) t z a = rw (word-passes t 1 z a) (rows_pass n (drop 2 t) z (all_drop p 2 t a))

module _ (c : Counters) (t : List ℕ) (h : holds c t ≡ true) where
  -- the state that they hold is well-formed where their numbers are u64
  pub held-well-formed : c.next_idx.0 < 2 ^ 64 → c.live_cells < 2 ^ 64 → all (λ w. ltb w (2 ^ 64)) t ≡ true → WellFormed (state_of c t)
  unfolding state_of
  held-well-formed n l a =
      record {
        spelled = record { next_fits = n; live_fits = l; sorted = (held c t h).sorted; counts_fit = rows_pass (λ w. ltb w (2 ^ 64)) c.stored t refl a };
        bounded = rw (length-rows_of count_row c.stored t) (held c t h).bounded;
      }

  -- ---- writing
  module _ (out : List ℕ) (long : length (snapshot_bytes (state_of c t)) ≤ length out) where
    pub serialize-held : serialize_call c t out
        ≡ record { result = record { answer = Taken; len = length (snapshot_bytes (state_of c t)) }; out = overlay (snapshot_bytes (state_of c t)) out }
    unfolding serialize_call written fitting put
    serialize-held = rw (on_state-held c t (λ s. taken (snapshot_bytes s)) h, le-ltb (length out) (length (snapshot_bytes (state_of c t))) long)

    -- what is given is the snapshot
    pub serialize-gives : take (serialize_call c t out).result.len (serialize_call c t out).out ≡ snapshot_bytes (state_of c t)
    unfolding overlay
    serialize-gives =
        let bs : List ℕ = snapshot_bytes (state_of c t) in
        rw serialize-held (take_at bs (drop (length bs) out) (length bs) refl)

-- ---- the refusals of writing
module _ (c : Counters) (t out : List ℕ) where
  abbrev long : ℕ
  long = length (snapshot_bytes (state_of c t))

  broken-written : holds c t ≡ false → serialize_call c t out ≡ record { result = record { answer = Refused Broken; len = 0 }; out = out }
  unfolding serialize_call written fitting put
  broken-written h = rw (on_state-broken c t (λ s. taken (snapshot_bytes s)) h)

  full-written : holds c t ≡ true → length out < long → serialize_call c t out ≡ record { result = record { answer = Refused OutputFull; len = 0 }; out = out }
  unfolding serialize_call written fitting put
  full-written h l = rw (on_state-held c t (λ s. taken (snapshot_bytes s)) h, lt-ltb (length out) long l)

  -- 20, broken: exactly where the record and the table hold no state
  pub serialize-broken : ((serialize_call c t out).result.answer ≡ Refused Broken) ↔ (holds c t ≡ false)
  serialize-broken = (to (holds c t) refl, λ h. ap (λ (w : Written). w.result.answer) (broken-written h))
    where
      to : (b : Bool) → holds c t ≡ b → (serialize_call c t out).result.answer ≡ Refused Broken → b ≡ false
      to false h e = refl
      to true h e =
          elim (dec_lt (length out) long) [
            | yes l ↦ absurd (other (sym (ap (λ (w : Written). w.result.answer) (full-written h l)) ∙ e))
            | no l ↦ absurd (not-refused (sym (ap (λ (w : Written). w.result.answer) (serialize-held c t h out (omega arith))) ∙ e))
          ]
        where
          other : Refused OutputFull ≡ Refused Broken → ⊥
          other q = let z : ◌≡◌ {A = ℕ} 15 20 = ap answer_number q in omega arith

  -- 15, output full: the output is shorter than the snapshot
  pub serialize-full : ((serialize_call c t out).result.answer ≡ Refused OutputFull) ↔ ((holds c t ≡ true) × (length out < long))
  serialize-full = (to (holds c t) refl, λ p. ap (λ (w : Written). w.result.answer) (full-written p.0 p.1))
    where
      to : (b : Bool) → holds c t ≡ b → (serialize_call c t out).result.answer ≡ Refused OutputFull → (b ≡ true) × (length out < long)
      to false h e = absurd (other (sym (ap (λ (w : Written). w.result.answer) (broken-written h)) ∙ e))
        where
          other : Refused Broken ≡ Refused OutputFull → ⊥
          other q = let z : ◌≡◌ {A = ℕ} 20 15 = ap answer_number q in omega arith
      to true h e =
          elim (dec_lt (length out) long) [
            | yes l ↦ (refl, l)
            | no l ↦ absurd (not-refused (sym (ap (λ (w : Written). w.result.answer) (serialize-held c t h out (omega arith))) ∙ e))
          ]

  -- 20 or 15, and no other
  pub serialize-numbers : (q : Refusal) → (serialize_call c t out).result.answer ≡ Refused q → elem (number_of q) (20 ∷ 15 ∷ []) ≡ true
  unfolding any
  serialize-numbers q e = go (holds c t) refl
    where
      among : (r : Refusal) → Refused r ≡ Refused q → elem (number_of r) (20 ∷ 15 ∷ []) ≡ true → elem (number_of q) (20 ∷ 15 ∷ []) ≡ true
      among r f i = let same : q ≡ r = cc in rw same i

      go : (b : Bool) → holds c t ≡ b → elem (number_of q) (20 ∷ 15 ∷ []) ≡ true
      go false h = among Broken (sym (ap (λ (w : Written). w.result.answer) (broken-written h)) ∙ e) refl
      go true h =
          elim (dec_lt (length out) long) [
            | yes l ↦ among OutputFull (sym (ap (λ (w : Written). w.result.answer) (full-written h l)) ∙ e) refl
            | no l ↦ absurd (not-refused (sym (ap (λ (w : Written). w.result.answer) (serialize-held c t h out (omega arith))) ∙ e))
          ]

  -- a refusal leaves the output as it was
  pub serialize-refused : (r : Refusal) → (serialize_call c t out).result.answer ≡ Refused r → ((serialize_call c t out).result.len ≡ 0) × ((serialize_call c t out).out ≡ out)
  serialize-refused r e = go (holds c t) refl
    where
      go : (b : Bool) → holds c t ≡ b → ((serialize_call c t out).result.len ≡ 0) × ((serialize_call c t out).out ≡ out)
      go false h = rw (broken-written h) (refl, refl)
      go true h =
          elim (dec_lt (length out) long) [
            | yes l ↦ rw (full-written h l) (refl, refl)
            | no l ↦ absurd (not-refused (sym (ap (λ (w : Written). w.result.answer) (serialize-held c t h out (omega arith))) ∙ e))
          ]

-- ---- the refusals of measuring
module _ (c : Counters) (t : List ℕ) where
  abbrev measured : Outcome ℕ
  measured = on_state c t (λ s. taken (length (snapshot_bytes s)))

  -- 20, broken: exactly where the record and the table hold no state
  pub length-broken : ((length_call c t).answer ≡ Refused Broken) ↔ (holds c t ≡ false)
  unfolding length_call
  length-broken = broken-exactly c t (λ s. taken (length (snapshot_bytes s))) (λ s e. taken_refused e)

  -- and no other
  pub length-numbers : (q : Refusal) → (length_call c t).answer ≡ Refused q → elem (number_of q) (20 ∷ []) ≡ true
  unfolding length_call
  length-numbers q e =
      on_state-numbers c t (λ s. taken (length (snapshot_bytes s))) [] (refuses-none [] (length (snapshot_bytes (state_of c t)))) q ((answer-refused measured q).0 e)

-- ---- reading what was written
module _ (g : ShrinkSettings) (ranged : in_range g ≡ true) (s : State) (w : WellFormed s) (t : List ℕ) (room : length s.counts ≤ room_of t) where
  pub deserialize-written : deserialize_call g (snapshot_bytes s) t ≡ laid g (length t) (renewed g.base s)
  unfolding deserialize_call laid_in laid_out
  deserialize-written = rw (with-ranged g (read_snapshot g.base (room_of t) (snapshot_bytes s)) ranged, read-snapshot g.base (room_of t) s w room)

  -- the record and the table hold that state, and the table keeps its length
  pub deserialize-state : state_of (deserialize_call g (snapshot_bytes s) t).result.counters (deserialize_call g (snapshot_bytes s) t).table ≡ renewed g.base s
  unfolding laid
  deserialize-state = rw deserialize-written (state_of-laid g (renewed g.base s) (length t) (omega arith))

  pub deserialize-holds : holds (deserialize_call g (snapshot_bytes s) t).result.counters (deserialize_call g (snapshot_bytes s) t).table ≡ true
  unfolding laid
  deserialize-holds = rw deserialize-written (holds-laid g (renewed g.base s) (length t) (omega arith) ranged w.spelled.sorted w.bounded)

  pub deserialize-length : length (deserialize_call g (snapshot_bytes s) t).table ≡ length t
  unfolding laid
  deserialize-length = rw deserialize-written (length-table_of g (renewed g.base s) (length t) (omega arith))

-- what a record and a table hold, written and read into another table
pub deserialize-held : (g : ShrinkSettings) (c : Counters) (t t' : List ℕ) → in_range g ≡ true → holds c t ≡ true → WellFormed (state_of c t) → c.stored ≤ room_of t'
    → deserialize_call g (snapshot_bytes (state_of c t)) t' ≡ laid g (length t') (renewed g.base (state_of c t))
unfolding state_of
deserialize-held g c t t' ranged h w r = deserialize-written g ranged (state_of c t) w t' (omega (arith, length-rows_of count_row c.stored t))

-- ---- reading any bytes into a table of any content
module _ (g : ShrinkSettings) (bs t : List ℕ) where
  abbrev pub parsed_or : Outcome State
  parsed_or = with_settings g (read_snapshot g.base (room_of t) bs)

  answered : (deserialize_call g bs t).result.answer ≡ answer_of parsed_or
  unfolding deserialize_call laid_in
  answered = laid_out-answer g no_counters t parsed_or

  -- the numbers: 23, and those of the operation
  pub deserialize-given : (r : Refusal) → ((deserialize_call g bs t).result.answer ≡ Refused r) ↔ (parsed_or ≡ refused r)
  deserialize-given r = rw answered (answer-refused parsed_or r)

  -- 23, bad setting: exactly where a setting is outside its range, whatever the bytes are
  pub deserialize-setting : ((deserialize_call g bs t).result.answer ≡ Refused BadSetting) ↔ ((g.base ≡ 0) ⊎ (g.max < g.base))
  unfolding any
  deserialize-setting =
      exactly (deserialize-given BadSetting)
      (with-setting g (read_snapshot g.base (room_of t) bs) (λ e. false≢true (read-numbers g.base (room_of t) bs BadSetting e)))

  -- 23, 8, 7, 9, 10, 11, 6 or 25, and no other
  pub deserialize-numbers : Answers (23 ∷ 8 ∷ 7 ∷ 9 ∷ 10 ∷ 11 ∷ 6 ∷ 25 ∷ []) (deserialize_call g bs t).result.answer
  deserialize-numbers =
      says-numbers (23 ∷ 8 ∷ 7 ∷ 9 ∷ 10 ∷ 11 ∷ 6 ∷ 25 ∷ []) parsed_or answered
      (with-numbers g (read_snapshot g.base (room_of t) bs) (8 ∷ 7 ∷ 9 ∷ 10 ∷ 11 ∷ 6 ∷ 25 ∷ []) (read-numbers g.base (room_of t) bs))

  -- the other numbers are the operation's
  pub deserialize-answer : in_range g ≡ true → (r : Refusal) → ((deserialize_call g bs t).result.answer ≡ Refused r) ↔ (read_snapshot g.base (room_of t) bs ≡ refused r)
  deserialize-answer ranged r = rw (with-ranged g (read_snapshot g.base (room_of t) bs) ranged) at (deserialize-given r)

  -- a refusal leaves the table as it was, and gives a record of zeros
  pub deserialize-refused : (r : Refusal) → (deserialize_call g bs t).result.answer ≡ Refused r
      → ((deserialize_call g bs t).result.counters ≡ no_counters) × ((deserialize_call g bs t).table ≡ t)
  unfolding deserialize_call laid_in
  deserialize-refused r e = laid_out-refused g no_counters t parsed_or r ((deserialize-given r).0 e)

  -- what is taken is the state that was read, laid out under the settings, which are in their ranges
  pub deserialize-taken : (deserialize_call g bs t).result.answer ≡ Taken
      → (s : State) × (read_snapshot g.base (room_of t) bs ≡ taken s) × (deserialize_call g bs t ≡ laid g (length t) s) × (in_range g ≡ true)
  unfolding deserialize_call laid_in laid_out
  deserialize-taken e = go parsed_or refl
    where
      go : (o : Outcome State) → parsed_or ≡ o
          → (s : State) × (read_snapshot g.base (room_of t) bs ≡ taken s) × (laid_out g no_counters t parsed_or ≡ laid g (length t) s) × (in_range g ≡ true)
      go (refused r) q = absurd (not-refused (sym e ∙ (deserialize-given r).1 q))
      go (taken s) q =
          let (ranged, same) = with-other g (read_snapshot g.base (room_of t) bs) (taken s) q (λ i. taken_refused i) in
          (s, same, ap (laid_out g no_counters t) q, ranged)

  -- the record that is read has the settings that were given
  pub deserialize-settings : (deserialize_call g bs t).result.answer ≡ Taken → (deserialize_call g bs t).result.counters.settings ≡ g
  unfolding laid record_of
  deserialize-settings e = let (s, ok, same, ranged) = deserialize-taken e in rw same refl

  -- so 20 never follows
  pub deserialize-taken-holds : (deserialize_call g bs t).result.answer ≡ Taken → holds (deserialize_call g bs t).result.counters (deserialize_call g bs t).table ≡ true
  unfolding laid
  deserialize-taken-holds e =
      let (s, ok, same, ranged) = deserialize-taken e in
      let parsed = read-parsed g.base (room_of t) bs s ok in
      let room = parse-fits g.base (room_of t) bs s parsed in
      rw same (holds-laid g s (length t) (omega arith) ranged (parse-ordered g.base (room_of t) bs s parsed) (read-bounded g.base (room_of t) bs s ok))

  -- the table keeps its length, whatever the answer
  pub deserialize-keeps-length : length (deserialize_call g bs t).table ≡ length t
  unfolding laid
  deserialize-keeps-length = go (deserialize_call g bs t).result.answer refl
    where
      go : (a : Answer) → (deserialize_call g bs t).result.answer ≡ a → length (deserialize_call g bs t).table ≡ length t
      go (Refused r) e = ap length (deserialize-refused r e).1
      go Taken e =
          let (s, ok, same, ranged) = deserialize-taken e in
          let room = parse-fits g.base (room_of t) bs s (read-parsed g.base (room_of t) bs s ok) in
          rw same (length-table_of g s (length t) (omega arith))
