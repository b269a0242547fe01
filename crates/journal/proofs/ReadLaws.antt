-- Laws of records end to end: what a record does, any fuel as large as the bytes are many gives the same, one record is one step, and what each record keeps
-- holds at the end.
-- Assumes nothing.
use Rattle.std.proofs.Math.Path.{◌≡◌, refl, sym, ap}
use Rattle.std.proofs.Common.{subst, ◌∙◌, inl, arith, eq-eqb, ne_eqb}
use Rattle.std.specs.Prelude.{◌↔◌, ◌⊎◌, Bool, true, not, length, drop}
use Rattle.std.proofs.Math.Logic.{inr}
use Rattle.std.proofs.Math.Bool.{false}
use Rattle.std.proofs.lemmas.Bool.{false≢true}
use mathlib.Core.List.{List, [], ◌∷◌}
use Prim.Native.Nat.{ℕ, zero, suc, ◌+◌, ◌≤◌, ◌<◌}
use Rattle.std.proofs.Math.ListN.{length-drop}
use Rattle.base.specs.Logic.{any}
use Rattle.base.specs.Answers.{Outcome, refused, taken, either, number_of, answer_number, ◌>>=◌, Answer, Taken, Refused}
use Rattle.base.specs.OutcomeLaws.{refused-taken, taken_refused, taken-same}
use Rattle.base.specs.AnswerLaws.{not-refused, exactly, Answers}
use Rattle.base.specs.declared.Refusal.{Refusal}
use Rattle.base.specs.declared.Refusal.TheVariants.{ShortRecord, Damaged, BadSetting}
use Rattle.cell_nursery.specs.Entries.{State}
use Rattle.cell_nursery.specs.Delta.{Room, apply_delta}
use Rattle.cell_nursery.specs.Layout.{room_of, record_of, delay_in_range}
use Rattle.cell_nursery.proofs.SettingLaws.{delay-range}
use Rattle.cell_nursery.specs.Calls.{laid}
use Rattle.format.specs.Record.{Decoding, decode}
use Rattle.journal.specs.Journal.{End, Step, records_from, pass_record, damages, damaged, apply_record, read_journal, ReadIn, not_read, read_out, read_call}

-- ---- one record
module _ (hash : List ℕ → List ℕ) (m : Room) (s : State) (bs : List ℕ) where
  -- it is refused, or its delta is
  abbrev pub RecordRefused : Refusal → Type 0
  RecordRefused q = (decode hash bs ≡ refused q) ⊎ ((d : Decoding) × (decode hash bs ≡ taken d) × (apply_delta m s d.delta ≡ refused q))

  pub record-refused : (q : Refusal) → (apply_record hash m s bs ≡ refused q) ↔ RecordRefused q
  unfolding apply_record
  record-refused q = (to (decode hash bs) refl, from)
    where
      delta-to : (d : Decoding) → decode hash bs ≡ taken d → (o : Outcome State) → apply_delta m s d.delta ≡ o
          → ◌≡◌ {A = Outcome (State × ℕ)} (o >>= (λ t. taken (t, d.stats.payload_bytes))) (refused q) → RecordRefused q
      delta-to d i (refused r) j e = inr (d, i, j ∙ ap refused (let x : r ≡ q = cc in x))
      delta-to d i (taken t) j e = absurd (taken_refused e)

      to : (o : Outcome Decoding) → decode hash bs ≡ o
          → ◌≡◌ {A = Outcome (State × ℕ)} (o >>= (λ d. apply_delta m s d.delta >>= (λ t. taken (t, d.stats.payload_bytes)))) (refused q) → RecordRefused q
      to (refused r) i e = inl (i ∙ ap refused (let x : r ≡ q = cc in x))
      to (taken d) i e = delta-to d i (apply_delta m s d.delta) refl e

      from : RecordRefused q → ◌≡◌ {A = Outcome (State × ℕ)} (decode hash bs >>= (λ d. apply_delta m s d.delta >>= (λ t. taken (t, d.stats.payload_bytes)))) (refused q)
      from (inl e) = rw e
      from (inr (d, e, f)) = rw (e, f)

  -- it is taken, and its delta is
  pub record-taken : (t : State) (n : ℕ)
      → (apply_record hash m s bs ≡ taken (t, n)) ↔ ((d : Decoding) × (decode hash bs ≡ taken d) × (apply_delta m s d.delta ≡ taken t) × (d.stats.payload_bytes ≡ n))
  unfolding apply_record
  record-taken t n = (to (decode hash bs) refl, λ (d, e, f, g). rw (e, f, g))
    where
      Given : Type 0
      Given = (d : Decoding) × (decode hash bs ≡ taken d) × (apply_delta m s d.delta ≡ taken t) × (d.stats.payload_bytes ≡ n)

      delta-to : (d : Decoding) → decode hash bs ≡ taken d → (o : Outcome State) → apply_delta m s d.delta ≡ o
          → ◌≡◌ {A = Outcome (State × ℕ)} (o >>= (λ u. taken (u, d.stats.payload_bytes))) (taken (t, n)) → Given
      delta-to d i (refused r) j e = absurd (refused-taken e)
      delta-to d i (taken u) j e =
          let same = (taken-same {B = State × ℕ} (u, d.stats.payload_bytes) (t, n)).0 e in
          (d, i, j ∙ ap taken (sym (ap (λ (x : State × ℕ). x.0) same)), sym (ap (λ (x : State × ℕ). x.1) same))

      to : (o : Outcome Decoding) → decode hash bs ≡ o
          → ◌≡◌ {A = Outcome (State × ℕ)} (o >>= (λ d. apply_delta m s d.delta >>= (λ u. taken (u, d.stats.payload_bytes)))) (taken (t, n)) → Given
      to (refused r) i e = absurd (refused-taken e)
      to (taken d) i e = delta-to d i (apply_delta m s d.delta) refl e

-- one that is only decoded
module _ (hash : List ℕ → List ℕ) (bs : List ℕ) where
  pub passed-refused : (q : Refusal) → (pass_record hash tt bs ≡ refused q) ↔ (decode hash bs ≡ refused q)
  unfolding pass_record
  passed-refused q = (to (decode hash bs) refl, λ e. rw e)
    where
      to : (o : Outcome Decoding) → decode hash bs ≡ o → ◌≡◌ {A = Outcome (Unit {0} × ℕ)} (o >>= (λ d. taken (tt, d.stats.payload_bytes))) (refused q) → decode hash bs ≡ refused q
      to (refused r) i e = i ∙ ap refused (let x : r ≡ q = cc in x)
      to (taken d) i e = absurd (taken_refused e)

  pub passed-taken : (n : ℕ) → (pass_record hash tt bs ≡ taken (tt, n)) ↔ ((d : Decoding) × (decode hash bs ≡ taken d) × (d.stats.payload_bytes ≡ n))
  unfolding pass_record
  passed-taken n = (to (decode hash bs) refl, λ (d, e, f). rw (e, f))
    where
      to : (o : Outcome Decoding) → decode hash bs ≡ o → ◌≡◌ {A = Outcome (Unit {0} × ℕ)} (o >>= (λ d. taken (tt, d.stats.payload_bytes))) (taken (tt, n))
          → (d : Decoding) × (decode hash bs ≡ taken d) × (d.stats.payload_bytes ≡ n)
      to (refused r) i e = absurd (refused-taken e)
      to (taken d) i e = (d, i, sym (ap (λ (x : Unit {0} × ℕ). x.1) ((taken-same {B = Unit {0} × ℕ} (tt, d.stats.payload_bytes) (tt, n)).0 e)))

module _ {S : Type 0} (step : Step S) where
  -- ---- the fuel
  same_end : (f g : ℕ) (s : S) (records place : ℕ) (bs : List ℕ) → length bs ≤ f → length bs ≤ g
      → records_from f step s records place bs ≡ records_from g step s records place bs
  unfolding records_from
  same_end zero zero s records place bs h k = refl
  same_end zero (suc g) s records place [] h k = refl
  same_end zero (suc g) s records place (x ∷ xs) h k = absurd (omega arith)
  same_end (suc f) zero s records place [] h k = refl
  same_end (suc f) zero s records place (x ∷ xs) h k = absurd (omega arith)
  same_end (suc f) (suc g) s records place [] h k = refl
  same_end (suc f) (suc g) s records place (x ∷ xs) h k =
      go (λ t n.
      let l = length-drop (40 + n) (x ∷ xs) in
      same_end f g t (suc records) (place + (40 + n)) (drop (40 + n) (x ∷ xs)) (omega arith) (omega arith)) (step s (x ∷ xs))
    where
      onward : ℕ → S → ℕ → End S
      onward fuel t n = records_from fuel step t (suc records) (place + (40 + n)) (drop (40 + n) (x ∷ xs))

      stop : Refusal → End S
      stop r = record { state = s; records = records; place = place; ended = Refused r }

      go : ((t : S) (n : ℕ) → onward f t n ≡ onward g t n) → (o : Outcome (S × ℕ)) → either stop (λ (t, n). onward f t n) o ≡ either stop (λ (t, n). onward g t n) o
      go later (refused r) = refl
      go later (taken (t, n)) = later t n

  -- the records of what is left, with as much fuel as it has bytes
  abbrev pub records_in : S → ℕ → ℕ → List ℕ → End S
  records_in s records place bs = records_from (length bs) step s records place bs

  pub records-enough : (fuel : ℕ) (s : S) (records place : ℕ) (bs : List ℕ) → length bs ≤ fuel → records_from fuel step s records place bs ≡ records_in s records place bs
  records-enough fuel s records place bs h = same_end fuel (length bs) s records place bs h (omega arith)

  -- ---- a record at the start of what is left
  module _ (s : S) (records place : ℕ) where
    -- none
    pub records-end : records_in s records place [] ≡ record { state = s; records = records; place = place; ended = Taken }
    unfolding records_from
    records-end = refl

    -- it is taken: the next stands behind it
    pub records-taken : (t : S) (n : ℕ) (bs : List ℕ) → 0 < length bs → step s bs ≡ taken (t, n)
        → records_in s records place bs ≡ records_in t (suc records) (place + (40 + n)) (drop (40 + n) bs)
    unfolding records_from
    records-taken t n [] h e = absurd (omega arith)
    records-taken t n (x ∷ xs) h e =
        let l = length-drop (40 + n) (x ∷ xs) in
        rw e (records-enough (length xs) t (suc records) (place + (40 + n)) (drop (40 + n) (x ∷ xs)) (omega arith))

    -- it is refused, and ends them
    pub records-refused : (r : Refusal) (bs : List ℕ) → 0 < length bs → step s bs ≡ refused r
        → records_in s records place bs ≡ record { state = s; records = records; place = place; ended = Refused r }
    unfolding records_from
    records-refused r [] h e = absurd (omega arith)
    records-refused r (x ∷ xs) h e = rw e

  -- ---- the end
  -- no byte is left, or a record that is refused
  pub data Stopped (e : End S) (rest : List ℕ) : Type 0 where
    at_end : length rest ≡ 0 → e.ended ≡ Taken → Stopped e rest
    at_record : (r : Refusal) → 0 < length rest → step e.state rest ≡ refused r → e.ended ≡ Refused r → Stopped e rest

  -- what is so of what was made, the number of records, the place and what is left, and stays so with each record, is so at the end
  module _ (P : S → ℕ → ℕ → List ℕ → Type 0)
      (kept : (s t : S) (n records place : ℕ) (bs : List ℕ) → P s records place bs → step s bs ≡ taken (t, n) → P t (suc records) (place + (40 + n)) (drop (40 + n) bs)) where
    abbrev pub EndsWith : End S → Type 0
    EndsWith e = (rest : List ℕ) × P e.state e.records e.place rest × Stopped e rest

    ends_with : (fuel : ℕ) (s : S) (records place : ℕ) (bs : List ℕ) → length bs ≤ fuel → P s records place bs → EndsWith (records_from fuel step s records place bs)
    unfolding records_from
    ends_with zero s records place bs h p = (bs, p, at_end (omega arith) refl)
    ends_with (suc fuel) s records place [] h p = ([], p, at_end refl refl)
    ends_with (suc fuel) s records place (x ∷ xs) h p =
        go (λ t n q.
        let l = length-drop (40 + n) (x ∷ xs) in
        ends_with fuel t (suc records) (place + (40 + n)) (drop (40 + n) (x ∷ xs)) (omega arith) q) (step s (x ∷ xs)) refl
      where
        onward : S → ℕ → End S
        onward t n = records_from fuel step t (suc records) (place + (40 + n)) (drop (40 + n) (x ∷ xs))

        stop : Refusal → End S
        stop r = record { state = s; records = records; place = place; ended = Refused r }

        go : ((t : S) (n : ℕ) → P t (suc records) (place + (40 + n)) (drop (40 + n) (x ∷ xs)) → EndsWith (onward t n)) → (o : Outcome (S × ℕ)) → step s (x ∷ xs) ≡ o
            → EndsWith (either stop (λ (t, n). onward t n) o)
        go later (refused r) e = (x ∷ xs, p, at_record r (omega arith) e refl)
        go later (taken (t, n)) e = later t n (kept s t n records place (x ∷ xs) p e)

    pub records-ends : (s : S) (records place : ℕ) (bs : List ℕ) → P s records place bs → EndsWith (records_in s records place bs)
    records-ends s records place bs p = ends_with (length bs) s records place bs (omega arith) p

-- two steps that do the same wherever the second leads
module _ {S : Type 0} (f g : Step S) (P : ℕ → List ℕ → Type 0) (same : (s : S) (place : ℕ) (bs : List ℕ) → P place bs → f s bs ≡ g s bs)
    (kept : (s t : S) (n place : ℕ) (bs : List ℕ) → P place bs → g s bs ≡ taken (t, n) → P (place + (40 + n)) (drop (40 + n) bs)) where
  pub same-records : (fuel : ℕ) (s : S) (records place : ℕ) (bs : List ℕ) → P place bs → records_from fuel f s records place bs ≡ records_from fuel g s records place bs
  unfolding records_from
  same-records zero s records place bs p = refl
  same-records (suc fuel) s records place [] p = refl
  same-records (suc fuel) s records place (x ∷ xs) p =
      rw (same s place (x ∷ xs) p)
      (go (λ t n q. same-records fuel t (suc records) (place + (40 + n)) (drop (40 + n) (x ∷ xs)) q) (g s (x ∷ xs)) refl)
    where
      onward : Step S → S → ℕ → End S
      onward step t n = records_from fuel step t (suc records) (place + (40 + n)) (drop (40 + n) (x ∷ xs))

      stop : Refusal → End S
      stop r = record { state = s; records = records; place = place; ended = Refused r }

      go : ((t : S) (n : ℕ) → P (place + (40 + n)) (drop (40 + n) (x ∷ xs)) → onward f t n ≡ onward g t n) → (o : Outcome (S × ℕ)) → g s (x ∷ xs) ≡ o
          → either stop (λ (t, n). onward f t n) o ≡ either stop (λ (t, n). onward g t n) o
      go later (refused r) e = refl
      go later (taken (t, n)) e = later t n (kept s t n place (x ∷ xs) p e)

-- ---- the call
-- a refusal is damage exactly where its number isn't 16
pub damages-other : (q : Refusal) → (damages (Refused q) ≡ true) ↔ (¬ (number_of q ≡ number_of ShortRecord))
unfolding damages
damages-other q = (
  λ e f. false≢true (sym (ap not (eq-eqb (number_of q) (number_of ShortRecord) f)) ∙ e),
  λ n. ap not (ne_eqb (number_of q) (number_of ShortRecord) n),
)

module _ (hash : List ℕ → List ℕ) (delay : ℕ) (bs es ws cs : List ℕ) where
  -- a delay out of range isn't read with
  pub read-bad : delay_in_range delay ≡ false → read_call hash delay bs es ws cs ≡ not_read BadSetting es ws cs
  unfolding read_call
  read-bad o = rw o

  -- with another a damaged journal isn't read, any other one is
  module _ (o : delay_in_range delay ≡ true) where
    pub read-damaged : damaged hash bs ≡ true → read_call hash delay bs es ws cs ≡ not_read Damaged es ws cs
    unfolding read_call
    read-damaged e = rw (o, e)

    pub read-undamaged : damaged hash bs ≡ false → read_call hash delay bs es ws cs ≡ read_out delay es ws cs (read_journal hash (room_of es ws cs) bs)
    unfolding read_call
    read-undamaged e = rw (o, e)

  abbrev read_answer : Answer
  read_answer = (read_call hash delay bs es ws cs).result.answer

  -- the answer, and when it is which
  data Judged : Answer → Type 0 where
    bad : delay_in_range delay ≡ false → Judged (Refused BadSetting)
    damage : delay_in_range delay ≡ true → damaged hash bs ≡ true → Judged (Refused Damaged)
    read : delay_in_range delay ≡ true → damaged hash bs ≡ false → Judged Taken

  judged : Judged read_answer
  unfolding not_read read_out
  judged = go (delay_in_range delay) (damaged hash bs) refl refl
    where
      Of : ReadIn → Type 0
      Of c = Judged c.result.answer

      go : (a b : Bool) → delay_in_range delay ≡ a → damaged hash bs ≡ b → Judged read_answer
      go false b o e = subst Of (sym (read-bad o)) (bad o)
      go true true o e = subst Of (sym (read-damaged o e)) (damage o e)
      go true false o e = subst Of (sym (read-undamaged o e)) (read o e)

  -- a reading that is taken is that of its records, none of which is damaged, by a delay in range
  pub read_taken : read_answer ≡ Taken
      → (damaged hash bs ≡ false) × (read_call hash delay bs es ws cs ≡ read_out delay es ws cs (read_journal hash (room_of es ws cs) bs)) × (delay_in_range delay ≡ true)
  read_taken t = go judged t
    where
      go : {a : Answer} → Judged a → a ≡ Taken
          → (damaged hash bs ≡ false) × (read_call hash delay bs es ws cs ≡ read_out delay es ws cs (read_journal hash (room_of es ws cs) bs)) × (delay_in_range delay ≡ true)
      go (bad o) e = absurd (not-refused (sym e))
      go (damage o d) e = absurd (not-refused (sym e))
      go (read o d) e = (d, read-undamaged o d, o)

  -- 23, bad setting: a delay of no round, or of more than 10,000
  pub read-setting : (read_answer ≡ Refused BadSetting) ↔ ((delay ≡ 0) ⊎ (10000 < delay))
  unfolding not_read
  read-setting = exactly (go judged, λ o. ap (λ (c : ReadIn). c.result.answer) (read-bad o)) (delay-range delay)
    where
      go : {a : Answer} → Judged a → a ≡ Refused BadSetting → delay_in_range delay ≡ false
      go (bad o) e = o
      go (damage o d) e = let z : ◌≡◌ {A = ℕ} 21 23 = ap answer_number e in absurd (omega arith)
      go (read o d) e = absurd (not-refused e)

  -- 21, damaged: another delay, and a damaged journal
  pub read-damage : (read_answer ≡ Refused Damaged) ↔ ((delay_in_range delay ≡ true) × (damaged hash bs ≡ true))
  unfolding not_read
  read-damage = (go judged, λ (o, d). ap (λ (c : ReadIn). c.result.answer) (read-damaged o d))
    where
      go : {a : Answer} → Judged a → a ≡ Refused Damaged → (delay_in_range delay ≡ true) × (damaged hash bs ≡ true)
      go (bad o) e = let z : ◌≡◌ {A = ℕ} 23 21 = ap answer_number e in absurd (omega arith)
      go (damage o d) e = (o, d)
      go (read o d) e = absurd (not-refused e)

  -- 23 or 21, and no other
  pub read-numbers : Answers (23 ∷ 21 ∷ []) read_answer
  unfolding any
  read-numbers = go judged
    where
      go : {a : Answer} → Judged a → Answers (23 ∷ 21 ∷ []) a
      go (bad o) q e = let same : q ≡ BadSetting = cc in rw same
      go (damage o d) q e = let same : q ≡ Damaged = cc in rw same
      go (read o d) q e = absurd (not-refused e)

  -- beside a refusal all is zeros, and the tables are as they were
  pub read-refused : (q : Refusal) → read_answer ≡ Refused q → read_call hash delay bs es ws cs ≡ not_read q es ws cs
  read-refused q = go judged
    where
      go : {a : Answer} → Judged a → a ≡ Refused q → read_call hash delay bs es ws cs ≡ not_read q es ws cs
      go (bad o) e = let same : BadSetting ≡ q = cc in rw (← same) (read-bad o)
      go (damage o d) e = let same : Damaged ≡ q = cc in rw (← same) (read-damaged o d)
      go (read o d) e = absurd (not-refused e)

  -- the nursery of a reading that is taken has the delay that was given
  pub read-delay : read_answer ≡ Taken → (read_call hash delay bs es ws cs).result.nursery.delay ≡ delay
  unfolding read_out laid record_of
  read-delay t = ap (λ (c : ReadIn). c.result.nursery.delay) (read_taken t).1
