-- How a journal's reading ends: with each number exactly when, and with no other; and when it is refused.
-- Assumes nothing.
use Rattle.std.specs.Prelude.{◌≡◌, ◌↔◌, ◌⊎◌, Bool, false, ◌||◌, ℕ, suc, ◌+◌, ◌-◌, ◌^◌, ◌≤◌, ◌<◌, take, ltb, eqb}
use Rattle.std.proofs.Math.Path.{refl, ap, subst}
use Rattle.std.proofs.Common.{sym, ◌∙◌, inl, inr}
use Rattle.std.proofs.Math.Bool.{true, false≢true, or-true}
use Rattle.std.proofs.Math.Option.{some}
use mathlib.Core.List.{List, [], ◌∷◌}
use native.Mathlib.Omega.{arith}
use Rattle.std.proofs.Math.Decide.{dec_lt, ℕ_discrete}
use Rattle.std.proofs.Math.ListN.{length, drop, length-drop}
use Rattle.std.proofs.Math.Seq.{drop-drop}
use Rattle.base.specs.Logic.{eqb_list, any, elem}
use Rattle.base.specs.ListLaws.{fails-not, all_drop}
use Rattle.base.specs.Answers.{refused, taken, either, number_of, answer_number, Answer, Taken, Refused}
use Rattle.base.specs.OutcomeLaws.{other-number, taken_refused, ends-here, ends-later, never_ends, Refuses, refuses-none, refuses-step}
use Rattle.base.specs.declared.Refusal.{Refusal}
use Rattle.base.specs.declared.Refusal.TheVariants.{Present, NurseryFull, ShortRecord, Mismatch, Damaged, BadSetting}
use Rattle.slices.specs.Laws.{eqb_list-true, eqb_list-false}
use Rattle.cell_nursery.specs.Entries.{State, empty}
use Rattle.cell_nursery.specs.Items.{Delta}
use Rattle.cell_nursery.specs.Delta.{Room, too_long, present, full, state_after, apply_delta}
use Rattle.cell_nursery.specs.Layout.{room_of, delay_in_range}
use Rattle.cell_nursery.proofs.SpellLaws.{fits-short}
use Rattle.cell_nursery.proofs.RefusalLaws.{delta-numbers}
use Rattle.base.specs.AnswerLaws.{not-refused, exactly, Answers}
use Rattle.format.specs.Record.{Decoding, decode, stated, Whole, Matches}
use Rattle.format.proofs.RefusalLaws.{decode-short, decode-mismatch, decode-taken, decode-numbers}
use Rattle.format.proofs.TakenLaws.{taken-lent}
use Rattle.format.proofs.ExactLaws.{parsed}
use Rattle.journal.specs.Journal.{End, pass_record, scan, damages, damaged, apply_record, read_journal, ReadIn, read_out, read_call}
use Rattle.journal.proofs.ReadLaws.{RecordRefused, record-refused, record-taken, passed-refused, passed-taken, records_in, records-taken, records-refused, Stopped, at_end, at_record, records-ends, damages-other, read_taken, read-setting, read-damage, read-numbers}
use Rattle.base.specs.SpellLaws.{Bytes}

-- ---- a record's delta is never too long: a cell's length has two bytes, a list's four
pub record-short : (hash : List ℕ → List ℕ) (bs : List ℕ) (x : Decoding) → Bytes bs → decode hash bs ≡ taken x → too_long x.delta ≡ false
record-short hash bs x b e =
    let fits = (parsed hash bs x b ((decode-taken hash bs x).0 e).0).fits in
    fits-short x.delta fits.inserts fits.few-inserts fits.few-removes

-- ---- records that are taken one after another
module _ (hash : List ℕ → List ℕ) (bs : List ℕ) where
  -- a place that they lead to
  pub data Reached : ℕ → Type 0 where
    start : Reached 0
    behind : {p : ℕ} (d : Decoding) → Reached p → decode hash (drop p bs) ≡ taken d → Reached (p + (40 + d.stats.payload_bytes))

  -- the record there is refused with another number than 16
  pub record DamagedRecord : Type 0 where
    pub place : ℕ
    pub reached : Reached place
    pub refusal : Refusal
    pub is_refused : decode hash (drop place bs) ≡ refused refusal
    pub not_cut : ¬ (number_of refusal ≡ number_of ShortRecord)

  pub reached-next : {p : ℕ} (n : ℕ) (d : Decoding) → Reached p → decode hash (drop p bs) ≡ taken d → d.stats.payload_bytes ≡ n → Reached (p + (40 + n))
  reached-next n d r e k = rw k at (behind d r e)

  -- the first pass comes there
  abbrev passes : ℕ → ℕ → List ℕ → End (Unit {0})
  passes = records_in (pass_record hash) tt

  comes : {p : ℕ} → Reached p → (k : ℕ) × (passes k p (drop p bs) ≡ passes 0 0 bs)
  comes start = (0, refl)
  comes (behind {p} d r e) =
      let (k, same) = comes r in
      let n : ℕ = d.stats.payload_bytes in
      let some : 0 < length (drop p bs) = omega (arith, (taken-lent hash (drop p bs) d e).inside) in
      let turn = records-taken (pass_record hash) tt k p tt n (drop p bs) some ((passed-taken hash (drop p bs) n).1 (d, e, refl)) in
      (suc k, ap (λ (l : List ℕ). passes (suc k) (p + (40 + n)) l) (sym (drop-drop (40 + n) p bs)) ∙ sym turn ∙ same)

  -- a record is damaged exactly where the first pass says so
  pub damaged-exactly : (damaged hash bs ≡ true) ↔ DamagedRecord
  unfolding damaged scan damages
  damaged-exactly = (to, from)
    where
      whole : (rest : List ℕ) × ((rest ≡ drop (passes 0 0 bs).place bs) × Reached (passes 0 0 bs).place) × Stopped (pass_record hash) (passes 0 0 bs) rest
      whole = records-ends (pass_record hash) (λ u records place rest. (rest ≡ drop place bs) × Reached place) kept tt 0 0 bs (refl, start)
        where
          kept : (u v : Unit {0}) (n records place : ℕ) (rest : List ℕ) → (rest ≡ drop place bs) × Reached place → pass_record hash u rest ≡ taken (v, n)
              → (drop (40 + n) rest ≡ drop (place + (40 + n)) bs) × Reached (place + (40 + n))
          kept u v n records place rest (e, r) f =
              let (d, i, k) = (passed-taken hash rest n).0 f in
              (ap (λ (x : List ℕ). drop (40 + n) x) e ∙ drop-drop (40 + n) place bs, reached-next n d r (ap (decode hash) (sym e) ∙ i) k)

      to : damages (passes 0 0 bs).ended ≡ true → DamagedRecord
      to e = go whole.2
        where
          go : Stopped (pass_record hash) (passes 0 0 bs) whole.0 → DamagedRecord
          go (at_end l f) = absurd (false≢true (sym (ap damages f) ∙ e))
          go (at_record q l f g) =
              record {
                place = (passes 0 0 bs).place;
                reached = whole.1.1;
                refusal = q;
                is_refused = ap (decode hash) (sym whole.1.0) ∙ (passed-refused hash whole.0 q).0 f;
                not_cut = (damages-other q).0 (sym (ap damages g) ∙ e);
              }

      from : DamagedRecord → damages (passes 0 0 bs).ended ≡ true
      from x =
          let (k, same) = comes x.reached in
          let rest : List ℕ = drop x.place bs in
          elim (dec_lt 0 (length rest)) [
            | yes more ↦
                let last = records-refused (pass_record hash) tt k x.place x.refusal rest more ((passed-refused hash rest x.refusal).1 x.is_refused) in
                ap (λ (e : End (Unit {0})). damages e.ended) (sym same ∙ last) ∙ (damages-other x.refusal).1 x.not_cut
            | no less ↦
                let cut = (decode-short hash rest).1 (inl (omega arith)) in
                absurd (x.not_cut (ap (either number_of (λ d. 0)) (sym x.is_refused ∙ cut)))
          ]

  -- so one that is refused where none is damaged is cut
  pub undamaged-cut : damaged hash bs ≡ false → {p : ℕ} → Reached p → (q : Refusal) → decode hash (drop p bs) ≡ refused q → number_of q ≡ number_of ShortRecord
  undamaged-cut none {p} r q e = elim (ℕ_discrete (number_of q) (number_of ShortRecord)) [
    | yes same ↦ same
    | no other ↦ absurd (false≢true (sym none ∙ damaged-exactly.1 (record { place = p; reached = r; refusal = q; is_refused = e; not_cut = other })))
  ]

  -- and one that is whole has its hash
  pub undamaged-matches : damaged hash bs ≡ false → {p : ℕ} → Reached p → Whole (drop p bs) → Matches hash (drop p bs)
  undamaged-matches none {p} r w = go (eqb_list (hash (take (8 + stated (drop p bs)) (drop 32 (drop p bs)))) (take 32 (drop p bs))) refl
    where
      go : (b : Bool) → eqb_list (hash (take (8 + stated (drop p bs)) (drop 32 (drop p bs)))) (take 32 (drop p bs)) ≡ b → Matches hash (drop p bs)
      go true e = eqb_list-true _ _ e
      go false e =
          let e : number_of Mismatch ≡ number_of ShortRecord = undamaged-cut none r Mismatch ((decode-mismatch hash (drop p bs)).1 (w, eqb_list-false _ _ e)) in
          absurd (omega arith)

-- ---- the end of a reading
module _ (hash : List ℕ → List ℕ) (m : Room) (bs : List ℕ) where
  abbrev read : End State
  read = read_journal hash m bs

  -- the bytes behind the last applied record
  abbrev left : List ℕ
  left = drop read.place bs

  stopped : (rest : List ℕ) × ((rest ≡ drop read.place bs) × (read.place ≤ length bs) × Reached hash bs read.place) × Stopped (apply_record hash m) read rest
  unfolding read_journal
  stopped = records-ends (apply_record hash m) (λ s records place rest. (rest ≡ drop place bs) × (place ≤ length bs) × Reached hash bs place) kept empty 0 0 bs (refl, omega arith, start)
    where
      kept : (s t : State) (n records place : ℕ) (rest : List ℕ) → (rest ≡ drop place bs) × (place ≤ length bs) × Reached hash bs place → apply_record hash m s rest ≡ taken (t, n)
          → (drop (40 + n) rest ≡ drop (place + (40 + n)) bs) × (place + (40 + n) ≤ length bs) × Reached hash bs (place + (40 + n))
      kept s t n records place rest (e, l, r) f =
          let (d, i, j, k) = (record-taken hash m s rest t n).0 f in
          let size : length rest ≡ length bs - place = ap length e ∙ length-drop place bs in (
            ap (λ (x : List ℕ). drop (40 + n) x) e ∙ drop-drop (40 + n) place bs,
            omega (arith, (taken-lent hash rest d i).inside),
            reached-next hash bs n d r (ap (decode hash) (sym e) ∙ i) k,
          )

  -- the place is in the journal, and records that are taken lead there
  pub place_inside : read.place ≤ length bs
  place_inside = stopped.1.1

  pub place-reached : Reached hash bs read.place
  place-reached = stopped.1.2

  -- 0: all its bytes were read
  pub ends-taken : (read.ended ≡ Taken) ↔ (read.place ≡ length bs)
  ends-taken = go stopped.2
    where
      size : length stopped.0 ≡ length bs - read.place
      size = ap length stopped.1.0 ∙ length-drop read.place bs

      go : Stopped (apply_record hash m) read stopped.0 → (read.ended ≡ Taken) ↔ (read.place ≡ length bs)
      go (at_end l e) = (λ f. omega (arith, size, place_inside), λ f. e)
      go (at_record r l f e) = (λ g. absurd (not-refused (sym g ∙ e)), λ g. absurd (omega (arith, size)))

  -- a refusal's number: there are bytes left, and the record that they start with is so refused, or its delta is on what was read so far
  pub ends-refused : (q : Refusal) → (read.ended ≡ Refused q) ↔ ((read.place < length bs) × RecordRefused hash m read.state left q)
  ends-refused q = go stopped.2
    where
      size : length stopped.0 ≡ length bs - read.place
      size = ap length stopped.1.0 ∙ length-drop read.place bs

      go : Stopped (apply_record hash m) read stopped.0 → (read.ended ≡ Refused q) ↔ ((read.place < length bs) × RecordRefused hash m read.state left q)
      go (at_end l e) = (λ f. absurd (not-refused (sym e ∙ f)), λ p. absurd (omega (arith, size, p.0)))
      go (at_record r l f e) =
          let here : apply_record hash m read.state left ≡ refused r = ap (λ (x : List ℕ). apply_record hash m read.state x) (sym stopped.1.0) ∙ f in (
            (λ g. let same : r ≡ q = let h = sym e ∙ g in cc in (omega (arith, size), (record-refused hash m read.state left q).0 (rw same at here))),
            λ p. let same : r ≡ q = let h = sym here ∙ (record-refused hash m read.state left q).1 p.1 in cc in rw same at e,
          )

-- ---- a delta that isn't too long
itself : {P : Type 0} → P ↔ P
itself = (λ p. p, λ p. p)

module _ (m : Room) (s : State) (d : Delta) (short : too_long d ≡ false) where
  is-short : ¬ (too_long d ≡ true)
  is-short e = false≢true (sym short ∙ e)

  short-present : (apply_delta m s d ≡ refused Present) ↔ (present s d ≡ true)
  unfolding apply_delta
  short-present =
      exactly (ends-later {P = too_long d ≡ true} itself (other-number (omega arith)) (ends-here itself (never_ends {P = full m s d ≡ true} itself (other-number (omega arith)) taken_refused)))
      ((λ p. p.1), λ e. (is-short, e))

  short-full : (apply_delta m s d ≡ refused NurseryFull) ↔ ((present s d ≡ false) × (full m s d ≡ true))
  unfolding apply_delta
  short-full =
      exactly
      (ends-later {P = too_long d ≡ true} itself (other-number (omega arith)) (ends-later {P = present s d ≡ true} itself (other-number (omega arith)) (ends-here itself taken_refused)))
      ((λ (l, (p, f)). ((fails-not (present s d) itself).1 p, f)), λ (p, f). (is-short, ((λ e. false≢true (sym p ∙ e)), f)))

  short-numbers : Refuses (12 ∷ 13 ∷ []) (apply_delta m s d)
  unfolding apply_delta
  short-numbers =
      rw short
      (refuses-step {P = present s d ≡ true} Present (13 ∷ []) itself (refuses-step {P = full m s d ≡ true} NurseryFull [] itself (refuses-none [] (state_after d s))))

-- ---- each number
-- the journal's end, what a record's delta is refused with, and a record that is cut
abbrev pub end_numbers : List ℕ
end_numbers = 0 ∷ 12 ∷ 13 ∷ 16 ∷ []

module _ (hash : List ℕ → List ℕ) (bs es ws cs : List ℕ) where
  abbrev room : Room
  room = room_of es ws cs

  -- the nursery that was read so far, by which the tables are laid out
  abbrev sofar : State
  sofar = (read_journal hash room bs).state

  -- what a reading that is taken ended with, by the bytes that follow its place
  pub record Ends (ended : Answer) (place : ℕ) : Type 0 where
    pub finished : (ended ≡ Taken) ↔ (place ≡ length bs)
    pub short_record : (ended ≡ Refused ShortRecord)
        ↔ ((place < length bs) × ((length (drop place bs) < 40) ⊎ ((stated (drop place bs) < 2 ^ 64 - 8) × (length (drop place bs) < 40 + stated (drop place bs)))))
    pub is_present : (ended ≡ Refused Present) ↔ ((d : Decoding) × (decode hash (drop place bs) ≡ taken d) × (present sofar d.delta ≡ true))
    pub nursery_full : (ended ≡ Refused NurseryFull)
        ↔ ((d : Decoding) × (decode hash (drop place bs) ≡ taken d) × ((present sofar d.delta ≡ false) × (full room sofar d.delta ≡ true)))
    pub numbers : elem (answer_number ended) end_numbers ≡ true

  -- 23 exactly where the delay is out of range, 21 exactly where it isn't and a record is damaged, and no other refusal
  pub record ReadEnds (delay : ℕ) (c : ReadIn) : Type 0 where
    pub bad_setting : (c.result.answer ≡ Refused BadSetting) ↔ ((delay ≡ 0) ⊎ (10000 < delay))
    pub damaged_record : (c.result.answer ≡ Refused Damaged) ↔ ((delay_in_range delay ≡ true) × DamagedRecord hash bs)
    pub answers : elem (answer_number c.result.answer) (0 ∷ 23 ∷ 21 ∷ []) ≡ true
    pub ends : c.result.answer ≡ Taken → Ends c.result.ended c.result.place

  -- over bytes, of which no record is damaged
  module _ (b : Bytes bs) (sound : damaged hash bs ≡ false) where
    abbrev place : ℕ
    place = (read_journal hash room bs).place

    abbrev ended : Answer
    ended = (read_journal hash room bs).ended

    abbrev rest : List ℕ
    rest = drop place bs

    rest-bytes : Bytes rest
    rest-bytes = all_drop (λ y. ltb y 256) place bs b

    -- the record's refusal, and its delta's
    of-record : (q : Refusal) → elem (number_of q) (14 ∷ 12 ∷ 13 ∷ []) ≡ false → (ended ≡ Refused q) ↔ ((place < length bs) × (decode hash rest ≡ refused q))
    of-record q other = exactly (ends-refused hash room bs q) ((λ (l, s). (l, one s)), λ (l, e). (l, inl e))
      where
        one : RecordRefused hash room sofar rest q → decode hash rest ≡ refused q
        one (inl e) = e
        one (inr (d, i, e)) = absurd (false≢true (sym other ∙ delta-numbers room sofar d.delta q e))

    of-delta : (q : Refusal) {Q : Decoding → Type 0} → elem (number_of q) (16 ∷ 17 ∷ 18 ∷ 19 ∷ 22 ∷ []) ≡ false
        → ((d : Decoding) → decode hash rest ≡ taken d → (apply_delta room sofar d.delta ≡ refused q) ↔ Q d) → (ended ≡ Refused q) ↔ ((d : Decoding) × (decode hash rest ≡ taken d) × Q d)
    of-delta q {Q} other test =
        exactly (exactly (ends-refused hash room bs q) ((λ (l, s). (l, one s)), λ (l, (d, i, e)). (l, inr (d, i, (test d i).1 e))))
        ((λ p. p.1), λ (d, i, e). (omega (arith, (taken-lent hash rest d i).inside, length-drop place bs), (d, i, e)))
      where
        one : RecordRefused hash room sofar rest q → (d : Decoding) × (decode hash rest ≡ taken d) × Q d
        one (inl e) = absurd (false≢true (sym other ∙ decode-numbers hash rest q e))
        one (inr (d, i, e)) = (d, i, (test d i).0 e)

    -- no other number
    front : (z p f r : Bool) → (p || (f || false)) ≡ true → (z || (p || (f || r))) ≡ true
    front true p f r e = refl
    front false true f r e = refl
    front false false true r e = refl
    front false false false r e = absurd (false≢true e)

    all-numbers : elem (answer_number ended) end_numbers ≡ true
    unfolding any
    all-numbers = go ended refl
      where
        one : (q : Refusal) → RecordRefused hash room sofar rest q → elem (number_of q) end_numbers ≡ true
        one q (inl e) = rw (undamaged-cut hash bs sound (place-reached hash room bs) q e)
        one q (inr (d, i, e)) =
            front (eqb (number_of q) 0) (eqb (number_of q) 12) (eqb (number_of q) 13) (elem (number_of q) (16 ∷ []))
            (short-numbers room sofar d.delta (record-short hash rest d rest-bytes i) q e)

        go : (a : Answer) → ended ≡ a → elem (answer_number a) end_numbers ≡ true
        go Taken e = refl
        go (Refused q) e = one q ((ends-refused hash room bs q).0 e).1

    taken-ends : Ends ended place
    unfolding any
    taken-ends =
        record {
          finished = ends-taken hash room bs;
          short_record = exactly (of-record ShortRecord refl) ((λ p. (p.0, (decode-short hash rest).0 p.1)), λ p. (p.0, (decode-short hash rest).1 p.1));
          is_present = of-delta Present refl (λ d i. short-present room sofar d.delta (record-short hash rest d rest-bytes i));
          nursery_full = of-delta NurseryFull refl (λ d i. short-full room sofar d.delta (record-short hash rest d rest-bytes i));
          numbers = all-numbers;
        }

  pub read-ends : (delay : ℕ) → Bytes bs → ReadEnds delay (read_call hash delay bs es ws cs)
  unfolding read_out any
  read-ends delay b =
      record {
        bad_setting = read-setting hash delay bs es ws cs;
        damaged_record =
            exactly (read-damage hash delay bs es ws cs) (
              (λ (o, d). (o, (damaged-exactly hash bs).0 d)),
              λ (o, x). (o, (damaged-exactly hash bs).1 x),
            );
        answers = go (read_call hash delay bs es ws cs).result.answer (read-numbers hash delay bs es ws cs);
        ends = λ t. let r = read_taken hash delay bs es ws cs t in subst (λ (c : ReadIn). Ends c.result.ended c.result.place) (sym r.1) (taken-ends b r.0);
      }
    where
      go : (a : Answer) → Answers (23 ∷ 21 ∷ []) a → elem (answer_number a) (0 ∷ 23 ∷ 21 ∷ []) ≡ true
      go Taken h = refl
      go (Refused q) h = rw (h q refl) (or-true (eqb (number_of q) 0))
