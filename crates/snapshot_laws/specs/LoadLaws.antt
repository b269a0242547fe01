-- Loading a snapshot from before 25: refused as reading is, but never with 25; where reading takes it gives the same, and where reading answers 25 the live
-- total is the number of stored counts.
-- Assumes nothing.
use Rattle.std.specs.Prelude.{◌≡◌, ◌↔◌, ◌⊎◌, true, List, [], ◌∷◌, map, ℕ, ◌≤◌, ◌<◌, max, length, ltb}
use Rattle.std.proofs.Math.Path.{refl, ap}
use Rattle.std.proofs.Common.{sym, ◌∙◌, arith}
use Rattle.std.proofs.Math.Bool.{false≢true}
use Rattle.std.proofs.lemmas.List.{length-map}
use Rattle.base.specs.Logic.{all, any}
use Rattle.base.specs.SumLaws.{all_map, ascending-length}
use Rattle.base.specs.Answers.{Outcome, refused, taken, ◌>>=◌, answer_of, number_of, Answer, Taken, Refused}
use Rattle.base.specs.OutcomeLaws.{taken_refused}
use Rattle.base.specs.AnswerLaws.{not-refused, exactly, Answers, says, says-numbers}
use Rattle.base.specs.declared.Refusal.{Refusal}
use Rattle.base.specs.declared.Refusal.TheVariants.{FewCells, BadSetting}
use Rattle.counters.specs.declared.ShrinkSettings.{ShrinkSettings}
use Rattle.counters.specs.Counts.{State}
use Rattle.counters.specs.Maintenance.{in_range}
use Rattle.counters.specs.Batch.{bound}
use Rattle.counters.specs.Layout.{room_of, record_of, table_of, state_of, ordered, holds}
use Rattle.counters.proofs.LayoutLaws.{held, length-table_of, state_of-laid, holds-laid}
use Rattle.counters.proofs.BoundLaws.{bound-other, bound-few}
use Rattle.counters.specs.Calls.{laid, laid_out, with_settings, no_counters, laid_in}
use Rattle.counters.proofs.CallLaws.{with-ranged, with-then, with-other, with-setting, with-numbers}
use Rattle.snapshot.specs.Write.{snapshot_bytes}
use Rattle.snapshot.specs.Read.{parse_snapshot, read_snapshot, raised}
use Rattle.snapshot.specs.Calls.{deserialize_call, Loading, load_effect, load_call}
use Rattle.snapshot_laws.specs.SetLaws.{index, ascends, all-below}
use Rattle.snapshot_laws.specs.RoundTrip.{Spelled, WellFormed, renewed, parse-snapshot}
use Rattle.snapshot_laws.specs.Parts.{live_of}
use Rattle.snapshot_laws.specs.RefusalLaws.{state_read, parse-numbers, parse-state, parse-ordered, parse-fits, read-parsed, read-bounded}
use Rattle.snapshot_laws.specs.ReadLaws.{parse-spelled}
use Rattle.snapshot_laws.specs.CallLaws.{parsed_or, deserialize-given, deserialize-taken}

-- ---- the state with its total raised
-- a total that is enough stays
raised-same : (s : State) → length s.counts ≤ s.live → raised s ≡ s
unfolding raised
raised-same s h =
    let e : max s.live (length s.counts) ≡ s.live = omega arith in
    ap (λ (n : ℕ). record { next = s.next; live = n; counts = s.counts; maintenance = s.maintenance }) e

-- one that isn't becomes the number of counts
abbrev pub covered : State → State
covered s = record { next = s.next; live = length s.counts; counts = s.counts; maintenance = s.maintenance }

raised-covered : (s : State) → s.live < length s.counts → raised s ≡ covered s
unfolding raised
raised-covered s h =
    let e : max s.live (length s.counts) ≡ length s.counts = omega arith in
    ap (λ (n : ℕ). record { next = s.next; live = n; counts = s.counts; maintenance = s.maintenance }) e

raised-bounded : (s : State) → length (raised s).counts ≤ (raised s).live
unfolding raised
raised-bounded s = omega arith

-- it is a u64 where the next index is, as each index below that has one count at most
raised-well-formed : (s : State) → Spelled s → WellFormed (raised s)
unfolding raised
raised-well-formed s w =
    let below = all_map (λ i. ltb i s.next) index s.counts ∙ all-below s.next s.counts w.sorted in
    let few = ascending-length 0 s.next (map index s.counts) (omega arith) (ascends s.next s.counts w.sorted) below in
    record {
      spelled =
          record {
            next_fits = w.next_fits;
            live_fits = omega (arith, few, length-map s.counts index, w.next_fits, w.live_fits);
            sorted = w.sorted;
            counts_fit = w.counts_fit;
          };
      bounded = omega arith;
    }

-- a state that was loaded under some settings, beside the total that its snapshot has
abbrev pub loads : ShrinkSettings → ℕ → State → ℕ → Loading
loads g len s old = load_effect (record { answer = Taken; counters = record_of g s; old_total = old }) (table_of len s)

-- ---- any bytes into a table of any content
module _ (g : ShrinkSettings) (bs t : List ℕ) where
  abbrev parsed : Outcome State
  parsed = parse_snapshot g.base (room_of t) bs

  abbrev said : Outcome State
  said = with_settings g parsed

  when-refused : (r : Refusal) → said ≡ refused r → load_call g bs t ≡ load_effect (record { answer = Refused r; counters = no_counters; old_total = 0 }) t
  unfolding load_call laid_in laid_out
  when-refused r e = rw e

  when-taken : (s : State) → said ≡ taken s → load_call g bs t ≡ loads g (length t) (raised s) s.live
  unfolding load_call laid_in laid_out laid
  when-taken s e = rw e

  answered : (load_call g bs t).result.answer ≡ answer_of said
  answered = go said refl
    where
      go : (o : Outcome State) → said ≡ o → (load_call g bs t).result.answer ≡ answer_of o
      go (refused r) e = ap (λ (x : Loading). x.result.answer) (when-refused r e)
      go (taken s) e = ap (λ (x : Loading). x.result.answer) (when-taken s e)

  given : (r : Refusal) → ((load_call g bs t).result.answer ≡ Refused r) ↔ (said ≡ refused r)
  given r = says said answered (λ e. e, λ e. e)

  -- 23, bad setting: exactly where a setting is outside its range, whatever the bytes are
  pub load-setting : ((load_call g bs t).result.answer ≡ Refused BadSetting) ↔ ((g.base ≡ 0) ⊎ (g.max < g.base))
  unfolding any
  load-setting = exactly (given BadSetting) (with-setting g parsed (λ e. false≢true (parse-numbers g.base (room_of t) bs BadSetting e)))

  -- the other numbers are parsing's, each under its condition
  pub load-answer : in_range g ≡ true → (r : Refusal) → ((load_call g bs t).result.answer ≡ Refused r) ↔ (parse_snapshot g.base (room_of t) bs ≡ refused r)
  load-answer ranged r = rw (with-ranged g parsed ranged) at (given r)

  -- reading is parsing and 25 behind it
  bounded : parsed_or g bs t ≡ (said >>= bound)
  unfolding read_snapshot
  bounded = with-then g parsed bound

  -- so they are reading's but 25
  pub load_same : (r : Refusal) → (number_of FewCells ≡ number_of r → ⊥) → ((load_call g bs t).result.answer ≡ Refused r) ↔ ((deserialize_call g bs t).result.answer ≡ Refused r)
  load_same r other =
      exactly (given r)
      ((λ e. (deserialize-given g bs t r).1 (bounded ∙ (bound-other said other).1 e)), λ e. (bound-other said other).0 (sym bounded ∙ (deserialize-given g bs t r).0 e))

  -- 23, 8, 7, 9, 10, 11 or 6: never 25
  pub load-numbers : Answers (23 ∷ 8 ∷ 7 ∷ 9 ∷ 10 ∷ 11 ∷ 6 ∷ []) (load_call g bs t).result.answer
  load-numbers =
      says-numbers (23 ∷ 8 ∷ 7 ∷ 9 ∷ 10 ∷ 11 ∷ 6 ∷ []) said answered
      (with-numbers g parsed (8 ∷ 7 ∷ 9 ∷ 10 ∷ 11 ∷ 6 ∷ []) (parse-numbers g.base (room_of t) bs))

  -- a refusal leaves the table as it was, gives a record of zeros, and the total beside it is 0
  pub load-refused : (r : Refusal) → (load_call g bs t).result.answer ≡ Refused r
      → load_call g bs t ≡ load_effect (record { answer = Refused r; counters = no_counters; old_total = 0 }) t
  load-refused r e = when-refused r ((given r).0 e)

  -- what is taken is what the snapshot says, its total raised, laid out under the settings; beside it the total as it stands
  pub load-taken : (load_call g bs t).result.answer ≡ Taken
      → (s : State) × (parse_snapshot g.base (room_of t) bs ≡ taken s) × (load_call g bs t ≡ loads g (length t) (raised s) s.live) × (in_range g ≡ true)
  load-taken a = go said refl
    where
      go : (o : Outcome State) → said ≡ o → (s : State) × (parsed ≡ taken s) × (load_call g bs t ≡ loads g (length t) (raised s) s.live) × (in_range g ≡ true)
      go (refused r) e = absurd (not-refused (sym a ∙ (given r).1 e))
      go (taken s) e = let (ranged, same) = with-other g parsed (taken s) e (λ i. taken_refused i) in (s, same, when-taken s e, ranged)

  room_for : (s : State) → parsed ≡ taken s → length (raised s).counts ≤ room_of t
  unfolding raised
  room_for s e = parse-fits g.base (room_of t) bs s e

  in_order : (s : State) → parsed ≡ taken s → ordered (raised s).next (raised s).counts ≡ true
  unfolding raised
  in_order s e = parse-ordered g.base (room_of t) bs s e

  module _ (a : (load_call g bs t).result.answer ≡ Taken) where
    -- the state by the parts of the bytes, and the total that they have
    pub load-state : state_of (load_call g bs t).result.counters (load_call g bs t).table ≡ raised (state_read g.base bs)
    load-state =
        let (s, e, same, ranged) = load-taken a in
        let room = room_for s e in
        rw same (state_of-laid g (raised s) (length t) (omega arith) ∙ ap raised (parse-state g.base (room_of t) bs s e))

    pub load-old : (load_call g bs t).result.old_total ≡ live_of bs
    load-old =
        let (s, e, same, ranged) = load-taken a in
        rw same (ap (λ (u : State). u.live) (parse-state g.base (room_of t) bs s e))

    -- the settings that were given
    pub load-settings : (load_call g bs t).result.counters.settings ≡ g
    unfolding record_of
    load-settings = let (s, e, same, ranged) = load-taken a in rw same refl

    -- the record and the table hold it, so 20 never follows
    pub load-holds : holds (load_call g bs t).result.counters (load_call g bs t).table ≡ true
    load-holds =
        let (s, e, same, ranged) = load-taken a in
        let room = room_for s e in
        rw same (holds-laid g (raised s) (length t) (omega arith) ranged (in_order s e) (raised-bounded s))

    -- no more counts than cells
    pub load-bounded : (load_call g bs t).result.counters.stored ≤ (load_call g bs t).result.counters.live_cells
    load-bounded = (held (load_call g bs t).result.counters (load_call g bs t).table load-holds).bounded

    -- and it can be written and read back
    pub load-well-formed : all (λ b. ltb b 256) bs ≡ true → WellFormed (state_of (load_call g bs t).result.counters (load_call g bs t).table)
    load-well-formed bytes =
        let (s, e, same, ranged) = load-taken a in
        let room = room_for s e in
        rw (same, state_of-laid g (raised s) (length t) (omega arith)) (raised-well-formed s (parse-spelled g.base (room_of t) bs s e bytes))

    -- the total never falls: it is the larger of the snapshot's own and the number of stored counts
    pub load-total : (load_call g bs t).result.counters.live_cells ≡ max (load_call g bs t).result.old_total (load_call g bs t).result.counters.stored
    unfolding record_of raised
    load-total = let (s, e, same, ranged) = load-taken a in rw same refl

  -- the table keeps its length, whatever the answer
  pub load-keeps-length : length (load_call g bs t).table ≡ length t
  load-keeps-length = go (load_call g bs t).result.answer refl
    where
      go : (a : Answer) → (load_call g bs t).result.answer ≡ a → length (load_call g bs t).table ≡ length t
      go (Refused r) e = rw (load-refused r e) refl
      go Taken e =
          let (s, i, same, ranged) = load-taken e in
          let room = room_for s i in
          rw same (length-table_of g (raised s) (length t) (omega arith))

  -- ---- beside reading
  -- where reading takes, loading gives the same record and table, and the total beside it is theirs
  pub load-agrees : (deserialize_call g bs t).result.answer ≡ Taken
      → load_call g bs t
      ≡ load_effect (record { answer = Taken; counters = (deserialize_call g bs t).result.counters; old_total = (deserialize_call g bs t).result.counters.live_cells })
      (deserialize_call g bs t).table
  unfolding laid record_of
  load-agrees a =
      let (s, ok, same, ranged) = deserialize-taken g bs t a in
      rw (same, when-taken s (with-ranged g parsed ranged ∙ read-parsed g.base (room_of t) bs s ok), raised-same s (read-bounded g.base (room_of t) bs s ok))

  -- where reading answers 25, loading takes what the snapshot says, and its total, which is below the stored counts, becomes their number
  pub load-raises : (deserialize_call g bs t).result.answer ≡ Refused FewCells
      → (s : State) × (parse_snapshot g.base (room_of t) bs ≡ taken s) × (s.live < length s.counts) × (load_call g bs t ≡ loads g (length t) (covered s) s.live)
  unfolding any
  load-raises a =
      let never = with-numbers g parsed (8 ∷ 7 ∷ 9 ∷ 10 ∷ 11 ∷ 6 ∷ []) (parse-numbers g.base (room_of t) bs) in
      let (s, e, few) = (bound-few said (λ i. false≢true (never FewCells i))).0 (sym bounded ∙ (deserialize-given g bs t FewCells).0 a) in
      (s, (with-other g parsed (taken s) e (λ i. taken_refused i)).1, few, when-taken s e ∙ ap (λ (u : State). loads g (length t) u s.live) (raised-covered s few))

-- ---- loading what was written, whatever its live total
pub load-written : (g : ShrinkSettings) (s : State) (t : List ℕ) → in_range g ≡ true → Spelled s → length s.counts ≤ room_of t
    → load_call g (snapshot_bytes s) t ≡ loads g (length t) (raised (renewed g.base s)) s.live
load-written g s t ranged w room =
    when-taken g (snapshot_bytes s) t (renewed g.base s) (with-ranged g (parse_snapshot g.base (room_of t) (snapshot_bytes s)) ranged ∙ parse-snapshot g.base (room_of t) s w room)
