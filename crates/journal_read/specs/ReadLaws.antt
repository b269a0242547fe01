-- Records read in turn: what holds of the tables between two of them, and how the reading ends.
-- Assumes nothing.
use Rattle.std.specs.Prelude.{◌≡◌, Bool, true, false, ℕ, ◌+◌, ◌-◌, ◌/◌, ◌≤◌, ◌<◌, min, take}
use Rattle.std.proofs.Math.Path.{refl, sym, ap}
use Rattle.std.proofs.Common.{◌∙◌, inl, inr, take_all}
use mathlib.Core.List.{List}
use Rattle.std.proofs.Math.Numerals.{add-one}
use native.Mathlib.Omega.{arith}
use Rattle.std.proofs.Math.ListN.{length, drop, length-drop}
use Rattle.std.proofs.Math.Seq.{drop-drop, drop-length}
use Rattle.base.specs.Logic.{sum_of}
use Rattle.base.specs.Answers.{Outcome, refused, taken, Answer, Taken, Refused}
use Rattle.base.specs.AnswerLaws.{not-refused}
use Rattle.base.specs.declared.Refusal.{Refusal}
use Rattle.base.specs.declared.Refusal.TheVariants.{Damaged, BadSetting}
use Rattle.cell_nursery.specs.declared.Nursery.{Nursery}
use Rattle.cell_nursery.specs.Returned.{Committed}
use Rattle.cell_nursery.specs.Entries.{State, empty, cell_bytes}
use Rattle.cell_nursery.specs.Delta.{Room, apply_delta}
use Rattle.cell_nursery.specs.Layout.{record_of, entries_table, waiting_table, cells_table, room_of, state_of, delay_in_range, holds}
use Rattle.cell_nursery.specs.Calls as nursery
use Rattle.cell_nursery.specs.Calls.{Changed, laid, laid_out, new_call}
use Rattle.cell_nursery.specs.Held.{U64, WellFormed, Held}
use Rattle.slices.specs.ByteLaws.{U8, u8-drop, u8-part}
use Rattle.cell_nursery.proofs.LayoutLaws.{held, length-entries_table, length-waiting_table, length-cells_table, state_of-laid, holds-laid}
use Rattle.cell_nursery.proofs.SettingLaws.{new-taken}
use Rattle.cell_nursery.proofs.EntryLaws.{well-empty, well-after, InRoom, room_after}
use Rattle.format.specs.Record.{Decoding, decode}
use Rattle.format.proofs.RefusalLaws.{decode-known}
use Rattle.format.specs.Record.{stated_hash}
use Rattle.format.proofs.TakenLaws.{taken-lent}
use Rattle.journal.specs.Returned.{ReadAnswer, ScanAnswer}
use Rattle.journal.specs.Journal.{records_from, scan, damages, damaged, apply_record, read_journal, effect, not_read, read_out, read_call}
use Rattle.journal.proofs.ReadLaws.{RecordRefused, record-refused, record-taken, records_in, records-taken, records-refused, same-records, read-bad, read-damaged}
use Rattle.journal_laws.specs.DeltaLaws.{delta-read, delta-fits, taken-accepted}
use Rattle.journal_laws.specs.EndLaws.{Reached, start, reached-next, undamaged-matches}
use Rattle.journal_read.specs.Reading.{StepAnswer, Stepped, stepped, beside, told, record_on, record_call, apply_held, read_on}

-- ---- what a function tells of what a record did
-- all of it, where it is taken
pub told-taken : (n : Nursery) (k : ℕ) (es ws cs : List ℕ) (z : Stepped) → stepped (record { answer = Taken; nursery = n; len = k }) es ws cs ≡ told z
    → stepped (record { answer = Taken; nursery = n; len = k }) es ws cs ≡ z
told-taken n k es ws cs z e = go z.result.answer z.result.nursery z.result.len z.entries z.waiting z.cells e
  where
    go : (a : Answer) (m : Nursery) (l : ℕ) (es' ws' cs' : List ℕ)
        → stepped (record { answer = Taken; nursery = n; len = k }) es ws cs ≡ told (stepped (record { answer = a; nursery = m; len = l }) es' ws' cs')
        → stepped (record { answer = Taken; nursery = n; len = k }) es ws cs ≡ stepped (record { answer = a; nursery = m; len = l }) es' ws' cs'
    go Taken m l es' ws' cs' f = f
    go (Refused y) m l es' ws' cs' f = absurd (not-refused (ap (λ (x : Stepped). x.result.answer) f))

-- all but its length, where it is refused
pub told-refused : (a : Refusal) (n : Nursery) (es ws cs : List ℕ) (z : Stepped) → stepped (record { answer = Refused a; nursery = n; len = 0 }) es ws cs ≡ told z
    → stepped (record { answer = Refused a; nursery = n; len = z.result.len }) es ws cs ≡ z
told-refused a n es ws cs z e = go z.result.answer z.result.nursery z.result.len z.entries z.waiting z.cells e
  where
    go : (b : Answer) (m : Nursery) (l : ℕ) (es' ws' cs' : List ℕ)
        → stepped (record { answer = Refused a; nursery = n; len = 0 }) es ws cs ≡ told (stepped (record { answer = b; nursery = m; len = l }) es' ws' cs')
        → stepped (record { answer = Refused a; nursery = n; len = l }) es ws cs ≡ stepped (record { answer = b; nursery = m; len = l }) es' ws' cs'
    go Taken m l es' ws' cs' f = absurd (not-refused (sym (ap (λ (x : Stepped). x.result.answer) f)))
    go (Refused y) m l es' ws' cs' f =
        ap (λ (x : Stepped). stepped (record { answer = x.result.answer; nursery = x.result.nursery; len = l }) x.entries x.waiting x.cells) f

-- ---- between two records
-- a journal that is read on from what a record and tables hold
module _ (s : List ℕ) (r₀ : Nursery) (es₀ ws₀ cs₀ : List ℕ) where
  -- the tables hold a state, from which the rest of the journal leads to the same end
  pub record Reading (r : Nursery) (es ws cs : List ℕ) (applied place : ℕ) : Type 0 where
    pub u64_es : U64 es
    pub u64_ws : U64 ws
    pub holding : holds r es ws cs ≡ true
    pub same_delay : r.delay ≡ r₀.delay
    pub size-es : length es ≡ length es₀
    pub size-ws : length ws ≡ length ws₀
    pub size-cs : length cs ≡ length cs₀
    pub inside : place ≤ length s
    pub counted : applied ≤ place
    pub leads : records_in (apply_held (room_of es₀ ws₀ cs₀)) (state_of r es ws cs) applied place (drop place s) ≡ records_in (apply_held (room_of es₀ ws₀ cs₀)) (state_of r₀ es₀ ws₀ cs₀) 0 0 s

  -- a record of n bytes was applied
  pub record Applied (r : Nursery) (n : ℕ) (es ws cs : List ℕ) (applied place : ℕ) : Type 0 where
    pub some : 0 < n
    pub next : Reading r es ws cs (applied + 1) (place + n)

  module _ (r : Nursery) (es ws cs : List ℕ) (applied place : ℕ) (x : Reading r es ws cs applied place) where
    abbrev here : State
    here = state_of r es ws cs

    is_held : Held r es ws cs
    is_held = held r es ws cs x.u64_es x.u64_ws x.holding

    room-same : room_of es ws cs ≡ room_of es₀ ws₀ cs₀
    unfolding room_of
    room-same = rw (x.size-es, x.size-ws, x.size-cs)

    -- the reading ends here
    closed : (a : Answer) → records_in (apply_held (room_of es₀ ws₀ cs₀)) here applied place (drop place s) ≡ record { state = here; records = applied; place = place; ended = a }
        → effect (record { answer = Taken; nursery = r; applied = applied; place = place; ended = a }) es ws cs ≡ read_on r₀ es₀ ws₀ cs₀ s
    unfolding read_on read_out laid
    closed a e =
        let h = is_held in
        rw (← x.leads, e, ← x.same_delay, ← x.size-es, ← x.size-ws, ← x.size-cs, h.same_record, h.same_entries, h.same_waiting, h.same_cells)

    pub finished : place ≡ length s → effect (record { answer = Taken; nursery = r; applied = applied; place = length s; ended = Taken }) es ws cs ≡ read_on r₀ es₀ ws₀ cs₀ s
    unfolding records_from
    finished e = rw (← e) (closed Taken (rw (e, drop-length s)))

    -- what a record at this place did; the bytes from there on are lent as a part of the journal
    module _ (more : place < length s) (u : U8 s) (q : StepAnswer) (es' ws' cs' : List ℕ) (e : stepped q es' ws' cs' ≡ record_call r es ws cs (take (length s - place) (drop place s))) where
      abbrev rest : List ℕ
      rest = drop place s

      -- the hash that it states
      abbrev hash : List ℕ → List ℕ
      hash = stated_hash rest

      some_left : 0 < length rest
      some_left = omega (arith, length-drop place s)

      on-rest : stepped q es' ws' cs' ≡ record_call r es ws cs rest
      on-rest = e ∙ ap (λ (l : List ℕ). record_call r es ws cs l) (take_all (length s - place) rest (omega (arith, length-drop place s)))

      -- it ends in the journal, also where its delta is refused
      pub reach : place + q.len ≤ length s
      unfolding record_call record_on
      reach = go (decode hash rest) refl on-rest
        where
          go : (o : Outcome Decoding) → decode hash rest ≡ o → stepped q es' ws' cs' ≡ record_on r es ws cs o → place + q.len ≤ length s
          go (refused y) i f = let n : q.len ≡ 0 = ap (λ (z : Stepped). z.result.len) f in omega arith
          go (taken d) i f =
              let n : q.len ≡ 40 + d.stats.payload_bytes = ap (λ (z : Stepped). z.result.len) f in
              omega (arith, (taken-lent hash rest d i).inside, length-drop place s)

      -- it was refused, or its delta was: nothing changed
      pub stopped : (a : Refusal) → q.answer ≡ Refused a → effect (record { answer = Taken; nursery = q.nursery; applied = applied; place = place; ended = q.answer }) es' ws' cs' ≡ read_on r₀ es₀ ws₀ cs₀ s
      unfolding record_call record_on laid_out laid
      stopped a ended = go (decode hash rest) refl on-rest
        where
          as_before : (k : ℕ) (y : Refusal) → stepped q es' ws' cs' ≡ beside k (laid_out r.delay r es ws cs (refused y))
              → records_in (apply_held (room_of es₀ ws₀ cs₀)) here applied place rest ≡ record { state = here; records = applied; place = place; ended = Refused y }
              → effect (record { answer = Taken; nursery = q.nursery; applied = applied; place = place; ended = q.answer }) es' ws' cs' ≡ read_on r₀ es₀ ws₀ cs₀ s
          as_before k y f l =
              rw (
                ap (λ (z : Stepped). z.result.answer) f,
                ap (λ (z : Stepped). z.result.nursery) f,
                ap (λ (z : Stepped). z.entries) f,
                ap (λ (z : Stepped). z.waiting) f,
                ap (λ (z : Stepped). z.cells) f,
              )
              (closed (Refused y) l)

          ends : (y : Refusal) → RecordRefused hash (room_of es₀ ws₀ cs₀) here rest y
              → records_in (apply_held (room_of es₀ ws₀ cs₀)) here applied place rest ≡ record { state = here; records = applied; place = place; ended = Refused y }
          ends y p = records-refused (apply_held (room_of es₀ ws₀ cs₀)) here applied place y rest some_left ((record-refused hash (room_of es₀ ws₀ cs₀) here rest y).1 p)

          after : (d : Decoding) (o : Outcome State) → decode hash rest ≡ taken d → apply_delta (room_of es ws cs) here d.delta ≡ o
              → stepped q es' ws' cs' ≡ beside (40 + d.stats.payload_bytes) (laid_out r.delay r es ws cs o)
              → effect (record { answer = Taken; nursery = q.nursery; applied = applied; place = place; ended = q.answer }) es' ws' cs' ≡ read_on r₀ es₀ ws₀ cs₀ s
          after d (refused y) i p f = as_before (40 + d.stats.payload_bytes) y f (ends y (inr (d, i, rw room-same at p)))
          after d (taken t) i p f = absurd (not-refused (sym (ap (λ (z : Stepped). z.result.answer) f) ∙ ended))

          go : (o : Outcome Decoding) → decode hash rest ≡ o → stepped q es' ws' cs' ≡ record_on r es ws cs o
              → effect (record { answer = Taken; nursery = q.nursery; applied = applied; place = place; ended = q.answer }) es' ws' cs' ≡ read_on r₀ es₀ ws₀ cs₀ s
          go (refused y) i f = as_before 0 y f (ends y (inl i))
          go (taken d) i f = after d (apply_delta (room_of es ws cs) here d.delta) i refl f

      -- it was applied
      pub advanced : U64 es' → U64 ws' → q.answer ≡ Taken → Applied q.nursery q.len es' ws' cs' applied place
      unfolding record_call record_on laid_out laid room_of
      advanced v w going = go (decode hash rest) refl on-rest
        where
          laid-out : (d : Decoding) (t : State) → decode hash rest ≡ taken d → apply_delta (room_of es ws cs) here d.delta ≡ taken t
              → q.nursery ≡ record_of r.delay t → q.len ≡ 40 + d.stats.payload_bytes → es' ≡ entries_table (length es) t → ws' ≡ waiting_table (length ws) t → cs' ≡ cells_table (length cs) t → Applied q.nursery q.len es' ws' cs' applied place
          laid-out d t i p a b f g h =
              let size = d.stats.payload_bytes in
              let inserts = d.stats.insert_ops in
              let removes = d.stats.remove_ops in
              let bytes = u8-drop place s u in
              let whole = taken-lent hash rest d i in
              let (ok, same) = taken-accepted (room_of es ws cs) here d.delta t p in
              let read = delta-read 2 inserts removes (take (size - 16) (drop 56 rest)) d.delta (u8-part 56 (size - 16) rest bytes) whole.items in
              let well : WellFormed t = rw same (well-after d.delta here (delta-fits 0 inserts removes d.delta (omega arith) read ok.short).inserts ok.new is_held.well) in
              let fit : InRoom (min (length es / 8) (length ws / 5)) (length cs) t = rw same (room_after (room_of es ws cs) d.delta here ok.fits) in
              let state-same : state_of q.nursery es' ws' cs' ≡ t = rw (a, f, g, h) (state_of-laid t (length es) (length ws) (length cs) well fit.rows_fit fit.bytes_fit r.delay) in
              let turn = records-taken (apply_held (room_of es₀ ws₀ cs₀)) here applied place t size rest some_left ((record-taken hash (room_of es₀ ws₀ cs₀) here rest t size).1 (d, i, rw room-same at p, refl)) in
              let left = length-drop place s in
              record {
                some = omega (arith, b);
                next =
                    record {
                      u64_es = v;
                      u64_ws = w;
                      holding = rw (a, f, g, h) (holds-laid t (length es) (length ws) (length cs) well fit.rows_fit fit.bytes_fit r.delay is_held.entries.delay);
                      same_delay = ap (λ (n : Nursery). n.delay) a ∙ (unfold record_of in x.same_delay);
                      size-es = ap length f ∙ length-entries_table t (length es) (length ws) (length cs) well fit.rows_fit fit.bytes_fit ∙ x.size-es;
                      size-ws = ap length g ∙ length-waiting_table t (length es) (length ws) (length cs) well fit.rows_fit fit.bytes_fit ∙ x.size-ws;
                      size-cs = ap length h ∙ length-cells_table t (length es) (length ws) (length cs) well fit.rows_fit fit.bytes_fit ∙ x.size-cs;
                      inside = omega (arith, b, left, whole.inside);
                      counted = omega (arith, b, x.counted);
                      leads = rw (state-same, add-one applied, b, ← drop-drop (40 + size) place s) (sym turn ∙ x.leads);
                    };
              }

          after : (d : Decoding) (o : Outcome State) → decode hash rest ≡ taken d → apply_delta (room_of es ws cs) here d.delta ≡ o
              → stepped q es' ws' cs' ≡ beside (40 + d.stats.payload_bytes) (laid_out r.delay r es ws cs o) → Applied q.nursery q.len es' ws' cs' applied place
          after d (refused y) i p f = absurd (not-refused (sym going ∙ ap (λ (z : Stepped). z.result.answer) f))
          after d (taken t) i p f =
              laid-out d t i p (ap (λ (z : Stepped). z.result.nursery) f) (ap (λ (z : Stepped). z.result.len) f) (ap (λ (z : Stepped). z.entries) f)
              (ap (λ (z : Stepped). z.waiting) f) (ap (λ (z : Stepped). z.cells) f)

          go : (o : Outcome Decoding) → decode hash rest ≡ o → stepped q es' ws' cs' ≡ record_on r es ws cs o → Applied q.nursery q.len es' ws' cs' applied place
          go (refused y) i f = absurd (not-refused (sym going ∙ ap (λ (z : Stepped). z.result.answer) f))
          go (taken d) i f = after d (apply_delta (room_of es ws cs) here d.delta) i refl f

-- ---- an empty nursery, made in tables of any content
module _ (delay : ℕ) (in_range : delay_in_range delay ≡ true) (es ws cs : List ℕ) (c : Committed) (es' ws' cs' : List ℕ) (e : nursery.effect c es' ws' cs' ≡ new_call delay es ws cs) where
  is-laid : nursery.effect c es' ws' cs' ≡ laid delay es ws cs empty
  is-laid = e ∙ new-taken delay es ws cs in_range

  no_rows : length empty.entries ≤ min (length es / 8) (length ws / 5)
  unfolding empty
  no_rows = omega arith

  no_bytes : cell_bytes empty.entries ≤ length cs
  unfolding empty cell_bytes sum_of
  no_bytes = omega arith

  is-record : c.nursery ≡ record_of delay empty
  unfolding laid
  is-record = ap (λ (z : Changed). z.result.nursery) is-laid

  is-entries : es' ≡ entries_table (length es) empty
  unfolding laid
  is-entries = ap (λ (z : Changed). z.entries) is-laid

  is-waiting : ws' ≡ waiting_table (length ws) empty
  unfolding laid
  is-waiting = ap (λ (z : Changed). z.waiting) is-laid

  is-cells : cs' ≡ cells_table (length cs) empty
  unfolding laid
  is-cells = ap (λ (z : Changed). z.cells) is-laid

  pub fresh_holds : holds c.nursery es' ws' cs' ≡ true
  fresh_holds = rw (is-record, is-entries, is-waiting, is-cells) (holds-laid empty (length es) (length ws) (length cs) well-empty no_rows no_bytes delay in_range)

  pub fresh-read : (s : List ℕ) → read_on c.nursery es' ws' cs' s ≡ read_out delay es ws cs (records_in (apply_held (room_of es ws cs)) empty 0 0 s)
  unfolding read_on read_out laid room_of record_of
  fresh-read s =
      rw (
        is-record,
        is-entries,
        is-waiting,
        is-cells,
        state_of-laid empty (length es) (length ws) (length cs) well-empty no_rows no_bytes delay,
        length-entries_table empty (length es) (length ws) (length cs) well-empty no_rows no_bytes,
        length-waiting_table empty (length es) (length ws) (length cs) well-empty no_rows no_bytes,
        length-cells_table empty (length es) (length ws) (length cs) well-empty no_rows no_bytes,
      )

-- ---- the call, by its first pass
module _ (hash : List ℕ → List ℕ) (s : List ℕ) where
  -- where no record is damaged, their hashes may be taken on trust
  pub held-read : damaged hash s ≡ false → (m : Room) → records_in (apply_held m) empty 0 0 s ≡ read_journal hash m s
  unfolding read_journal apply_record
  held-read sound m = same-records (apply_held m) (apply_record hash m) (λ place rest. (rest ≡ drop place s) × Reached hash s place) same kept (length s) empty 0 0 s (refl, start)
    where
      same : (t : State) (place : ℕ) (rest : List ℕ) → (rest ≡ drop place s) × Reached hash s place → apply_held m t rest ≡ apply_record hash m t rest
      same t place rest (e, r) = rw (decode-known hash rest (rw e (undamaged-matches hash s sound r)))

      kept : (t u : State) (n place : ℕ) (rest : List ℕ) → (rest ≡ drop place s) × Reached hash s place → apply_record hash m t rest ≡ taken (u, n)
          → (drop (40 + n) rest ≡ drop (place + (40 + n)) s) × Reached hash s (place + (40 + n))
      kept t u n place rest (e, r) f =
          let (d, i, j, k) = (record-taken hash m t rest u n).0 f in
          (ap (λ (l : List ℕ). drop (40 + n) l) e ∙ drop-drop (40 + n) place s, reached-next hash s n d r (ap (decode hash) (sym e) ∙ i) k)

  pub pass-says : (x : ScanAnswer) (b : Bool) → x ≡ scan hash s → b ≡ damages x.ended → damaged hash s ≡ b
  unfolding damaged
  pass-says x b e f = rw (← e) (sym f)

-- a refusal of the reading
abbrev pub refused_with : Refusal → ReadAnswer
refused_with why =
    record { answer = Refused why; nursery = record_of 0 empty; applied = 0; place = 0; ended = Taken }

module _ (hash : List ℕ → List ℕ) (delay : ℕ) (s es ws cs : List ℕ) where
  pub not_set : delay_in_range delay ≡ false → effect (refused_with BadSetting) es ws cs ≡ read_call hash delay s es ws cs
  unfolding not_read
  not_set o = sym (read-bad hash delay s es ws cs o)

  pub not-read : delay_in_range delay ≡ true → damaged hash s ≡ true → effect (refused_with Damaged) es ws cs ≡ read_call hash delay s es ws cs
  unfolding not_read
  not-read o e = sym (read-damaged hash delay s es ws cs o e)
