-- Every call on a record and a table that hold a state leaves such a record and table: 20 never follows. A refusal changes nothing.
-- Assumes nothing.
use Rattle.std.specs.Prelude.{◌≡◌, ◌↔◌, ◌⊎◌, Bool, ℕ, ◌+◌, ◌/◌, ◌%◌, ◌≤◌, ◌<◌, eqb}
use Rattle.std.proofs.Math.Path.{refl, sym, ap}
use Rattle.std.proofs.Common.{◌∙◌, inl, inr, true≢false, arith}
use Rattle.std.proofs.Math.Bool.{true, false, not, false≢true, or-true}
use Rattle.std.proofs.Math.Option.{Option, none, some}
use mathlib.Core.List.{List, [], ◌∷◌}
use Rattle.std.proofs.Math.Decide.{dec_le}
use Rattle.std.proofs.Math.ListN.{length}
use borrow.Author.Tests.{le-leb, lt-leb, eqb-true, eqb-false}
use Rattle.base.specs.Logic.{all, any, elem, ascending_from}
use Rattle.base.specs.Answers.{Outcome, refused, taken, ◌>>=◌, ◌>>◌, refuse_if, or_refuse, answer_of, value_or, number_of, Taken, Refused}
use Rattle.base.specs.AnswerLaws.{not-refused}
use Rattle.base.specs.declared.Refusal.{Refusal}
use Rattle.base.specs.declared.Refusal.TheVariants.{Broken, BadSetting}
use Rattle.rows.specs.Table.{rows_of}
use Rattle.rows.proofs.TableLaws.{laid-holds}
use Rattle.counters.specs.declared.ShrinkSettings.{ShrinkSettings}
use Rattle.counters.specs.declared.Counters.{Counters}
use Rattle.counters.specs.declared.CounterTransition.{CounterTransition}
use Rattle.counters.specs.Returned.{ShrunkAnswer}
use Rattle.counters.specs.declared.NextIdx.{NextIdx}
use Rattle.counters.specs.declared.Idx.{Idx}
use Rattle.counters.specs.Counts.{State, fresh, allocate, get}
use Rattle.counters.specs.Batch.{apply_batch}
use Rattle.counters.specs.Maintenance.{in_range, decide, shrunk}
use Rattle.counters.specs.Layout.{count_row, transition_row, room_of, record_of, with_next, with_maintenance, state_of, ordered, holds, batch_of}
use Rattle.counters.proofs.LayoutLaws.{held, length-table_of, state_of-laid, holds-laid}
use Rattle.counters.specs.Calls.{on_state, effect, laid, laid_out, with_settings, no_counters, laid_in, new_call, allocated, alloc_call, get_call, batch_call, decided, shrink_call}
use Rattle.counters.proofs.CountLaws.{ordered-more}
use Rattle.base.specs.OutcomeLaws.{refused-taken, taken_refused, answer-refused, Refuses, refuses-none, refuses-step}
use Rattle.counters.proofs.RefusalLaws.{allocate-taken, get-numbers, batch-numbers, taken-ordered, bounded-after, taken-fits}

-- ---- an operation on the state that a record and a table hold
module _ {A : Type 0} (c : Counters) (t : List ℕ) (f : State → Outcome A) where
  pub on_state-held : holds c t ≡ true → on_state c t f ≡ f (state_of c t)
  unfolding on_state
  on_state-held h = rw h

  -- 20, broken: the lent table holds no state
  pub on_state-broken : holds c t ≡ false → on_state c t f ≡ refused Broken
  unfolding on_state
  on_state-broken h = rw h

  -- 20 exactly there, where the operation itself doesn't give it
  pub broken-exactly : ((s : State) → f s ≡ refused Broken → ⊥) → (answer_of (on_state c t f) ≡ Refused Broken) ↔ (holds c t ≡ false)
  broken-exactly n = go (holds c t) refl
    where
      go : (b : Bool) → holds c t ≡ b → (answer_of (on_state c t f) ≡ Refused Broken) ↔ (b ≡ false)
      go true h = (λ e. absurd (n (state_of c t) (sym (on_state-held h) ∙ (answer-refused (on_state c t f) Broken).0 e)), λ e. absurd (true≢false e))
      go false h = (λ e. refl, λ e. ap answer_of (on_state-broken h))

  -- the numbers: 20, and the operation's
  pub on_state-numbers : (ns : List ℕ) → Refuses ns (f (state_of c t)) → Refuses (20 ∷ ns) (on_state c t f)
  unfolding on_state
  on_state-numbers ns inner = refuses-step {P = not (holds c t) ≡ true} Broken ns (λ e. e, λ e. e) inner

-- ---- making and reading in: 23 exactly where a setting is outside its range
pub settings-range : (g : ShrinkSettings) → (in_range g ≡ false) ↔ ((g.base ≡ 0) ⊎ (g.max < g.base))
unfolding in_range
settings-range g =
    elim (dec_le 1 g.base) [
      | yes h ↦ elim (dec_le g.base g.max) [
        | yes k ↦ rw (le-leb 1 g.base h, le-leb g.base g.max k)
            (λ e. absurd (true≢false e), λ e. elim e [ inl z ↦ absurd (omega arith) | inr l ↦ absurd (omega arith) ])
        | no k ↦ rw (le-leb 1 g.base h, lt-leb g.base g.max (omega arith)) (λ e. inr (omega arith), λ e. refl)
      ]
      | no h ↦ rw (lt-leb 1 g.base (omega arith)) (λ e. inl (omega arith), λ e. refl)
    ]

module _ {A : Type 0} (g : ShrinkSettings) (o : Outcome A) where
  pub with-ranged : in_range g ≡ true → with_settings g o ≡ o
  unfolding with_settings
  with-ranged e = rw e

  pub with-bad : in_range g ≡ false → with_settings g o ≡ refused BadSetting
  unfolding with_settings
  with-bad e = rw e

  -- a step behind it comes behind 23 too
  pub with-then : {B : Type 0} (f : A → Outcome B) → with_settings g (o >>= f) ≡ (with_settings g o >>= f)
  unfolding with_settings
  with-then f = go (in_range g)
    where
      go : (b : Bool) → (refuse_if (not b) BadSetting >> (o >>= f)) ≡ ((refuse_if (not b) BadSetting >> o) >>= f)
      go true = refl
      go false = refl

  -- what is taken or refused otherwise had its settings in their ranges
  pub with-other : (p : Outcome A) → with_settings g o ≡ p → (p ≡ refused BadSetting → ⊥) → (in_range g ≡ true) × (o ≡ p)
  with-other p e n = go (in_range g) refl
    where
      go : (b : Bool) → in_range g ≡ b → (b ≡ true) × (o ≡ p)
      go true h = (refl, sym (with-ranged h) ∙ e)
      go false h = absurd (n (sym e ∙ with-bad h))

  pub with-setting : (o ≡ refused BadSetting → ⊥) → (with_settings g o ≡ refused BadSetting) ↔ ((g.base ≡ 0) ⊎ (g.max < g.base))
  with-setting n = ((λ e. (settings-range g).0 (outside e)), λ e. with-bad ((settings-range g).1 e))
    where
      outside : with_settings g o ≡ refused BadSetting → in_range g ≡ false
      outside e = go (in_range g) refl
        where
          go : (b : Bool) → in_range g ≡ b → b ≡ false
          go true h = absurd (n (sym (with-ranged h) ∙ e))
          go false h = refl

  -- the numbers: 23, and those of what is made or read
  pub with-numbers : (ns : List ℕ) → Refuses ns o → Refuses (23 ∷ ns) (with_settings g o)
  unfolding with_settings
  with-numbers ns inner = refuses-step {P = not (in_range g) ≡ true} BadSetting ns (λ e. e, λ e. e) inner

-- ---- a new state laid out, or beside a refusal a record, and the table as it was
module _ (g : ShrinkSettings) (c : Counters) (t : List ℕ) (o : Outcome State) where
  pub laid_out-answer : (laid_out g c t o).result.answer ≡ answer_of o
  unfolding laid_out laid
  laid_out-answer = elim o as (λ (k : Outcome State). (laid_out g c t k).result.answer ≡ answer_of k) [ refused r ↦ refl | taken s ↦ refl ]

  pub laid_out-refused : (r : Refusal) → o ≡ refused r → ((laid_out g c t o).result.counters ≡ c) × ((laid_out g c t o).table ≡ t)
  unfolding laid_out
  laid_out-refused r e = rw e (refl, refl)

  -- the record has the settings, whatever the answer, where the one beside a refusal has them
  pub laid_out-settings : c.settings ≡ g → (laid_out g c t o).result.counters.settings ≡ g
  unfolding laid_out laid record_of
  laid_out-settings e = go o
    where
      go : (p : Outcome State) → (laid_out g c t p).result.counters.settings ≡ g
      go (refused r) = e
      go (taken s) = refl

  module _ (fits : (s : State) → o ≡ taken s → length s.counts ≤ room_of t) where
    laid_out-length : length (laid_out g c t o).table ≡ length t
    unfolding laid_out laid
    laid_out-length = go o fits
      where
        go : (p : Outcome State) → ((s : State) → p ≡ taken s → length s.counts ≤ room_of t) → length (laid_out g c t p).table ≡ length t
        go (refused r) f = refl
        go (taken s) f = length-table_of g s (length t) (omega (arith, f s refl))

    laid_out-holds : holds c t ≡ true → in_range g ≡ true
        → ((s : State) → o ≡ taken s → (ordered s.next s.counts ≡ true) × (length s.counts ≤ s.live))
        → holds (laid_out g c t o).result.counters (laid_out g c t o).table ≡ true
    unfolding laid_out laid
    laid_out-holds h r sound = go o fits sound
      where
        go : (p : Outcome State) → ((s : State) → p ≡ taken s → length s.counts ≤ room_of t)
            → ((s : State) → p ≡ taken s → (ordered s.next s.counts ≡ true) × (length s.counts ≤ s.live))
            → holds (laid_out g c t p).result.counters (laid_out g c t p).table ≡ true
        go (refused q) f k = h
        go (taken s) f k = holds-laid g s (length t) (omega (arith, f s refl)) r (k s refl).0 (k s refl).1

    laid_out-state : (s : State) → o ≡ taken s → state_of (laid_out g c t o).result.counters (laid_out g c t o).table ≡ s
    unfolding laid_out laid
    laid_out-state s e = rw e (state_of-laid g s (length t) (omega (arith, fits s e)))

-- ---- making counters: the table's content doesn't matter
module _ (g : ShrinkSettings) (next : NextIdx) (t : List ℕ) where
  abbrev start : Outcome State
  start = with_settings g (taken (fresh g.base next.0))

  -- 23, bad setting, exactly where one is outside its range; and no other number
  pub new-setting : ((new_call g next t).result.answer ≡ Refused BadSetting) ↔ ((g.base ≡ 0) ⊎ (g.max < g.base))
  unfolding new_call laid_in
  new-setting =
      rw (laid_out-answer g no_counters t start)
      (let (to, from) = with-setting g (taken (fresh g.base next.0)) (λ e. taken_refused e) in
      (λ e. to ((answer-refused start BadSetting).0 e), λ e. ap answer_of (from e)))

  pub new-numbers : (q : Refusal) → (new_call g next t).result.answer ≡ Refused q → elem (number_of q) (23 ∷ []) ≡ true
  unfolding new_call laid_in
  new-numbers q e =
      with-numbers g (taken (fresh g.base next.0)) [] (refuses-none [] (fresh g.base next.0)) q
      ((answer-refused start q).0 (sym (laid_out-answer g no_counters t start) ∙ e))

  -- beside it the record is all zeros, and the table as it was
  pub new-refused : (q : Refusal) → (new_call g next t).result.answer ≡ Refused q → new_call g next t ≡ laid_in g t (refused q)
  unfolding new_call laid_in
  new-refused q e =
      ap (laid_in g t) ((answer-refused start q).0 (sym (laid_out-answer g no_counters t start) ∙ e))

  pub new-bad : in_range g ≡ false → effect (record { answer = Refused BadSetting; counters = no_counters }) t ≡ new_call g next t
  unfolding new_call laid_in laid_out
  new-bad e = sym (ap (laid_in g t) (with-bad g (taken (fresh g.base next.0)) e))

  module _ (r : in_range g ≡ true) where
    pub new-taken : new_call g next t ≡ laid g (length t) (fresh g.base next.0)
    unfolding new_call laid_in laid_out
    new-taken = ap (laid_in g t) (with-ranged g (taken (fresh g.base next.0)) r)

    pub new-holds : holds (new_call g next t).result.counters (new_call g next t).table ≡ true
    unfolding laid fresh ordered ascending_from all
    new-holds = rw new-taken (holds-laid g (fresh g.base next.0) (length t) (omega arith) r refl (omega arith))

    pub new-length : length (new_call g next t).table ≡ length t
    unfolding laid fresh
    new-length = rw new-taken (length-table_of g (fresh g.base next.0) (length t) (omega arith))

    pub new-state : state_of (new_call g next t).result.counters (new_call g next t).table ≡ fresh g.base next.0
    unfolding laid fresh
    new-state = rw new-taken (state_of-laid g (fresh g.base next.0) (length t) (omega arith))

    pub new-settings : (new_call g next t).result.counters.settings ≡ g
    unfolding laid record_of
    new-settings = rw new-taken refl

-- ---- allocation
module _ (c : Counters) where
  -- the numbers are the operation's
  pub alloc-answer : (r : Refusal) → ((alloc_call c).answer ≡ Refused r) ↔ (allocate c.next_idx.0 ≡ refused r)
  unfolding alloc_call allocated
  alloc-answer r = go (allocate c.next_idx.0)
    where
      go : (o : Outcome ℕ) → ((allocated c o).answer ≡ Refused r) ↔ (o ≡ refused r)
      go (refused q) = answer-refused (refused q) r
      go (taken n) = answer-refused (taken n) r

  -- a refusal hands out 0 and leaves the record as it was
  pub alloc-refused : (r : Refusal) → (alloc_call c).answer ≡ Refused r → ((alloc_call c).idx.0 ≡ 0) × ((alloc_call c).counters ≡ c)
  unfolding alloc_call allocated
  alloc-refused r e = go (allocate c.next_idx.0) e
    where
      go : (o : Outcome ℕ) → (allocated c o).answer ≡ Refused r → ((allocated c o).idx.0 ≡ 0) × ((allocated c o).counters ≡ c)
      go (refused q) e = (refl, refl)
      go (taken n) e = absurd (not-refused e)

  -- else the index handed out is the next one
  pub alloc-taken : (alloc_call c).answer ≡ Taken → ((alloc_call c).idx.0 ≡ c.next_idx.0) × ((alloc_call c).counters ≡ with_next c (c.next_idx.0 + 1))
  unfolding alloc_call allocated
  alloc-taken e = go (allocate c.next_idx.0) refl e
    where
      go : (o : Outcome ℕ) → allocate c.next_idx.0 ≡ o → (allocated c o).answer ≡ Taken
          → ((allocated c o).idx.0 ≡ c.next_idx.0) × ((allocated c o).counters ≡ with_next c (c.next_idx.0 + 1))
      go (refused q) f e = absurd (not-refused (sym e))
      go (taken n) f e = (refl, ap (with_next c) ((allocate-taken c.next_idx.0 n).0 f).1)

  module _ (t : List ℕ) where
    with_next-holds : (n : ℕ) → c.next_idx.0 ≤ n → holds c t ≡ true → holds (with_next c n) t ≡ true
    unfolding holds with_next
    with_next-holds n l h =
        let s = held c t h in
        rw (
          laid-holds 2 c.stored t s.laid,
          ordered-more c.next_idx.0 (rows_of count_row c.stored t) s.sorted n l,
          le-leb c.stored c.live_cells s.bounded,
          s.ranged,
        )

    pub alloc-holds : holds c t ≡ true → holds (alloc_call c).counters t ≡ true
    unfolding alloc_call allocated
    alloc-holds h = go (allocate c.next_idx.0) refl
      where
        go : (o : Outcome ℕ) → allocate c.next_idx.0 ≡ o → holds (allocated c o).counters t ≡ true
        go (refused q) e = h
        go (taken n) e = with_next-holds n (omega (arith, ((allocate-taken c.next_idx.0 n).0 e).1)) h

    -- the next index grows by 1, and nothing else changes
    pub alloc-state : (alloc_call c).answer ≡ Taken
        → state_of (alloc_call c).counters t ≡ record { next = (state_of c t).next + 1; live = (state_of c t).live; counts = (state_of c t).counts; maintenance = (state_of c t).maintenance }
    unfolding state_of with_next
    alloc-state e = ap (λ (d : Counters). state_of d t) (alloc-taken e).1

  -- the settings stay
  pub alloc-settings : (alloc_call c).counters.settings ≡ c.settings
  unfolding alloc_call allocated with_next
  alloc-settings = go (allocate c.next_idx.0)
    where
      go : (o : Outcome ℕ) → (allocated c o).counters.settings ≡ c.settings
      go (refused q) = refl
      go (taken n) = refl

-- ---- reading a count
module _ (c : Counters) (t : List ℕ) (i : Idx) where
  -- on a record and a table that hold a state it is answered as the state is read
  pub get-held : holds c t ≡ true → get_call c t i ≡ record { answer = answer_of (get (state_of c t) i.0); count = record { 0 = value_or 0 (get (state_of c t) i.0) } }
  unfolding get_call
  get-held h = rw (on_state-held c t (λ s. get s i.0) h)

  -- so the other numbers are the operation's
  pub get-answer : holds c t ≡ true → (r : Refusal) → ((get_call c t i).answer ≡ Refused r) ↔ (get (state_of c t) i.0 ≡ refused r)
  get-answer h r = rw (get-held h) (answer-refused (get (state_of c t) i.0) r)

  -- 20, broken: exactly where they hold none
  pub get-broken : ((get_call c t i).answer ≡ Refused Broken) ↔ (holds c t ≡ false)
  unfolding get_call any
  get-broken = broken-exactly c t (λ s. get s i.0) (λ s e. false≢true (get-numbers s i.0 Broken e))

  -- 20 or 2, and no other
  pub get-call-numbers : (q : Refusal) → (get_call c t i).answer ≡ Refused q → elem (number_of q) (20 ∷ 2 ∷ []) ≡ true
  unfolding get_call
  get-call-numbers q e =
      on_state-numbers c t (λ s. get s i.0) (2 ∷ []) (get-numbers (state_of c t) i.0) q ((answer-refused (on_state c t (λ s. get s i.0)) q).0 e)

-- ---- a batch
-- words that spell a batch, and ragged ones
whole_words : (ws : List ℕ) → eqb (length ws % 3) 0 ≡ true → batch_of ws ≡ some (rows_of transition_row (length ws / 3) ws)
unfolding batch_of
whole_words ws e = rw e

ragged-words : (ws : List ℕ) → eqb (length ws % 3) 0 ≡ false → batch_of ws ≡ none
unfolding batch_of
ragged-words ws e = rw e

-- what a batch that is taken was: transitions on a state that the record and the table held
pub record Accepted (c : Counters) (t ws : List ℕ) (s' : State) : Type 0 where
  pub holding : holds c t ≡ true
  pub transitions : List CounterTransition
  pub words : batch_of ws ≡ some transitions
  pub applied : apply_batch (room_of t) (state_of c t) transitions ≡ taken s'

module _ (c : Counters) (t ws : List ℕ) where
  outcome : Outcome State
  outcome = on_state c t (λ s. or_refuse Broken (batch_of ws) >>= apply_batch (room_of t) s)

  outcome-held : (ts : List CounterTransition) → holds c t ≡ true → batch_of ws ≡ some ts → outcome ≡ apply_batch (room_of t) (state_of c t) ts
  unfolding outcome
  outcome-held ts h e = on_state-held c t (λ s. or_refuse Broken (batch_of ws) >>= apply_batch (room_of t) s) h ∙ rw e

  outcome-ragged : holds c t ≡ true → batch_of ws ≡ none → outcome ≡ refused Broken
  unfolding outcome
  outcome-ragged h e = on_state-held c t (λ s. or_refuse Broken (batch_of ws) >>= apply_batch (room_of t) s) h ∙ rw e

  outcome-broken : holds c t ≡ false → outcome ≡ refused Broken
  unfolding outcome
  outcome-broken h = on_state-broken c t (λ s. or_refuse Broken (batch_of ws) >>= apply_batch (room_of t) s) h

  accepted : (s' : State) → outcome ≡ taken s' → Accepted c t ws s'
  accepted s' e = go (holds c t) refl (batch_of ws) refl
    where
      go : (b : Bool) → holds c t ≡ b → (m : Option (List CounterTransition)) → batch_of ws ≡ m → Accepted c t ws s'
      go true h none w = absurd (refused-taken (sym (outcome-ragged h w) ∙ e))
      go true h (some ts) w = record { holding = h; transitions = ts; words = w; applied = sym (outcome-held ts h w) ∙ e }
      go false h m w = absurd (refused-taken (sym (outcome-broken h) ∙ e))

  fits : (s' : State) → outcome ≡ taken s' → length s'.counts ≤ room_of t
  fits s' e = let a = accepted s' e in taken-fits (room_of t) (state_of c t) a.transitions s' a.applied

  sound : holds c t ≡ true → (s' : State) → outcome ≡ taken s' → (ordered s'.next s'.counts ≡ true) × (length s'.counts ≤ s'.live)
  unfolding state_of
  sound h s' e =
      let a = accepted s' e in
      (taken-ordered (room_of t) (state_of c t) a.transitions s' a.applied (held c t h).sorted, bounded-after (room_of t) (state_of c t) a.transitions s' a.applied)

  -- on a record and a table that hold a state, words that spell a batch do what the batch does
  pub batch-held : (ts : List CounterTransition) → holds c t ≡ true → batch_of ws ≡ some ts → batch_call c t ws ≡ laid_out c.settings c t (apply_batch (room_of t) (state_of c t) ts)
  unfolding batch_call outcome
  batch-held ts h e = ap (laid_out c.settings c t) (outcome-held ts h e)

  -- whatever the answer, they hold a state after it
  pub batch-holds : holds c t ≡ true → holds (batch_call c t ws).result.counters (batch_call c t ws).table ≡ true
  unfolding batch_call outcome
  batch-holds h = laid_out-holds c.settings c t outcome fits h (held c t h).ranged (sound h)

  -- the table keeps its length
  pub batch-length : length (batch_call c t ws).table ≡ length t
  unfolding batch_call outcome
  batch-length = laid_out-length c.settings c t outcome fits

  -- a refusal leaves record and table as they were
  pub batch-refused : (r : Refusal) → (batch_call c t ws).result.answer ≡ Refused r → ((batch_call c t ws).result.counters ≡ c) × ((batch_call c t ws).table ≡ t)
  unfolding batch_call outcome
  batch-refused r e = laid_out-refused c.settings c t outcome r ((answer-refused outcome r).0 (sym (laid_out-answer c.settings c t outcome) ∙ e))

  -- the settings stay, whatever the answer
  pub batch-settings : (batch_call c t ws).result.counters.settings ≡ c.settings
  unfolding batch_call outcome
  batch-settings = laid_out-settings c.settings c t outcome refl

  -- a batch that is taken leaves the state that the operation gives
  pub batch-accepted : (batch_call c t ws).result.answer ≡ Taken
      → (s' : State) × Accepted c t ws s' × (state_of (batch_call c t ws).result.counters (batch_call c t ws).table ≡ s')
  unfolding batch_call outcome
  batch-accepted e = go outcome refl (sym (laid_out-answer c.settings c t outcome) ∙ e)
    where
      go : (o : Outcome State) → outcome ≡ o → answer_of o ≡ Taken
          → (s' : State) × Accepted c t ws s' × (state_of (laid_out c.settings c t outcome).result.counters (laid_out c.settings c t outcome).table ≡ s')
      go (refused r) f a = absurd (not-refused (sym a))
      go (taken s') f a = (s', accepted s' f, laid_out-state c.settings c t outcome fits s' f)

  -- so 20 never follows a batch that is taken
  pub batch-taken-holds : (batch_call c t ws).result.answer ≡ Taken → holds (batch_call c t ws).result.counters (batch_call c t ws).table ≡ true
  batch-taken-holds e = batch-holds (batch-accepted e).1.holding

  -- the other numbers are the operation's
  pub batch-answer : (ts : List CounterTransition) → holds c t ≡ true → batch_of ws ≡ some ts → (r : Refusal)
      → ((batch_call c t ws).result.answer ≡ Refused r) ↔ (apply_batch (room_of t) (state_of c t) ts ≡ refused r)
  batch-answer ts h e r = rw (batch-held ts h e, laid_out-answer c.settings c t (apply_batch (room_of t) (state_of c t) ts)) (answer-refused (apply_batch (room_of t) (state_of c t) ts) r)

  -- 20, broken: exactly where the record and the table hold no state, or the words are ragged
  pub batch-broken : ((batch_call c t ws).result.answer ≡ Refused Broken) ↔ ((holds c t ≡ false) ⊎ (¬ (length ws % 3 ≡ 0)))
  unfolding batch_call outcome any
  batch-broken = go (holds c t) refl (eqb (length ws % 3) 0) refl
    where
      said : ((laid_out c.settings c t outcome).result.answer ≡ Refused Broken) ↔ (outcome ≡ refused Broken)
      said = (λ e. (answer-refused outcome Broken).0 (sym (laid_out-answer c.settings c t outcome) ∙ e), λ e. laid_out-answer c.settings c t outcome ∙ ap answer_of e)

      go : (b : Bool) → holds c t ≡ b → (d : Bool) → eqb (length ws % 3) 0 ≡ d
          → ((laid_out c.settings c t outcome).result.answer ≡ Refused Broken) ↔ ((b ≡ false) ⊎ (¬ (length ws % 3 ≡ 0)))
      go true h true w =
          let ts = rows_of transition_row (length ws / 3) ws in (
            (λ e. absurd (false≢true (batch-numbers (room_of t) (state_of c t) ts Broken (sym (outcome-held ts h (whole_words ws w)) ∙ said.0 e)))),
            λ s. elim s [ inl f ↦ absurd (true≢false f) | inr n ↦ absurd (n (eqb-true (length ws % 3) 0 w)) ],
          )
      go true h false w = ((λ e. inr (eqb-false (length ws % 3) 0 w)), λ s. said.1 (outcome-ragged h (ragged-words ws w)))
      go false h d w = ((λ e. inl refl), λ s. said.1 (outcome-broken h))

  -- 20, 2, 3, 5, 4, 6 or 25, and no other
  pub batch-call-numbers : (q : Refusal) → (batch_call c t ws).result.answer ≡ Refused q → elem (number_of q) (20 ∷ 2 ∷ 3 ∷ 5 ∷ 4 ∷ 6 ∷ 25 ∷ []) ≡ true
  unfolding batch_call outcome any
  batch-call-numbers q e = go (holds c t) refl (batch_of ws) refl
    where
      given : outcome ≡ refused q
      given = (answer-refused outcome q).0 (sym (laid_out-answer c.settings c t outcome) ∙ e)

      broken : outcome ≡ refused Broken → elem (number_of q) (20 ∷ 2 ∷ 3 ∷ 5 ∷ 4 ∷ 6 ∷ 25 ∷ []) ≡ true
      broken f = let same : q ≡ Broken = let g = sym f ∙ given in cc in rw same

      go : (b : Bool) → holds c t ≡ b → (m : Option (List CounterTransition)) → batch_of ws ≡ m → elem (number_of q) (20 ∷ 2 ∷ 3 ∷ 5 ∷ 4 ∷ 6 ∷ 25 ∷ []) ≡ true
      go true h none w = broken (outcome-ragged h w)
      go true h (some ts) w = rw (batch-numbers (room_of t) (state_of c t) ts q (sym (outcome-held ts h w) ∙ given)) (or-true (eqb (number_of q) 20))
      go false h m w = broken (outcome-broken h)

-- ---- shrinking
module _ (c : Counters) (t : List ℕ) (saved : ℕ) where
  -- on a record and a table that hold a state the decisions are that state's
  pub shrink-held : holds c t ≡ true → shrink_call c t saved ≡ decided saved c (taken (state_of c t))
  unfolding shrink_call
  shrink-held h = ap (decided saved c) (on_state-held c t taken h)

  -- whatever the answer, they hold a state after it
  pub shrink-holds : holds c t ≡ true → holds (shrink_call c t saved).counters t ≡ true
  unfolding decided holds with_maintenance
  shrink-holds h = ap (λ (r : ShrunkAnswer). holds r.counters t) (shrink-held h) ∙ h

  -- only maintenance changes
  pub shrink-state : holds c t ≡ true
      → state_of (shrink_call c t saved).counters t
      ≡ record { next = (state_of c t).next; live = (state_of c t).live; counts = (state_of c t).counts; maintenance = shrunk c.settings saved (decide (state_of c t)) (state_of c t).maintenance }
  unfolding decided state_of with_maintenance
  shrink-state h = ap (λ (r : ShrunkAnswer). state_of r.counters t) (shrink-held h)

  -- the settings stay, whatever the answer
  pub shrink-settings : (shrink_call c t saved).counters.settings ≡ c.settings
  unfolding shrink_call decided with_maintenance
  shrink-settings = go (on_state c t taken)
    where
      go : (o : Outcome State) → (decided saved c o).counters.settings ≡ c.settings
      go (refused q) = refl
      go (taken s) = refl

  -- 20, broken: exactly where they hold none
  pub shrink-broken : ((shrink_call c t saved).answer ≡ Refused Broken) ↔ (holds c t ≡ false)
  unfolding shrink_call decided
  shrink-broken = go (on_state c t taken) (broken-exactly c t taken (λ s e. taken_refused e))
    where
      go : (o : Outcome State) → (answer_of o ≡ Refused Broken) ↔ (holds c t ≡ false) → ((decided saved c o).answer ≡ Refused Broken) ↔ (holds c t ≡ false)
      go (refused r) h = h
      go (taken s) h = h

  -- and no other
  pub shrink-numbers : (q : Refusal) → (shrink_call c t saved).answer ≡ Refused q → elem (number_of q) (20 ∷ []) ≡ true
  unfolding shrink_call decided
  shrink-numbers q = go (on_state c t taken) (on_state-numbers c t taken [] (refuses-none [] (state_of c t)) q)
    where
      go : (o : Outcome State) → (o ≡ refused q → elem (number_of q) (20 ∷ []) ≡ true) → (decided saved c o).answer ≡ Refused q → elem (number_of q) (20 ∷ []) ≡ true
      go (refused r) h e = h (ap refused (cc))
      go (taken s) h e = absurd (not-refused e)

  -- so 20 never follows a shrinking that is taken
  pub shrink-taken-holds : (shrink_call c t saved).answer ≡ Taken → holds (shrink_call c t saved).counters t ≡ true
  shrink-taken-holds e = go (holds c t) refl
    where
      go : (b : Bool) → holds c t ≡ b → holds (shrink_call c t saved).counters t ≡ true
      go true h = shrink-holds h
      go false h = absurd (not-refused (sym e ∙ shrink-broken.1 h))

  -- a refusal leaves the record as it was
  pub shrink-refused : (r : Refusal) → (shrink_call c t saved).answer ≡ Refused r → (shrink_call c t saved).counters ≡ c
  unfolding shrink_call decided
  shrink-refused r e = go (on_state c t taken) e
    where
      go : (o : Outcome State) → (decided saved c o).answer ≡ Refused r → (decided saved c o).counters ≡ c
      go (refused q) e = refl
      go (taken s) e = absurd (not-refused e)
