-- The promises of include/selvaigo.h for the calls on the counters and on their snapshots. Beside a refusal values are zeros, and no slice and
-- no record is changed. What the calls leave of a record and a table may be lent to the held forms, if nothing but calls has written them.
-- Making and reading are refused with 23 exactly where a setting is outside its range; what is taken has the settings given, and no other call
-- changes them.
-- Assumes nothing.
use Rattle.std.specs.Prelude.{ℕ, ◌<◌, ◌≡◌, ◌↔◌, ◌⊎◌, Bool, true, false, length, drop}
use Rattle.std.proofs.Math.Path.{refl, ap}
use Rattle.std.proofs.Common.{sym, ◌∙◌}
use mathlib.Core.List.{List, [], ◌∷◌}
use Rattle.base.specs.Logic.{elem, zeros}
use Rattle.base.specs.Answers.{Outcome, refused, taken, ◌>>=◌, or_refuse, answer_of, value_or, answer_number, Answer, Taken, Refused}
use Rattle.base.specs.AnswerLaws.{not-refused}
use Rattle.base.specs.Output.{put, fitting, written}
use Rattle.base.specs.declared.Refusal.{Refusal}
use Rattle.base.specs.declared.Refusal.TheVariants.{Broken}
use Rattle.counters.specs.declared.ShrinkSettings.{ShrinkSettings}
use Rattle.counters.specs.declared.Counters.{Counters}
use Rattle.counters.specs.Counts.{State, allocate, get}
use Rattle.counters.specs.Batch.{apply_batch}
use Rattle.counters.specs.Maintenance.{in_range}
use Rattle.counters.specs.Layout.{room_of, holds, batch_of}
use Rattle.counters.specs.Calls.{Changed, on_state, laid, laid_out, laid_in, new_call, allocated, alloc_call, get_call, batch_call, decided, shrink_call}
use Rattle.counters.proofs.CallLaws as calls
use Rattle.counters.proofs.CallLaws.{with-numbers, alloc-holds, batch-holds, shrink-holds}
use Rattle.snapshot.specs.Write.{snapshot_bytes}
use Rattle.snapshot.specs.Read.{read_snapshot}
use Rattle.snapshot.specs.Calls.{serialize_call, deserialize_call, Loading, load_call, length_call}
use Rattle.snapshot_laws.specs.RefusalLaws.{read-numbers}
use Rattle.snapshot_laws.specs.CallLaws as reads
use Rattle.snapshot_laws.specs.LoadLaws as loads
use Rattle.state_words.specs.Words.{settings_of, settings_words, counters_of, counters_words, Said, said, one_word, written_said, words_after, Unchanged, left}
use Rattle.state_words.specs.WordLaws.{counters-words-back}
use Rattle.word_calls.specs.CountersSaid.{changed_said, allocated_said, got_said, shrunk_said, length_found, read_said, loaded_said, new_said, alloc_said, get_said, batch_said, shrink_said, length_said, serialize_said, deserialize_said, load_said}
use Rattle.word_laws.specs.Numbers.{number-not-zero, setting-said, numbers-said}

-- ---- refusals

-- where the record is lent as 16 words, as its type says
module _ (w : List ℕ) (e : length w ≡ 16) where
  pub alloc-unchanged : Unchanged (one_word 0) (w ∷ []) (alloc_said w)
  unfolding alloc_said allocated_said alloc_call allocated
  alloc-unchanged = go (allocate (counters_of w).next_idx.0)
    where
      go : (o : Outcome ℕ) → Unchanged (one_word 0) (w ∷ []) (allocated_said (allocated (counters_of w) o))
      go (refused r) n = (refl, rw (counters-words-back w e))
      go (taken k) n = absurd (n refl)

  module _ (t : List ℕ) where
    pub batch-unchanged : (b : List ℕ) → Unchanged [] (w ∷ t ∷ []) (batch_said w t b)
    unfolding batch_said changed_said batch_call laid_out laid
    batch-unchanged b = go (on_state (counters_of w) t (λ s. or_refuse Broken (batch_of b) >>= apply_batch (room_of t) s))
      where
        go : (o : Outcome State) → Unchanged [] (w ∷ t ∷ []) (changed_said (laid_out (counters_of w).settings (counters_of w) t o))
        go (refused r) n = (refl, rw (counters-words-back w e))
        go (taken s) n = absurd (n refl)

    pub shrink-unchanged : (saved : ℕ) → Unchanged (zeros 9 ∷ []) (w ∷ []) (shrink_said w t saved)
    unfolding shrink_said shrunk_said shrink_call decided
    shrink-unchanged saved = go (on_state (counters_of w) t taken)
      where
        go : (o : Outcome State) → Unchanged (zeros 9 ∷ []) (w ∷ []) (shrunk_said (decided saved (counters_of w) o))
        go (refused r) n = (refl, rw (counters-words-back w e))
        go (taken s) n = absurd (n refl)

module _ (w t : List ℕ) where
  pub get-unchanged : (i : ℕ) → Unchanged (one_word 0) [] (get_said w t i)
  unfolding get_said got_said get_call
  get-unchanged i = go (on_state (counters_of w) t (λ s. get s i))
    where
      go : (o : Outcome ℕ) → Unchanged (one_word 0) [] (got_said (record { answer = answer_of o; count = record { 0 = value_or 0 o } }))
      go (refused r) n = (refl, refl)
      go (taken k) n = absurd (n refl)

  pub length-unchanged : Unchanged (one_word 0) [] (length_said w t)
  unfolding length_said length_found length_call
  length-unchanged = go (on_state (counters_of w) t (λ s. taken (length (snapshot_bytes s))))
    where
      go : (o : Outcome ℕ) → Unchanged (one_word 0) [] (length_found (record { answer = answer_of o; len = value_or 0 o }))
      go (refused r) n = (refl, refl)
      go (taken k) n = absurd (n refl)

  pub serialize-unchanged : (out : List ℕ) → Unchanged (one_word 0) (out ∷ []) (serialize_said w t out)
  unfolding serialize_said written_said serialize_call written put
  serialize-unchanged out = go (fitting (length out) (on_state (counters_of w) t (λ s. taken (snapshot_bytes s))))
    where
      go : (o : Outcome (List ℕ)) → Unchanged (one_word 0) (out ∷ []) (written_said (put out o))
      go (refused r) n = (refl, refl)
      go (taken bs) n = absurd (n refl)

-- ---- what is left may be lent to the held forms

-- what the held forms require
abbrev pub Held : List ℕ → List ℕ → Type 0
Held w t = holds (counters_of w) t ≡ true

-- a record's words hold what it holds
words-held : (c : Counters) (t : List ℕ) → holds c t ≡ true → Held (counters_words c) t
unfolding holds
words-held c t h = h

module _ (w t : List ℕ) where
  -- whatever the answer
  module _ (h : Held w t) where
    pub alloc-held : Held (left 0 (alloc_said w)) t
    unfolding alloc_said allocated_said
    alloc-held = words-held (alloc_call (counters_of w)).counters t (alloc-holds (counters_of w) t h)

    pub batch-held : (b : List ℕ) → Held (left 0 (batch_said w t b)) (left 1 (batch_said w t b))
    unfolding batch_said changed_said
    batch-held b =
        let x = batch_call (counters_of w) t b in
        words-held x.result.counters x.table (batch-holds (counters_of w) t b h)

    pub shrink-held : (saved : ℕ) → Held (left 0 (shrink_said w t saved)) t
    unfolding shrink_said shrunk_said
    shrink-held saved = words-held (shrink_call (counters_of w) t saved).counters t (shrink-holds (counters_of w) t saved h)

-- ---- counters that are made, read or loaded, over the words w and the table t of any content

-- the words of settings
abbrev pub settings_in : List ℕ → List ℕ
settings_in w = drop 13 w

module _ (w : List ℕ) (c : Counters) where
  -- what is taken holds a state, and has the settings that were given
  read_held : (a : Answer) (u : List ℕ) → (a ≡ Taken → holds c u ≡ true) → answer_number a ≡ 0 → Held (words_after w a (counters_words c)) u
  read_held Taken u h n = words-held c u (h refl)
  read_held (Refused r) u h n = absurd (number-not-zero r n)

  read-settings : (g : ShrinkSettings) (a : Answer) → (a ≡ Taken → c.settings ≡ g) → answer_number a ≡ 0 → settings_in (words_after w a (counters_words c)) ≡ settings_words g
  read-settings g Taken h n = ap settings_words (h refl)
  read-settings g (Refused r) h n = absurd (number-not-zero r n)

-- beside a refusal that leaves the table, all is as it was
read-unchanged : (w t : List ℕ) (x : Changed) → ((r : Refusal) → x.result.answer ≡ Refused r → x.table ≡ t) → Unchanged [] (w ∷ t ∷ []) (read_said w x)
unfolding read_said
read-unchanged w t x h = go x.result.answer h
  where
    go : (a : Answer) → ((r : Refusal) → a ≡ Refused r → x.table ≡ t)
        → Unchanged [] (w ∷ t ∷ []) (said (answer_number a) [] (words_after w a (counters_words x.result.counters) ∷ x.table ∷ []))
    go Taken k n = absurd (n refl)
    go (Refused r) k n = (refl, rw (k r refl))

module _ (base max save : ℕ) (w t : List ℕ) where
  abbrev given : ShrinkSettings
  given = settings_of base max save

  -- ---- made
  module _ (next : ℕ) where
    abbrev made : Said
    made = new_said base max save next w t

    abbrev making : Changed
    making = new_call given (record { 0 = next }) t

    -- 23 exactly where a setting is outside its range, and no other refusal
    pub new-setting : (made.answer ≡ 23) ↔ ((base ≡ 0) ⊎ (max < base))
    unfolding new_said read_said
    new-setting = setting-said making.result.answer (calls.new-setting given (record { 0 = next }) t)

    pub new-numbers : elem made.answer (0 ∷ 23 ∷ []) ≡ true
    unfolding new_said read_said
    new-numbers = numbers-said (23 ∷ []) making.result.answer (calls.new-numbers given (record { 0 = next }) t)

    -- beside it nothing is changed
    pub new-unchanged : Unchanged [] (w ∷ t ∷ []) made
    unfolding new_said laid_in laid_out
    new-unchanged = read-unchanged w t making (λ r e. ap (λ (x : Changed). x.table) (calls.new-refused given (record { 0 = next }) t r e))

    -- what is taken was in range
    new-ranged : making.result.answer ≡ Taken → in_range given ≡ true
    new-ranged e = go (in_range given) refl
      where
        go : (b : Bool) → in_range given ≡ b → b ≡ true
        go true h = refl
        go false h = absurd (not-refused (sym e ∙ sym (ap (λ (x : Changed). x.result.answer) (calls.new-bad given (record { 0 = next }) t h))))

    pub new-held : made.answer ≡ 0 → Held (left 0 made) (left 1 made)
    unfolding new_said read_said
    new-held =
        read_held w making.result.counters making.result.answer making.table
        (λ e. calls.new-holds given (record { 0 = next }) t (new-ranged e))

    pub new-settings : made.answer ≡ 0 → settings_in (left 0 made) ≡ base ∷ max ∷ save ∷ []
    unfolding new_said read_said
    new-settings =
        read-settings w making.result.counters given making.result.answer
        (λ e. calls.new-settings given (record { 0 = next }) t (new-ranged e))

  -- ---- read
  module _ (bs : List ℕ) where
    abbrev read : Said
    read = deserialize_said base max save bs w t

    abbrev reading : Changed
    reading = deserialize_call given bs t

    -- 23 exactly where a setting is outside its range, whatever the bytes are
    pub deserialize-setting : (read.answer ≡ 23) ↔ ((base ≡ 0) ⊎ (max < base))
    unfolding deserialize_said read_said
    deserialize-setting = setting-said reading.result.answer (reads.deserialize-setting given bs t)

    -- a snapshot is refused with one of these: reading it in never gives 20
    pub deserialize-numbers : elem read.answer (0 ∷ 23 ∷ 8 ∷ 7 ∷ 9 ∷ 10 ∷ 11 ∷ 6 ∷ 25 ∷ []) ≡ true
    unfolding deserialize_said read_said
    deserialize-numbers =
        numbers-said (23 ∷ 8 ∷ 7 ∷ 9 ∷ 10 ∷ 11 ∷ 6 ∷ 25 ∷ []) reading.result.answer (λ q e.
        with-numbers given (read_snapshot base (room_of t) bs) (8 ∷ 7 ∷ 9 ∷ 10 ∷ 11 ∷ 6 ∷ 25 ∷ []) (read-numbers base (room_of t) bs) q ((reads.deserialize-given given bs t q).0 e))

    pub deserialize-unchanged : Unchanged [] (w ∷ t ∷ []) read
    unfolding deserialize_said
    deserialize-unchanged = read-unchanged w t reading (λ r e. (reads.deserialize-refused given bs t r e).1)

    pub deserialize-held : read.answer ≡ 0 → Held (left 0 read) (left 1 read)
    unfolding deserialize_said read_said
    deserialize-held = read_held w reading.result.counters reading.result.answer reading.table (reads.deserialize-taken-holds given bs t)

    pub deserialize-settings : read.answer ≡ 0 → settings_in (left 0 read) ≡ base ∷ max ∷ save ∷ []
    unfolding deserialize_said read_said
    deserialize-settings = read-settings w reading.result.counters given reading.result.answer (reads.deserialize-settings given bs t)

    -- ---- the same of loading: beside a refusal the total is 0
    abbrev loaded : Said
    loaded = load_said base max save bs w t

    abbrev loading : Loading
    loading = load_call given bs t

    pub load-setting : (loaded.answer ≡ 23) ↔ ((base ≡ 0) ⊎ (max < base))
    unfolding load_said loaded_said
    load-setting = setting-said loading.result.answer (loads.load-setting given bs t)

    -- never 25
    pub load-numbers : elem loaded.answer (0 ∷ 23 ∷ 8 ∷ 7 ∷ 9 ∷ 10 ∷ 11 ∷ 6 ∷ []) ≡ true
    unfolding load_said loaded_said
    load-numbers = numbers-said (23 ∷ 8 ∷ 7 ∷ 9 ∷ 10 ∷ 11 ∷ 6 ∷ []) loading.result.answer (loads.load-numbers given bs t)

    pub load-unchanged : Unchanged (one_word 0) (w ∷ t ∷ []) loaded
    unfolding load_said loaded_said
    load-unchanged n = go loading.result.answer refl
      where
        go : (a : Answer) → loading.result.answer ≡ a → (loaded.values ≡ one_word 0) × (loaded.lent ≡ w ∷ t ∷ [])
        go (Refused r) e = rw (loads.load-refused given bs t r e) (refl, refl)
        go Taken e = absurd (n (ap answer_number e))

    pub load-held : loaded.answer ≡ 0 → Held (left 0 loaded) (left 1 loaded)
    unfolding load_said loaded_said
    load-held = read_held w loading.result.counters loading.result.answer loading.table (loads.load-holds given bs t)

    pub load-settings : loaded.answer ≡ 0 → settings_in (left 0 loaded) ≡ base ∷ max ∷ save ∷ []
    unfolding load_said loaded_said
    load-settings = read-settings w loading.result.counters given loading.result.answer (loads.load-settings given bs t)

-- ---- no other call changes the settings, whatever it answers
module _ (w : List ℕ) (e : length w ≡ 16) where
  settings-kept : (c : Counters) → c.settings ≡ (counters_of w).settings → settings_in (counters_words c) ≡ settings_in w
  settings-kept c h = ap settings_words h ∙ ap settings_in (counters-words-back w e)

  pub alloc-settings : settings_in (left 0 (alloc_said w)) ≡ settings_in w
  unfolding alloc_said allocated_said
  alloc-settings = settings-kept (alloc_call (counters_of w)).counters (calls.alloc-settings (counters_of w))

  module _ (t : List ℕ) where
    pub batch-settings : (b : List ℕ) → settings_in (left 0 (batch_said w t b)) ≡ settings_in w
    unfolding batch_said changed_said
    batch-settings b = settings-kept (batch_call (counters_of w) t b).result.counters (calls.batch-settings (counters_of w) t b)

    pub shrink-settings : (saved : ℕ) → settings_in (left 0 (shrink_said w t saved)) ≡ settings_in w
    unfolding shrink_said shrunk_said
    shrink-settings saved = settings-kept (shrink_call (counters_of w) t saved).counters (calls.shrink-settings (counters_of w) t saved)
