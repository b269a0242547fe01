-- The promises of include/selvaigo.h for the nursery's calls. Beside a refusal values are zeros, and no slice and no record is changed. What the
-- calls leave of a record and its tables may be lent to the held forms, if nothing but calls has written them. Making is refused with 23 exactly
-- where the delay is outside its range; what is taken has the delay given, and no other call changes it.
-- Assumes nothing.
use Rattle.std.specs.Prelude.{ℕ, ◌<◌, ◌≡◌, ◌↔◌, ◌⊎◌, Bool, true, false, not, ◌&&◌, length, get_or}
use Rattle.std.proofs.Math.Path.{refl, ap}
use Rattle.std.proofs.Common.{sym, ◌∙◌}
use Rattle.std.proofs.Math.Option.{Option, none, some}
use mathlib.Core.List.{List, [], ◌∷◌}
use Rattle.base.specs.Bytes.{unbe}
use Rattle.base.specs.Logic.{elem}
use Rattle.base.specs.Answers.{Outcome, refused, taken, ◌>>=◌, ◌>>◌, refuse_if, or_refuse, answer_number, Answer, Taken, Refused}
use Rattle.base.specs.AnswerLaws.{not-refused}
use Rattle.base.specs.Output.{fitting, put, written}
use Rattle.base.specs.declared.Refusal.TheVariants.{Broken}
use Rattle.cell_nursery.specs.declared.Nursery.{Nursery}
use Rattle.cell_nursery.specs.Entries.{State}
use Rattle.cell_nursery.specs.Items.{delta_of}
use Rattle.cell_nursery.specs.Delta.{apply_delta}
use Rattle.cell_nursery.specs.Drain.{drained, drain_bytes, lookup, listing_bytes}
use Rattle.cell_nursery.specs.Layout.{room_of, record_of, state_of, entries_of, delay_in_range, holds, holds_entries, holds_cells}
use Rattle.cell_nursery.specs.Held.{U64}
use Rattle.cell_nursery.proofs.SettingLaws as settings
use Rattle.cell_nursery.proofs.SettingLaws.{new-taken, new-bad, new-setting, new-numbers, new-refused, delta-delay}
use Rattle.cell_nursery.specs.Calls.{Changed, length_width, on_state, laid, laid_out, new_call, delta_call, drained_out, drain_call, found_of, lookup_call, cell_at, data_of, data_call, listing_call}
use Rattle.state_words.specs.Words.{nursery_of, nursery_words, Said, one_word, written_said, words_after, Unchanged, left}
use Rattle.state_words.specs.WordLaws.{nursery-words-back}
use Rattle.base.specs.SpellLaws.{Bytes}
use Rattle.journal_laws.specs.HoldLaws.{new-holds, delta-holds, drain-holds}
use Rattle.word_calls.specs.NurserySaid.{flag, committed_said, made_said, empty_said, commit_said, drained_said, drain_said, found_said, idx_said, placed_said, data_said, listing_said}
use Rattle.word_laws.specs.Numbers.{number-not-zero, setting-said, numbers-said}

-- ---- refusals
-- where the record is lent as 4 words, as its type says
module _ (w es ws cs : List ℕ) (e : length w ≡ 4) where
  pub commit-unchanged : (wide inserts removes : ℕ) (items : List ℕ) → Unchanged [] (w ∷ es ∷ ws ∷ cs ∷ []) (commit_said w es ws cs wide inserts removes items)
  unfolding commit_said committed_said delta_call laid_out laid
  commit-unchanged wide inserts removes items =
      go (on_state (nursery_of w) es ws cs (λ s. or_refuse Broken (delta_of (length_width (flag wide)) inserts removes items) >>= apply_delta (room_of es ws cs) s))
    where
      go : (o : Outcome State) → Unchanged [] (w ∷ es ∷ ws ∷ cs ∷ []) (committed_said (laid_out (nursery_of w).delay (nursery_of w) es ws cs o))
      go (refused q) n = (refl, rw (nursery-words-back w e))
      go (taken s) n = absurd (n refl)

  pub drain-unchanged : (round : ℕ) (out : List ℕ) → Unchanged (one_word 0) (w ∷ ws ∷ out ∷ []) (drain_said w es ws cs round out)
  unfolding drain_said drain_call drained_said drained_out
  drain-unchanged round out =
      go (fitting (length out) (on_state (nursery_of w) es ws cs (λ s. taken (drain_bytes (nursery_of w).delay round s))))
    where
      go : (o : Outcome (List ℕ)) → Unchanged (one_word 0) (w ∷ ws ∷ out ∷ []) (drained_said (drained_out (nursery_of w) ws out o (drained (nursery_of w).delay round (state_of (nursery_of w) es ws cs))))
      go (refused q) n = (refl, rw (nursery-words-back w e))
      go (taken bs) n = absurd (n refl)

module _ (w es cs : List ℕ) where
  pub idx-unchanged : (hash : List ℕ) → Unchanged ((0 ∷ 0 ∷ []) ∷ []) [] (idx_said w es hash)
  unfolding idx_said lookup_call found_said found_of
  idx-unchanged hash =
      go (refuse_if (not (holds_entries (nursery_of w) es)) Broken >> taken (lookup (unbe hash) (entries_of (nursery_of w).entries es [])))
    where
      go : (o : Outcome (Option ℕ)) → Unchanged ((0 ∷ 0 ∷ []) ∷ []) [] (found_said (found_of o))
      go (refused q) n = (refl, refl)
      go (taken none) n = absurd (n refl)
      go (taken (some i)) n = absurd (n refl)

  pub data-unchanged : (hash : List ℕ) → Unchanged ((0 ∷ 0 ∷ 0 ∷ []) ∷ []) [] (data_said w es cs hash)
  unfolding data_said data_call placed_said data_of
  data-unchanged hash =
      go (refuse_if (not (holds_entries (nursery_of w) es && holds_cells (nursery_of w) cs)) Broken >> taken (cell_at (unbe hash) 0 (entries_of (nursery_of w).entries es cs)))
    where
      go : (o : Outcome (Option (ℕ × ℕ))) → Unchanged ((0 ∷ 0 ∷ 0 ∷ []) ∷ []) [] (placed_said (data_of o))
      go (refused q) n = (refl, refl)
      go (taken none) n = absurd (n refl)
      go (taken (some (p, k))) n = absurd (n refl)

  pub listing-unchanged : (out : List ℕ) → Unchanged (one_word 0) (out ∷ []) (listing_said w es cs out)
  unfolding listing_said listing_call written written_said put
  listing-unchanged out =
      go (fitting (length out) (refuse_if (not (holds_entries (nursery_of w) es && holds_cells (nursery_of w) cs)) Broken >> taken (listing_bytes (entries_of (nursery_of w).entries es cs))))
    where
      go : (o : Outcome (List ℕ)) → Unchanged (one_word 0) (out ∷ []) (written_said (put out o))
      go (refused q) n = (refl, refl)
      go (taken bs) n = absurd (n refl)

-- ---- what is left may be lent to the held forms

-- what the held forms that are lent all tables require; the others require a part of it
abbrev pub Held : List ℕ → List ℕ → List ℕ → List ℕ → Type 0
Held w es ws cs = holds (nursery_of w) es ws cs ≡ true

-- a record's words hold what it holds
pub words-held : (r : Nursery) (es ws cs : List ℕ) → holds r es ws cs ≡ true → Held (nursery_words r) es ws cs
unfolding holds
words-held r es ws cs h = h

-- whatever the answer, where the slices' items are words and bytes
module _ (w es ws cs : List ℕ) (u : U64 es) (v : U64 ws) (h : Held w es ws cs) where
  pub commit-held : (wide inserts removes : ℕ) (items : List ℕ) → Bytes items
      → let s = commit_said w es ws cs wide inserts removes items in Held (left 0 s) (left 1 s) (left 2 s) (left 3 s)
  unfolding commit_said committed_said delta_call laid_out laid
  commit-held wide inserts removes items b =
      let x = delta_call (nursery_of w) es ws cs (flag wide) inserts removes items in
      words-held x.result.nursery x.entries x.waiting x.cells (go outcome refl)
    where
      outcome : Outcome State
      outcome = on_state (nursery_of w) es ws cs (λ s. or_refuse Broken (delta_of (length_width (flag wide)) inserts removes items) >>= apply_delta (room_of es ws cs) s)

      go : (o : Outcome State) → outcome ≡ o → let x = laid_out (nursery_of w).delay (nursery_of w) es ws cs o in holds x.result.nursery x.entries x.waiting x.cells ≡ true
      go (refused q) e = h
      go (taken t) e = rw e at (delta-holds (nursery_of w) es ws cs u v h (flag wide) inserts removes items b (rw e))

  pub drain-held : (round : ℕ) (out : List ℕ) → let s = drain_said w es ws cs round out in Held (left 0 s) es (left 1 s) cs
  unfolding drain_said drained_said drain_call drained_out
  drain-held round out =
      let x = drain_call (nursery_of w) es ws cs round out in
      words-held x.result.nursery es x.waiting cs (go outcome refl)
    where
      outcome : Outcome (List ℕ)
      outcome = fitting (length out) (on_state (nursery_of w) es ws cs (λ s. taken (drain_bytes (nursery_of w).delay round s)))

      go : (o : Outcome (List ℕ)) → outcome ≡ o
          → let x = drained_out (nursery_of w) ws out o (drained (nursery_of w).delay round (state_of (nursery_of w) es ws cs)) in holds x.result.nursery es x.waiting cs ≡ true
      go (refused q) e = h
      go (taken bs) e = rw e at (drain-holds (nursery_of w) es ws cs u v h round out (rw e))

-- ---- a nursery that is made, over the words w and tables of any content
-- the word of the delay
abbrev pub delay_in : List ℕ → ℕ
delay_in w = get_or w 3 0

-- what is made or read and taken holds a state, and has the delay that was given
module _ (w : List ℕ) (r : Nursery) where
  pub read_held : (es ws cs : List ℕ) (a : Answer) → (a ≡ Taken → holds r es ws cs ≡ true) → answer_number a ≡ 0 → Held (words_after w a (nursery_words r)) es ws cs
  read_held es ws cs Taken h n = words-held r es ws cs (h refl)
  read_held es ws cs (Refused q) h n = absurd (number-not-zero q n)

  pub read-delay : (delay : ℕ) (a : Answer) → (a ≡ Taken → r.delay ≡ delay) → answer_number a ≡ 0 → delay_in (words_after w a (nursery_words r)) ≡ delay
  read-delay delay Taken h n = h refl
  read-delay delay (Refused q) h n = absurd (number-not-zero q n)

module _ (delay : ℕ) (w es ws cs : List ℕ) where
  abbrev made : Said
  made = empty_said delay w es ws cs

  abbrev making : Changed
  making = new_call delay es ws cs

  -- 23 exactly where the delay is outside its range, and no other refusal
  pub empty-setting : (made.answer ≡ 23) ↔ ((delay ≡ 0) ⊎ (10000 < delay))
  unfolding empty_said made_said
  empty-setting = setting-said making.result.answer (new-setting delay es ws cs)

  pub empty-numbers : elem made.answer (0 ∷ 23 ∷ []) ≡ true
  unfolding empty_said made_said
  empty-numbers = numbers-said (23 ∷ []) making.result.answer (new-numbers delay es ws cs)

  -- beside it nothing is changed
  pub empty-unchanged : Unchanged [] (w ∷ es ∷ ws ∷ cs ∷ []) made
  unfolding empty_said made_said
  empty-unchanged n = go making.result.answer refl
    where
      go : (a : Answer) → making.result.answer ≡ a → (made.values ≡ []) × (made.lent ≡ w ∷ es ∷ ws ∷ cs ∷ [])
      go (Refused q) e = rw (new-refused delay es ws cs q e) (refl, refl)
      go Taken e = absurd (n (ap answer_number e))

  -- what is taken was in range
  empty-ranged : making.result.answer ≡ Taken → delay_in_range delay ≡ true
  empty-ranged e = go (delay_in_range delay) refl
    where
      go : (b : Bool) → delay_in_range delay ≡ b → b ≡ true
      go true h = refl
      go false h = absurd (not-refused (sym e ∙ ap (λ (x : Changed). x.result.answer) (new-bad delay es ws cs h)))

  pub empty-held : made.answer ≡ 0 → Held (left 0 made) (left 1 made) (left 2 made) (left 3 made)
  unfolding empty_said made_said
  empty-held =
      read_held w making.result.nursery making.entries making.waiting making.cells making.result.answer
      (λ e. new-holds delay (empty-ranged e) es ws cs)

  pub empty-delay : made.answer ≡ 0 → delay_in (left 0 made) ≡ delay
  unfolding empty_said made_said laid record_of
  empty-delay =
      read-delay w making.result.nursery delay making.result.answer
      (λ e. ap (λ (x : Changed). x.result.nursery.delay) (new-taken delay es ws cs (empty-ranged e)))

-- ---- no other call changes the delay, whatever it answers
module _ (w es ws cs : List ℕ) where
  pub commit-delay : (wide inserts removes : ℕ) (items : List ℕ) → delay_in (left 0 (commit_said w es ws cs wide inserts removes items)) ≡ delay_in w
  unfolding commit_said committed_said
  commit-delay wide inserts removes items = delta-delay (nursery_of w) es ws cs (flag wide) inserts removes items

  pub drain-delay : (round : ℕ) (out : List ℕ) → delay_in (left 0 (drain_said w es ws cs round out)) ≡ delay_in w
  unfolding drain_said drained_said
  drain-delay round out = settings.drain-delay (nursery_of w) es ws cs round out
