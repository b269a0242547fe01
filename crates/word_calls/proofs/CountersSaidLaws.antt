-- What a call on the counters and on their snapshots gives over words, from what the call under it gives.
-- Assumes nothing.
use Rattle.std.specs.Prelude.{ℕ, ◌≡◌, List, [], ◌∷◌}
use Rattle.std.proofs.Math.Path.{ap}
use Rattle.std.proofs.Common.{◌∙◌}
use Rattle.base.specs.Answers.{answer_number}
use Rattle.base.specs.Output.{Wrote}
use Rattle.counters.specs.declared.Counters.{Counters}
use Rattle.counters.specs.Returned.{Allocated, Applied, Got, ShrunkAnswer}
use Rattle.counters.specs.Calls.{Changed, effect, alloc_call, get_call, batch_call, shrink_call}
use Rattle.base.specs.Output as output
use Rattle.snapshot.specs.Returned.{LoadedAnswer}
use Rattle.snapshot.specs.Calls.{serialize_call, Loading, load_effect, length_call}
use Rattle.state_words.specs.Words.{counters_of, counters_words, said, one_word, decisions, written_said, words_after}
use Rattle.word_calls.specs.CountersSaid.{changed_said, allocated_said, got_said, shrunk_said, length_found, read_said, loaded_said, alloc_said, get_said, batch_said, shrink_said, length_said, serialize_said}

-- ---- the words w spell the counters c
module _ (w : List ℕ) {c : Counters} (s : c ≡ counters_of w) {r : ℕ} where
  pub alloc-said : {x : Allocated} {v : List ℕ} → x ≡ alloc_call c → r ≡ answer_number x.answer → v ≡ counters_words x.counters
      → said r (one_word x.idx.0) (v ∷ []) ≡ alloc_said w
  unfolding alloc_said allocated_said
  alloc-said g p q = rw (p, q) (ap allocated_said (g ∙ ap alloc_call s))

  pub get-said : (t : List ℕ) (i : ℕ) {x : Got} {n : List ℕ} → x ≡ get_call c t (record { 0 = i }) → (r ≡ answer_number x.answer) × (n ≡ x.count.0 ∷ [])
      → said r (n ∷ []) [] ≡ get_said w t i
  unfolding get_said got_said
  get-said t i g p = rw (p.0, p.1) (ap got_said (g ∙ ap (λ (k : Counters). get_call k t (record { 0 = i })) s))

  pub batch-said : (t b : List ℕ) {x : Applied} {u v : List ℕ} → effect x u ≡ batch_call c t b → (r ≡ answer_number x.answer) × (v ≡ counters_words x.counters)
      → said r [] (v ∷ u ∷ []) ≡ batch_said w t b
  unfolding batch_said changed_said
  batch-said t b g p = rw (p.0, p.1) (ap changed_said (g ∙ ap (λ (k : Counters). batch_call k t b) s))

  pub shrink-said : (t : List ℕ) (saved : ℕ) {x : ShrunkAnswer} {v d : List ℕ} → x ≡ shrink_call c t saved
      → (r ≡ answer_number x.answer) × (d ≡ decisions x.alive x.small) × (v ≡ counters_words x.counters) → said r (d ∷ []) (v ∷ []) ≡ shrink_said w t saved
  unfolding shrink_said shrunk_said
  shrink-said t saved g p = rw (p.0, p.1, p.2) (ap shrunk_said (g ∙ ap (λ (k : Counters). shrink_call k t saved) s))

  pub length-said : (t : List ℕ) {x : Wrote} {n : List ℕ} → x ≡ length_call c t → (r ≡ answer_number x.answer) × (n ≡ x.len ∷ []) → said r (n ∷ []) [] ≡ length_said w t
  unfolding length_said length_found
  length-said t g p = rw (p.0, p.1) (ap length_found (g ∙ ap (λ (k : Counters). length_call k t) s))

  pub serialize-said : (t out : List ℕ) {x : Wrote} {u n : List ℕ} → output.effect x u ≡ serialize_call c t out → (r ≡ answer_number x.answer) × (n ≡ x.len ∷ [])
      → said r (n ∷ []) (u ∷ []) ≡ serialize_said w t out
  unfolding serialize_said written_said
  serialize-said t out g p = rw (p.0, p.1) (ap written_said (g ∙ ap (λ (k : Counters). serialize_call k t out) s))

-- ---- counters that are made or read in: the record's words are w where they are refused
module _ (w : List ℕ) {r : ℕ} {u v : List ℕ} where
  pub read-said : {x : Applied} {y : Changed} → effect x u ≡ y → (r ≡ answer_number x.answer) × (v ≡ words_after w x.answer (counters_words x.counters))
      → said r [] (v ∷ u ∷ []) ≡ read_said w y
  unfolding read_said
  read-said g p = rw (p.0, p.1) (ap (read_said w) g)

  pub loaded-said : {x : LoadedAnswer} {y : Loading} {n : List ℕ} → load_effect x u ≡ y → (r ≡ answer_number x.answer) × (v ≡ words_after w x.answer (counters_words x.counters))
      → n ≡ x.old_total ∷ [] → said r (n ∷ []) (v ∷ u ∷ []) ≡ loaded_said w y
  unfolding loaded_said
  loaded-said g p o = rw (p.0, p.1, o) (ap (loaded_said w) g)
