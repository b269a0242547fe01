-- What a function returns, and the words that it leaves: the answer and the values of the call under it.
-- Assumes nothing.
use Rattle.std.specs.Prelude.{ℕ, ◌≡◌, refl, Bool, true, false, List, [], ◌∷◌, length, Option, Some, None, Result, Ok, Err}
use Rattle.std.proofs.Common.{sym, ◌∙◌}
use Rattle.base.specs.Logic.{pick}
use Rattle.base.specs.Answers.{answered, answer_number}
use Rattle.base.specs.Output.{as_wrote}
use Rattle.base.specs.declared.Refusal.{Refusal}
use Rattle.counters.specs.declared.Counters.{Counters}
use Rattle.counters.specs.declared.Idx.{Idx}
use Rattle.counters.specs.declared.RefCount.{RefCount}
use Rattle.counters.specs.declared.Shrunk.{Shrunk}
use Rattle.counters.specs.Returned.{as_allocated, as_got, as_applied, as_shrunk}
use Rattle.counters.specs.Calls.{no_counters}
use Rattle.cell_nursery.specs.declared.Nursery.{Nursery}
use Rattle.cell_nursery.specs.declared.CellPlace.{CellPlace}
use Rattle.cell_nursery.specs.Returned.{as_committed, as_drained, as_found, as_place}
use Rattle.blake3.specs.Mode.{Mode, mode_of, mode_in, unkeyed, bad_key, hash_by}
use Rattle.format.specs.declared.EncodedRecord.{EncodedRecord}
use Rattle.format.specs.declared.DecodedRecord.{DecodedRecord}
use Rattle.format.specs.Returned.{as_encoded, as_decoded}
use Rattle.format.specs.Calls.{encode_under, decode_under}
use Rattle.journal.specs.declared.JournalScan.{JournalScan}
use Rattle.journal.specs.declared.JournalRead.{JournalRead}
use Rattle.journal.specs.declared.Converted.{Converted}
use Rattle.journal.specs.Returned.{as_scanned, as_read, as_converted}
use Rattle.journal.specs.Journal.{scan_under, read_under}
use Rattle.snapshot.specs.declared.Loaded.{Loaded}
use Rattle.snapshot.specs.Returned.{as_loaded}
use Rattle.word_calls.specs.NurserySaid.{flag}
use Rattle.word_calls.specs.RecordSaid.{mode_said}
use Rattle.state_words.specs.Words.{counters_of, counters_words, nursery_of, nursery_words, words_after, words_left, bit, decisions}
use Rattle.state_words.specs.WordLaws.{counters-words-back, nursery-words-back}

-- ---- modes: the key that there may be, as a flag and a key's bytes say it
in-mode : {A : Type 0} (f : Mode → A) (keyed : ℕ) (key : List ℕ) {o : Option (List ℕ)} → f unkeyed ≡ f (mode_of false key) → o ≡ pick (flag keyed) (Some key) None
    → f (mode_in o) ≡ f (mode_said keyed key)
in-mode f keyed key {o} same = go (flag keyed)
  where
    go : (b : Bool) → o ≡ pick b (Some key) None → f (mode_in o) ≡ f (mode_of b key)
    go true p = rw p
    go false p = rw p same

module _ (keyed : ℕ) (key : List ℕ) {o : Option (List ℕ)} (is : o ≡ pick (flag keyed) (Some key) None) where
  pub encode-mode : (id : ℕ) (wide : Bool) (inserts removes : ℕ) (items out : List ℕ)
      → encode_under (mode_in o) id wide inserts removes items out ≡ encode_under (mode_said keyed key) id wide inserts removes items out
  unfolding encode_under bad_key hash_by
  encode-mode id wide inserts removes items out = in-mode (λ (m : Mode). encode_under m id wide inserts removes items out) keyed key refl is

  pub decode-mode : (bs : List ℕ) → decode_under (mode_in o) bs ≡ decode_under (mode_said keyed key) bs
  unfolding decode_under bad_key hash_by
  decode-mode bs = in-mode (λ (m : Mode). decode_under m bs) keyed key refl is

  pub scan-mode : (bs : List ℕ) → scan_under (mode_in o) bs ≡ scan_under (mode_said keyed key) bs
  unfolding scan_under bad_key hash_by
  scan-mode bs = in-mode (λ (m : Mode). scan_under m bs) keyed key refl is

  pub read-mode : (delay : ℕ) (bs es ws cs : List ℕ) → read_under (mode_in o) delay bs es ws cs ≡ read_under (mode_said keyed key) delay bs es ws cs
  unfolding read_under bad_key hash_by
  read-mode delay bs es ws cs = in-mode (λ (m : Mode). read_under m delay bs es ws cs) keyed key refl is

-- ---- the answer that stands beside other values
pub encoded-answer : (a : Result EncodedRecord Refusal) → answered a ≡ (as_encoded a).answer
encoded-answer (Ok e) = refl
encoded-answer (Err q) = refl

pub decoded-answer : (a : Result DecodedRecord Refusal) → answered a ≡ (as_decoded a).answer
decoded-answer (Ok d) = refl
decoded-answer (Err q) = refl

pub scanned-answer : (a : Result JournalScan Refusal) → answered a ≡ (as_scanned a).answer
scanned-answer (Ok j) = refl
scanned-answer (Err q) = refl

pub converted-answer : (a : Result Converted Refusal) → answered a ≡ (as_converted a).answer
converted-answer (Ok c) = refl
converted-answer (Err q) = refl

pub read-returned : (v : List ℕ) {r : ℕ} {u : List ℕ} (a : Result JournalRead Refusal)
    → (r ≡ answer_number (answered a)) × (u ≡ words_left (λ (j : JournalRead). nursery_words j.nursery) v a)
    → (r ≡ answer_number (as_read a).answer) × (u ≡ words_after v (as_read a).answer (nursery_words (as_read a).nursery))
read-returned v (Ok j) p = p
read-returned v (Err q) p = p

pub loaded-returned : (w : List ℕ) {r : ℕ} {v : List ℕ} (a : Result Loaded Refusal)
    → (r ≡ answer_number (answered a)) × (v ≡ words_left (λ (l : Loaded). counters_words l.counters) w a)
    → (r ≡ answer_number (as_loaded a).answer) × (v ≡ words_after w (as_loaded a).answer (counters_words (as_loaded a).counters))
loaded-returned w (Ok l) p = p
loaded-returned w (Err q) p = p

-- ---- a number, and what is written beside it
pub got-returned : {r : ℕ} {n : List ℕ} (a : Result RefCount Refusal) → (r ≡ answer_number (answered a)) × (n ≡ (as_got a).count.0 ∷ [])
    → (r ≡ answer_number (as_got a).answer) × (n ≡ (as_got a).count.0 ∷ [])
got-returned (Ok n) p = p
got-returned (Err q) p = p

pub found-returned : {r : ℕ} {n : List ℕ} (a : Result (Option Idx) Refusal) → (r ≡ answer_number (answered a)) × (n ≡ bit (as_found a).found ∷ (as_found a).idx.0 ∷ [])
    → (r ≡ answer_number (as_found a).answer) × (n ≡ bit (as_found a).found ∷ (as_found a).idx.0 ∷ [])
found-returned (Ok (Some i)) p = p
found-returned (Ok None) p = p
found-returned (Err q) p = p

pub placed-returned : {r : ℕ} {n : List ℕ} (a : Result (Option CellPlace) Refusal)
    → (r ≡ answer_number (answered a)) × (n ≡ bit (as_place a).found ∷ (as_place a).place ∷ (as_place a).len ∷ [])
    → (r ≡ answer_number (as_place a).answer) × (n ≡ bit (as_place a).found ∷ (as_place a).place ∷ (as_place a).len ∷ [])
placed-returned (Ok (Some x)) p = p
placed-returned (Ok None) p = p
placed-returned (Err q) p = p

pub wrote-returned : {r : ℕ} {n : List ℕ} (a : Result ℕ Refusal) → (r ≡ answer_number (answered a)) × (n ≡ (as_wrote a).len ∷ [])
    → (r ≡ answer_number (as_wrote a).answer) × (n ≡ (as_wrote a).len ∷ [])
wrote-returned (Ok n) p = p
wrote-returned (Err q) p = p

-- ---- counters: the words w spell the record c
same-words : (w : List ℕ) {c : Counters} → length w ≡ 16 → c ≡ counters_of w → w ≡ counters_words c
same-words w long s = rw s (sym (counters-words-back w long))

module _ (w : List ℕ) (long : length w ≡ 16) {c : Counters} (s : c ≡ counters_of w) {r : ℕ} {v : List ℕ} where
  pub allocated-returned : {n : List ℕ} (a : Result (Idx × Counters) Refusal)
      → (r ≡ answer_number (answered a)) × (n ≡ (as_allocated no_counters a).idx.0 ∷ []) × (v ≡ words_left (λ (x : Idx × Counters). counters_words x.1) w a)
      → (r ≡ answer_number (as_allocated c a).answer) × (n ≡ (as_allocated c a).idx.0 ∷ []) × (v ≡ counters_words (as_allocated c a).counters)
  allocated-returned (Ok x) p = p
  allocated-returned (Err q) p = (p.0, p.1, p.2 ∙ same-words w long s)

  pub batch-returned : (a : Result Counters Refusal) → (r ≡ answer_number (answered a)) × (v ≡ words_left counters_words w a)
      → (r ≡ answer_number (as_applied c a).answer) × (v ≡ counters_words (as_applied c a).counters)
  batch-returned (Ok d) p = p
  batch-returned (Err q) p = (p.0, p.1 ∙ same-words w long s)

  pub shrunk-returned : {d : List ℕ} (a : Result Shrunk Refusal)
      → (r ≡ answer_number (answered a)) × (d ≡ decisions (as_shrunk no_counters a).alive (as_shrunk no_counters a).small) × (v ≡ words_left (λ (x : Shrunk). counters_words x.counters) w a)
      → (r ≡ answer_number (as_shrunk c a).answer) × (d ≡ decisions (as_shrunk c a).alive (as_shrunk c a).small) × (v ≡ counters_words (as_shrunk c a).counters)
  shrunk-returned (Ok d) p = p
  shrunk-returned (Err q) p = (p.0, p.1, p.2 ∙ same-words w long s)

-- counters that are made or read in: beside a refusal the words stay, whatever record z then stands for
pub made-returned : (w : List ℕ) (z : Counters) {r : ℕ} {v : List ℕ} (a : Result Counters Refusal) → (r ≡ answer_number (answered a)) × (v ≡ words_left counters_words w a)
    → (r ≡ answer_number (as_applied z a).answer) × (v ≡ words_after w (as_applied z a).answer (counters_words (as_applied z a).counters))
made-returned w z (Ok d) p = p
made-returned w z (Err q) p = p

-- ---- the nursery: the words w spell the record n
same-nursery : (w : List ℕ) {n : Nursery} → length w ≡ 4 → n ≡ nursery_of w → w ≡ nursery_words n
same-nursery w long s = rw s (sym (nursery-words-back w long))

module _ (w : List ℕ) (long : length w ≡ 4) {n : Nursery} (s : n ≡ nursery_of w) {r : ℕ} {v : List ℕ} where
  pub committed-returned : (a : Result Nursery Refusal) → (r ≡ answer_number (answered a)) × (v ≡ words_left nursery_words w a)
      → (r ≡ answer_number (as_committed n a).answer) × (v ≡ nursery_words (as_committed n a).nursery)
  committed-returned (Ok m) p = p
  committed-returned (Err q) p = (p.0, p.1 ∙ same-nursery w long s)

  pub drained-returned : {l : List ℕ} (a : Result (ℕ × Nursery) Refusal)
      → (r ≡ answer_number (answered a)) × (l ≡ (as_drained (nursery_of w) a).len ∷ []) × (v ≡ words_left (λ (x : ℕ × Nursery). nursery_words x.1) w a)
      → (r ≡ answer_number (as_drained n a).answer) × (l ≡ (as_drained n a).len ∷ []) × (v ≡ nursery_words (as_drained n a).nursery)
  drained-returned (Ok x) p = p
  drained-returned (Err q) p = (p.0, p.1, p.2 ∙ same-nursery w long s)

-- a nursery that is made: beside a refusal the words stay, whatever record z then stands for
pub empty-returned : (w : List ℕ) (z : Nursery) {r : ℕ} {v : List ℕ} (a : Result Nursery Refusal) → (r ≡ answer_number (answered a)) × (v ≡ words_left nursery_words w a)
    → (r ≡ answer_number (as_committed z a).answer) × (v ≡ words_after w (as_committed z a).answer (nursery_words (as_committed z a).nursery))
empty-returned w z (Ok d) p = p
empty-returned w z (Err q) p = p
