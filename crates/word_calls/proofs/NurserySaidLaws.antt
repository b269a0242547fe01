-- What a call on the nursery gives over words, from what the call under it gives.
-- Assumes nothing.
use Rattle.std.specs.Prelude.{ℕ, ◌≡◌, List, [], ◌∷◌}
use Rattle.std.proofs.Common.{ap}
use Rattle.base.specs.Answers.{answer_number}
use Rattle.base.specs.Output as output
use Rattle.base.specs.Output.{Written, Wrote}
use Rattle.cell_nursery.specs.Returned.{Committed, Drained, Found, Data}
use Rattle.cell_nursery.specs.Calls.{Changed, effect, DrainedOut, drain_effect}
use Rattle.state_words.specs.Words.{nursery_words, said, bit, written_said, words_after}
use Rattle.word_calls.specs.NurserySaid.{committed_said, made_said, drained_said, found_said, placed_said}

pub committed-said : {x : Committed} {es ws cs v : List ℕ} {y : Changed} {r : ℕ} → effect x es ws cs ≡ y
    → (r ≡ answer_number x.answer) × (v ≡ nursery_words x.nursery) → said r [] (v ∷ es ∷ ws ∷ cs ∷ []) ≡ committed_said y
unfolding committed_said
committed-said e p = rw (p.0, p.1) (ap committed_said e)

pub made-said : (w : List ℕ) {x : Committed} {es ws cs v : List ℕ} {y : Changed} {r : ℕ} → effect x es ws cs ≡ y
    → (r ≡ answer_number x.answer) × (v ≡ words_after w x.answer (nursery_words x.nursery)) → said r [] (v ∷ es ∷ ws ∷ cs ∷ []) ≡ made_said w y
unfolding made_said
made-said w e p = rw (p.0, p.1) (ap (made_said w) e)

pub drained-said : {x : Drained} {out ws v n : List ℕ} {y : DrainedOut} {r : ℕ} → drain_effect x out ws ≡ y
    → (r ≡ answer_number x.answer) × (n ≡ x.len ∷ []) × (v ≡ nursery_words x.nursery) → said r (n ∷ []) (v ∷ ws ∷ out ∷ []) ≡ drained_said y
unfolding drained_said
drained-said e p = rw (p.0, p.1, p.2) (ap drained_said e)

pub found-said : {x y : Found} {n : List ℕ} {r : ℕ} → x ≡ y → (r ≡ answer_number x.answer) × (n ≡ bit x.found ∷ x.idx.0 ∷ [])
    → said r (n ∷ []) [] ≡ found_said y
unfolding found_said
found-said e p = rw (p.0, p.1) (ap found_said e)

pub placed-said : {x y : Data} {n : List ℕ} {r : ℕ} → x ≡ y → (r ≡ answer_number x.answer) × (n ≡ bit x.found ∷ x.place ∷ x.len ∷ [])
    → said r (n ∷ []) [] ≡ placed_said y
unfolding placed_said
placed-said e p = rw (p.0, p.1) (ap placed_said e)

pub written-said : {x : Wrote} {out n : List ℕ} {y : Written} {r : ℕ} → output.effect x out ≡ y → (r ≡ answer_number x.answer) × (n ≡ x.len ∷ [])
    → said r (n ∷ []) (out ∷ []) ≡ written_said y
unfolding written_said
written-said e p = rw (p.0, p.1) (ap written_said e)
