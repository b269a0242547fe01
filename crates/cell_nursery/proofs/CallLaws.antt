-- Each refusal of a call on a record and tables of any content, exactly under document 01's condition; and no call is refused with another number.
-- Assumes nothing.
use Rattle.std.specs.Prelude.{◌≡◌, ◌↔◌, ◌⊎◌, Bool, not, ◌&&◌, List, [], ◌∷◌, ℕ, ◌<◌, length}
use Rattle.std.proofs.Math.Path.{refl}
use Rattle.std.proofs.Math.Logic.{inl, inr}
use Rattle.std.proofs.Math.Bool.{true, false, false≢true}
use Rattle.std.proofs.Common.{true≢false}
use Rattle.std.proofs.Math.Option.{Option, none, some}
use Rattle.base.specs.Logic.{any}
use Rattle.base.specs.Laws.{and_left, and_right, and_both}
use Rattle.base.specs.Answers.{Outcome, refused, taken, ◌>>=◌, ◌>>◌, refuse_if, or_refuse, answer_of, number_of, Refused}
use Rattle.base.specs.OutcomeLaws.{ends-here, taken_refused, Refuses, refuses-none, refuses-step}
use Rattle.base.specs.Output.{fitting, put, written}
use Rattle.base.specs.declared.Refusal.{Refusal}
use Rattle.base.specs.declared.Refusal.TheVariants.{OutputFull, Broken}
use Rattle.cell_nursery.specs.declared.Nursery.{Nursery}
use Rattle.cell_nursery.specs.Entries.{State}
use Rattle.cell_nursery.specs.Items.{Delta, delta_of}
use Rattle.cell_nursery.specs.Delta.{apply_delta}
use Rattle.cell_nursery.specs.Drain.{drained, drain_bytes, lookup, listing_bytes}
use Rattle.cell_nursery.specs.Layout.{room_of, state_of, entries_of, holds, holds_entries, holds_cells}
use Rattle.cell_nursery.specs.Calls.{laid, laid_out, on_state, length_width, delta_call, drained_out, drain_call, found_of, lookup_call, cell_at, data_of, data_call, listing_call}
use Rattle.cell_nursery.proofs.RefusalLaws.{delta-numbers}
use Rattle.base.specs.AnswerLaws.{not_test, and-fails, exactly, missing-here, missing-later, missing-numbers, lent-broken, lent-full, lent-numbers, Answers, says, says-numbers}

-- a step that is refused where a check fails
held-or-not : {A : Type 0} (held : Bool) (a : A) → ((refuse_if (not held) Broken >> taken a) ≡ refused Broken) ↔ (held ≡ false)
held-or-not held a = ends-here (not_test held) taken_refused

broken-alone : {A : Type 0} (held : Bool) (a : A) → Refuses (20 ∷ []) (refuse_if (not held) Broken >> taken a)
broken-alone held a = refuses-step Broken [] (not_test held) (refuses-none [] a)

-- a state laid out, or what stands beside a refusal
pub laid_out-answer : (delay : ℕ) (r : Nursery) (es ws cs : List ℕ) (o : Outcome State) → (laid_out delay r es ws cs o).result.answer ≡ answer_of o
unfolding laid_out laid
laid_out-answer delay r es ws cs (refused q) = refl
laid_out-answer delay r es ws cs (taken s) = refl

-- ---- a delta
module _ (r : Nursery) (es ws cs : List ℕ) (wide : Bool) (inserts removes : ℕ) (items : List ℕ) where
  abbrev spelled : Option Delta
  spelled = delta_of (length_width wide) inserts removes items

  abbrev applied : Delta → Outcome State
  applied d = apply_delta (room_of es ws cs) (state_of r es ws cs) d

  abbrev outcome : Outcome State
  outcome = refuse_if (not (holds r es ws cs)) Broken >> (or_refuse Broken spelled >>= applied)

  answered : (delta_call r es ws cs wide inserts removes items).result.answer ≡ answer_of outcome
  unfolding delta_call on_state
  answered = laid_out-answer r.delay r es ws cs outcome

  -- 20, broken: the record and the tables hold no state, or the items run past their bytes
  pub delta-broken : ((delta_call r es ws cs wide inserts removes items).result.answer ≡ Refused Broken) ↔ ((holds r es ws cs ≡ false) ⊎ (spelled ≡ none))
  unfolding any
  delta-broken =
      says outcome answered
      (go (holds r es ws cs) (missing-here Broken spelled applied (λ d e. false≢true (delta-numbers (room_of es ws cs) (state_of r es ws cs) d Broken e))))
    where
      go : (b : Bool) {o : Outcome State} → (o ≡ refused Broken) ↔ (spelled ≡ none) → ((refuse_if (not b) Broken >> o) ≡ refused Broken) ↔ ((b ≡ false) ⊎ (spelled ≡ none))
      go true f = (λ e. inr (f.0 e), λ s. elim s [ inl e ↦ absurd (true≢false e) | inr e ↦ f.1 e ])
      go false f = (λ e. inl refl, λ s. refl)

  -- another refusal: they hold a state, and the delta that the items spell is so refused on it
  pub delta-refused : (q : Refusal) → (number_of q ≡ 20 → ⊥)
      → ((delta_call r es ws cs wide inserts removes items).result.answer ≡ Refused q) ↔ ((holds r es ws cs ≡ true) × ((d : Delta) × (spelled ≡ some d) × (applied d ≡ refused q)))
  delta-refused q other = says outcome answered (go (holds r es ws cs) (missing-later Broken spelled applied differs))
    where
      differs : ◌≡◌ {A = Outcome State} (refused Broken) (refused q) → ⊥
      differs e = other (cc)

      go : (b : Bool) {o : Outcome State} {Q : Type 0} → (o ≡ refused q) ↔ Q → ((refuse_if (not b) Broken >> o) ≡ refused q) ↔ ((b ≡ true) × Q)
      go true f = (λ e. (refl, f.0 e), λ p. f.1 p.1)
      go false f = (λ e. absurd (differs e), λ p. absurd (false≢true p.0))

  -- 20, 14, 12 or 13, and no other
  pub delta-call-numbers : Answers (20 ∷ 14 ∷ 12 ∷ 13 ∷ []) (delta_call r es ws cs wide inserts removes items).result.answer
  unfolding any
  delta-call-numbers =
      says-numbers (20 ∷ 14 ∷ 12 ∷ 13 ∷ []) outcome answered
      (go (holds r es ws cs) (missing-numbers Broken spelled applied (14 ∷ 12 ∷ 13 ∷ []) (λ d. delta-numbers (room_of es ws cs) (state_of r es ws cs) d)))
    where
      go : (b : Bool) {o : Outcome State} → Refuses (20 ∷ 14 ∷ 12 ∷ 13 ∷ []) o → Refuses (20 ∷ 14 ∷ 12 ∷ 13 ∷ []) (refuse_if (not b) Broken >> o)
      go true f = f
      go false f = λ q e. let same : q ≡ Broken = cc in rw same

-- ---- draining
module _ (r : Nursery) (es ws cs : List ℕ) (round : ℕ) (out : List ℕ) where
  abbrev handed_out : List ℕ
  handed_out = drain_bytes r.delay round (state_of r es ws cs)

  drain-answered : (drain_call r es ws cs round out).result.answer ≡ answer_of (fitting (length out) (refuse_if (not (holds r es ws cs)) Broken >> taken handed_out))
  unfolding drain_call on_state drained_out
  drain-answered = go (fitting (length out) (refuse_if (not (holds r es ws cs)) Broken >> taken handed_out))
    where
      go : (o : Outcome (List ℕ)) → (drained_out r ws out o (drained r.delay round (state_of r es ws cs))).result.answer ≡ answer_of o
      go (refused q) = refl
      go (taken bs) = refl

  -- 20, broken: the record and the tables hold no state
  pub drain-broken : ((drain_call r es ws cs round out).result.answer ≡ Refused Broken) ↔ (holds r es ws cs ≡ false)
  drain-broken = says _ drain-answered (lent-broken (length out) handed_out (holds r es ws cs))

  -- 15, output full: they do, and the output is shorter than what is handed out
  pub drain-full : ((drain_call r es ws cs round out).result.answer ≡ Refused OutputFull) ↔ ((holds r es ws cs ≡ true) × (length out < length handed_out))
  drain-full = says _ drain-answered (lent-full (length out) handed_out (holds r es ws cs))

  pub drain-numbers : Answers (20 ∷ 15 ∷ []) (drain_call r es ws cs round out).result.answer
  drain-numbers = says-numbers (20 ∷ 15 ∷ []) _ drain-answered (lent-numbers (length out) handed_out (holds r es ws cs))

-- ---- looking up an index, by the entries alone
module _ (r : Nursery) (es : List ℕ) (h : ℕ) where
  abbrev index : Option ℕ
  index = lookup h (entries_of r.entries es [])

  lookup-answered : (lookup_call r es h).answer ≡ answer_of (refuse_if (not (holds_entries r es)) Broken >> taken index)
  unfolding lookup_call found_of
  lookup-answered = go (holds_entries r es) index
    where
      go : (b : Bool) (i : Option ℕ) → (found_of (refuse_if (not b) Broken >> taken i)).answer ≡ answer_of (refuse_if (not b) Broken >> taken i)
      go true none = refl
      go true (some i) = refl
      go false i = refl

  -- 20, broken: the record and the entries hold none
  pub lookup-broken : ((lookup_call r es h).answer ≡ Refused Broken) ↔ (holds_entries r es ≡ false)
  lookup-broken = says _ lookup-answered (held-or-not (holds_entries r es) index)

  pub lookup-numbers : Answers (20 ∷ []) (lookup_call r es h).answer
  lookup-numbers = says-numbers (20 ∷ []) _ lookup-answered (broken-alone (holds_entries r es) index)

-- ---- the place of a cell, and the listing: by the entries and the cells
module _ (r : Nursery) (es cs : List ℕ) where
  abbrev held : Bool
  held = holds_entries r es && holds_cells r cs

  module _ (h : ℕ) where
    abbrev place : Option (ℕ × ℕ)
    place = cell_at h 0 (entries_of r.entries es cs)

    data-answered : (data_call r es cs h).answer ≡ answer_of (refuse_if (not held) Broken >> taken place)
    unfolding data_call data_of
    data-answered = go held place
      where
        go : (b : Bool) (o : Option (ℕ × ℕ)) → (data_of (refuse_if (not b) Broken >> taken o)).answer ≡ answer_of (refuse_if (not b) Broken >> taken o)
        go true none = refl
        go true (some (p, n)) = refl
        go false o = refl

    -- 20, broken: the record and the entries hold none, or the record and the cells
    pub data-broken : ((data_call r es cs h).answer ≡ Refused Broken) ↔ ((holds_entries r es ≡ false) ⊎ (holds_cells r cs ≡ false))
    data-broken = exactly (says _ data-answered (held-or-not held place)) (and-fails (holds_entries r es) (holds_cells r cs))

    pub data-numbers : Answers (20 ∷ []) (data_call r es cs h).answer
    data-numbers = says-numbers (20 ∷ []) _ data-answered (broken-alone held place)

  module _ (out : List ℕ) where
    abbrev listed : List ℕ
    listed = listing_bytes (entries_of r.entries es cs)

    listing-answered : (listing_call r es cs out).result.answer ≡ answer_of (fitting (length out) (refuse_if (not held) Broken >> taken listed))
    unfolding listing_call written put
    listing-answered = go (fitting (length out) (refuse_if (not held) Broken >> taken listed))
      where
        go : (o : Outcome (List ℕ)) → (put out o).result.answer ≡ answer_of o
        go (refused q) = refl
        go (taken bs) = refl

    -- 20, broken: as the place of a cell
    pub listing-broken : ((listing_call r es cs out).result.answer ≡ Refused Broken) ↔ ((holds_entries r es ≡ false) ⊎ (holds_cells r cs ≡ false))
    listing-broken = exactly (says _ listing-answered (lent-broken (length out) listed held)) (and-fails (holds_entries r es) (holds_cells r cs))

    -- 15, output full: they hold them, and the output is shorter than the listing
    pub listing_full : ((listing_call r es cs out).result.answer ≡ Refused OutputFull) ↔ ((holds_entries r es ≡ true) × (holds_cells r cs ≡ true) × (length out < length listed))
    listing_full =
        exactly (says _ listing-answered (lent-full (length out) listed held)) (
          (λ p. (and_left (holds_entries r es) (holds_cells r cs) p.0, and_right (holds_entries r es) (holds_cells r cs) p.0, p.1)),
          λ p. (and_both (holds_entries r es) (holds_cells r cs) p.0 p.1, p.2),
        )

    pub listing-numbers : Answers (20 ∷ 15 ∷ []) (listing_call r es cs out).result.answer
    listing-numbers = says-numbers (20 ∷ 15 ∷ []) _ listing-answered (lent-numbers (length out) listed held)
