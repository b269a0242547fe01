-- The two state records as words in the order of docs/LAYOUT.md, and what a call that is lent words gives and leaves.
-- Assumes nothing.
use Rattle.std.specs.Prelude.{ℕ, ◌≡◌, Bool, true, false, List, [], ◌∷◌, get_or, Result, Ok, Err}
use Rattle.base.specs.Answers.{answer_number, Answer, Taken, Refused}
use Rattle.base.specs.Output.{Written}
use Rattle.base.specs.declared.Refusal.{Refusal}
use Rattle.counters.specs.declared.ShrinkSettings.{ShrinkSettings}
use Rattle.counters.specs.declared.Counters.{Counters}
use Rattle.cell_nursery.specs.declared.Nursery.{Nursery}

-- the shrink settings of three numbers, in the order of a call's parameters
abbrev pub settings_of : ℕ → ℕ → ℕ → ShrinkSettings
settings_of base max save = record { base = base; max = max; good_save = save }

-- the counters that 16 words spell
abbrev pub counters_of : List ℕ → Counters
counters_of w =
    record {
      next_idx = record { 0 = get_or w 0 0 };
      live_cells = get_or w 1 0;
      stored = get_or w 2 0;
      maintenance =
          record {
            alive_removed_since_shrink = get_or w 3 0;
            small_removed_since_shrink =
                get_or w 4 0 ∷ get_or w 5 0 ∷ get_or w 6 0 ∷ get_or w 7 0 ∷ get_or w 8 0 ∷ get_or w 9 0 ∷ get_or w 10 0 ∷ get_or w 11 0 ∷ [];
            min_alive_removed_before_shrink = get_or w 12 0;
          };
      settings = settings_of (get_or w 13 0) (get_or w 14 0) (get_or w 15 0);
    }

-- eight removal counts, and words behind them
abbrev pub set_words : List ℕ → List ℕ → List ℕ
set_words s ws =
    get_or s 0 0 ∷ get_or s 1 0 ∷ get_or s 2 0 ∷ get_or s 3 0 ∷ get_or s 4 0 ∷ get_or s 5 0 ∷ get_or s 6 0 ∷ get_or s 7 0 ∷ ws

-- the three words of settings
abbrev pub settings_words : ShrinkSettings → List ℕ
settings_words g = g.base ∷ g.max ∷ g.good_save ∷ []

-- the 16 words of counters
abbrev pub counters_words : Counters → List ℕ
counters_words c =
    c.next_idx.0 ∷ c.live_cells ∷ c.stored ∷ c.maintenance.alive_removed_since_shrink
    ∷ set_words c.maintenance.small_removed_since_shrink (c.maintenance.min_alive_removed_before_shrink ∷ settings_words c.settings)

-- the nursery that 4 words spell
abbrev pub nursery_of : List ℕ → Nursery
nursery_of w = record { entries = get_or w 0 0; waiting = get_or w 1 0; cell_bytes = get_or w 2 0; delay = get_or w 3 0 }

-- the 4 words of a nursery
abbrev pub nursery_words : Nursery → List ℕ
nursery_words n = n.entries ∷ n.waiting ∷ n.cell_bytes ∷ n.delay ∷ []

-- a yes is 1, a no 0
abbrev pub bit : Bool → ℕ
bit true = 1
bit false = 0

-- the nine decisions: for the set of all stored indices, then for the eight sets
abbrev pub decisions : Bool → List Bool → List ℕ
decisions alive s =
    bit alive ∷ bit (get_or s 0 false) ∷ bit (get_or s 1 false) ∷ bit (get_or s 2 false) ∷ bit (get_or s 3 false)
    ∷ bit (get_or s 4 false) ∷ bit (get_or s 5 false) ∷ bit (get_or s 6 false) ∷ bit (get_or s 7 false) ∷ []

-- what a call that is lent words gives: its answer's number, what it writes through each value pointer, and what it leaves of each
-- slice that it is lent to write, in the order of its parameters
pub record Said : Type 0 where
  pub answer : ℕ
  pub values : List (List ℕ)
  pub lent : List (List ℕ)

abbrev pub said : ℕ → List (List ℕ) → List (List ℕ) → Said
said r vs ls = record { answer = r; values = vs; lent = ls }

-- one value of one word
abbrev pub one_word : ℕ → List (List ℕ)
one_word n = (n ∷ []) ∷ []

-- an output that was written: the value is its length
unfoldable pub written_said : Written → Said
written_said x = said (answer_number x.result.answer) (one_word x.result.len) (x.out ∷ [])

-- the words of a record after a call that makes one: beside a refusal those that were there
abbrev pub words_after : List ℕ → Answer → List ℕ → List ℕ
words_after w Taken v = v
words_after w (Refused r) v = w

-- the same of what a function returns, by the words of its value
abbrev pub words_left : {A : Type 0} → (A → List ℕ) → List ℕ → Result A Refusal → List ℕ
words_left f w (Ok a) = f a
words_left f w (Err r) = w

-- beside a refusal these are the values, and these the slices
abbrev pub Unchanged : List (List ℕ) → List (List ℕ) → Said → Type 0
Unchanged vs ls s = (s.answer ≡ 0 → ⊥) → (s.values ≡ vs) × (s.lent ≡ ls)

-- a slice that a call leaves, by its place
abbrev pub left : ℕ → Said → List ℕ
left k s = get_or s.lent k []
