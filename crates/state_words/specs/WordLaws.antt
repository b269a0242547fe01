-- A record and its words spell each other.
-- Assumes nothing.
use Rattle.std.specs.Prelude.{ℕ, zero, suc, ◌+◌, ◌≡◌, refl, Bool, true, false, List, [], ◌∷◌, length, drop, get_or}
use Rattle.std.proofs.Common.{sym, ap, ◌∙◌, arith, add-zero, drop-cons}
use Rattle.std.proofs.Math.Seq.{drop-length}
use mir.Val.{bool_byte}
use Rattle.counters.specs.declared.Counters.{Counters}
use Rattle.cell_nursery.specs.declared.Nursery.{Nursery}
use Rattle.state_words.specs.Words.{bit, counters_of, counters_words, nursery_of, nursery_words}

-- a bool that is cast to a number
pub bool-bit : (b : Bool) → bool_byte b ≡ bit b
bool-bit true = refl
bool-bit false = refl

-- ---- the n items of a list from index i on, one by one
words : ℕ → ℕ → List ℕ → List ℕ
words i zero w = []
words i (suc n) w = get_or w i 0 ∷ words (suc i) n w

drop-words : (i n : ℕ) (w : List ℕ) → length w ≡ i + n → drop i w ≡ words i n w
unfolding words
drop-words i zero w e = rw (← (e ∙ add-zero i)) (drop-length w)
drop-words i (suc n) w e =
    let h : length w ≡ suc i + n = omega arith in
    rw (drop-cons w i 0 (omega arith), drop-words (suc i) n w h)

all_words : (n : ℕ) (w : List ℕ) → length w ≡ n → w ≡ words 0 n w
all_words n w e = let h : length w ≡ 0 + n = omega arith in drop-words 0 n w h

-- ---- records and their words
pub counters-spelled-back : (c : Counters) → length c.maintenance.small_removed_since_shrink ≡ 8 → counters_of (counters_words c) ≡ c
unfolding words
counters-spelled-back c e =
    let m = c.maintenance in
    let from-sets : List ℕ → Counters =
    λ s.
    record {
      next_idx = c.next_idx;
      live_cells = c.live_cells;
      stored = c.stored;
      maintenance =
          record {
            alive_removed_since_shrink = m.alive_removed_since_shrink;
            small_removed_since_shrink = s;
            min_alive_removed_before_shrink = m.min_alive_removed_before_shrink;
          };
      settings = c.settings;
    } in
    ap from-sets (sym (all_words 8 m.small_removed_since_shrink e))

pub counters-words-back : (w : List ℕ) → length w ≡ 16 → counters_words (counters_of w) ≡ w
unfolding words
counters-words-back w e = sym (all_words 16 w e)

pub nursery-spelled-back : (n : Nursery) → nursery_of (nursery_words n) ≡ n
nursery-spelled-back n = refl

pub nursery-words-back : (w : List ℕ) → length w ≡ 4 → nursery_words (nursery_of w) ≡ w
unfolding words
nursery-words-back w e = sym (all_words 4 w e)
