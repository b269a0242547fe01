-- A table with room to lay rows aside: as it is lent to the first pass, between the passes, and at the end.
-- Assumes nothing.
use Rattle.std.specs.Prelude.{◌≡◌, true, List, [], ◌++◌, map, ℕ, ◌+◌, ◌*◌, ◌-◌, ◌/◌, ◌≤◌, take, drop, ltb}
use Rattle.std.proofs.Math.Path.{refl, ap}
use Rattle.std.proofs.Common.{sym, ap₂, ◌∙◌, arith, length-append, take_at, drop_at, length-take-le}
use Rattle.std.proofs.Math.ListN.{length, length-drop}
use Rattle.std.proofs.lemmas.List.{length-replicate, replicate-append-replicate}
use Rattle.base.specs.Logic.{all, zeros, ascending_from}
use Rattle.base.specs.Laws.{and_right}
use Rattle.base.specs.ListLaws.{all_weaker}
use Rattle.rows.specs.Table.{rows_of, table_of, Laid}
use Rattle.rows.proofs.TableLaws.{rows_of-table, length-table, zeros-from}
use Rattle.rows.specs.Keys.{keys, first_word}
use Rattle.counters.specs.declared.CounterTransition.{CounterTransition}
use Rattle.counters.specs.Counts.{Entry}
use Rattle.counters.specs.declared.Counters.{Counters}
use Rattle.counters.specs.Layout.{count_row, sound, ordered}
use Rattle.counters.proofs.LayoutLaws.{held}
use Rattle.counters.proofs.CodingLaws.{count-lawful}
use Rattle.counters.specs.Held.{InOrder, Judged}
use Rattle.counters.specs.Batch.{counts_after}
use Rattle.counters.specs.Steps.{transitions}
use Rattle.counter_steps.specs.Steps.{pass_of}
use Rattle.counters.proofs.RowLaws.{indices}
use Rattle.counters.proofs.ApplyLaws.{in-order-table, in-order-ascends}
use Rattle.counter_merge.specs.Passes.{stands, new_rows, fronts, backs, joined, comes}
use Rattle.counter_merge.specs.Halves.{Halves, Apart}
use Rattle.counter_merge.specs.WordLaws.{rows-front, drop-front}
use Rattle.counter_merge.specs.TableLaws.{Same, same-indices}
use Rattle.counter_merge.specs.PutLaws.{fronts-indices, backs-ascend, backs-come, backs-length, joined-after}

take-zeros : (k n : ℕ) → k ≤ n → take k (zeros n) ≡ zeros k
take-zeros k n h =
    let q : k + (n - k) ≡ n = omega arith in
    ap (λ (p : ℕ). take k (zeros p)) (sym q) ∙ ap (λ (l : List ℕ). take k l) (sym (replicate-append-replicate {A = ℕ} k (n - k) 0))
    ∙ take_at (zeros k) (zeros (n - k)) k (length-replicate {A = ℕ} k 0)

module _ (n at : ℕ) (t : List ℕ) (ok : InOrder n t) (low : n * 2 ≤ at) (high : at ≤ length t) where
  -- ---- nothing is laid aside yet
  front-laid : Laid 2 n (take at t)
  front-laid =
      let l = length-take-le at t high in
      let q : n * 2 + (at - n * 2) ≡ at = omega arith in
      record {
        fits = rw l low;
        rest =
            rw l
            (ap (λ (p : ℕ). drop (n * 2) (take p t)) (sym q) ∙ drop-front (n * 2) (at - n * 2) t ok.laid.fits
            ∙ ap (λ (u : List ℕ). take (at - n * 2) u) ok.laid.rest ∙ take-zeros (at - n * 2) (length t - n * 2) (omega arith));
      }

  front-order : InOrder n (take at t)
  front-order =
      record {
        laid = front-laid;
        ascends = rw (← indices n (take at t), rows-front n at t low high) (in-order-ascends n t ok);
      }

  back-order : InOrder 0 (drop at t)
  unfolding keys ascending_from
  back-order =
      let q : length t - at ≡ length (drop at t) - 0 = omega (arith, length-drop at t) in
      record {
        laid = record { fits = omega arith; rest = zeros-from 2 n t ok.laid at low ∙ ap (λ (k : ℕ). zeros k) q };
        ascends = refl;
      }

  pub room-begin : Halves n at 0 t
  room-begin = record { front = front-order; back = back-order; within = high }

  -- ---- the rows that come are
  module _ (ts : List CounterTransition) (room : (n + new_rows (keys first_word 2 n (take at t)) ts) * 2 ≤ at) (space : at + new_rows (keys first_word 2 n (take at t)) ts * 2 ≤ length t) (s : ℕ) (t' : List ℕ)
      (number : s ≡ length (backs (keys first_word 2 n (take at t)) ts []))
      (words : t' ≡ table_of count_row at (fronts ts (rows_of count_row n (take at t))) ++ table_of count_row (length t - at) (backs (keys first_word 2 n (take at t)) ts [])) where
    abbrev es : List Entry
    es = rows_of count_row n (take at t)

    abbrev ks : List ℕ
    ks = keys first_word 2 n (take at t)

    abbrev ns : List Entry
    ns = backs ks ts []

    front-table : Same n (take at t) (fronts ts es) (table_of count_row at (fronts ts es))
    front-table =
        same-indices n (take at t) front-order (fronts ts es) (fronts-indices ts es) (table_of count_row at (fronts ts es))
        (ap (λ (k : ℕ). table_of count_row k (fronts ts es)) (sym (length-take-le at t high)))

    front-size : length (table_of count_row at (fronts ts es)) ≡ at
    front-size = front-table.size ∙ length-take-le at t high

    few : s ≤ new_rows ks ts
    few = omega (arith, number, backs-length ks ts [])

    back_fits : length ns * 2 ≤ length t - at
    back_fits = omega (arith, few)

    front-after : take at t' ≡ table_of count_row at (fronts ts es)
    front-after = ap (λ (u : List ℕ). take at u) words ∙ take_at (table_of count_row at (fronts ts es)) (table_of count_row (length t - at) ns) at front-size

    back-after : drop at t' ≡ table_of count_row (length t - at) ns
    back-after = ap (λ (u : List ℕ). drop at u) words ∙ drop_at (table_of count_row at (fronts ts es)) (table_of count_row (length t - at) ns) at front-size

    size-after : length t' ≡ length t
    size-after =
        ap length words ∙ length-append (table_of count_row at (fronts ts es)) (table_of count_row (length t - at) ns)
        ∙ omega (arith, front-size, length-table count-lawful (length t - at) ns back_fits)

    fronts-are : rows_of count_row n (take at t') ≡ fronts ts es
    fronts-are = rw front-after front-table.spells

    backs-are : rows_of count_row s (drop at t') ≡ ns
    backs-are = rw (back-after, number) (rows_of-table count-lawful (length t - at) ns)

    none-comes : all (comes ks) [] ≡ true
    unfolding all
    none-comes = refl

    none-ascends : ascending_from 0 (map (λ (e : Entry). e.idx) []) ≡ true
    unfolding ascending_from
    none-ascends = refl

    pub room_apart : Apart n at s t'
    room_apart =
        record {
          halves =
              record {
                front = rw front-after front-table.ordered;
                back = rw (back-after, number) (in-order-table (length t - at) ns back_fits (backs-ascend ks ts [] none-ascends));
                within = omega (arith, size-after);
              };
          others = rw (backs-are, front-after, front-table.indexed) (backs-come ks ts [] none-comes);
          room = omega (arith, few);
        }

    -- ---- and are joined
    all-joined : joined (rows_of count_row s (drop at t')) (rows_of count_row n (take at t')) ≡ counts_after (pass_of true ts) (rows_of count_row n t)
    all-joined =
        rw (backs-are, fronts-are)
        (ap (λ (k : List ℕ). joined (backs k ts []) (fronts ts es)) (sym (indices n (take at t)))
        ∙ joined-after ts es (in-order-ascends n (take at t) front-order) ∙ ap (counts_after (pass_of true ts)) (rows-front n at t low high))

    pub room-end : (r : ℕ) (t'' : List ℕ) → r ≡ length (joined (rows_of count_row s (drop at t')) (rows_of count_row n (take at t')))
        → t'' ≡ table_of count_row (length t') (joined (rows_of count_row s (drop at t')) (rows_of count_row n (take at t')))
        → (r ≡ length (counts_after (pass_of true ts) (rows_of count_row n t))) × (t'' ≡ table_of count_row (length t) (counts_after (pass_of true ts) (rows_of count_row n t)))
    room-end r t'' a b = (a ∙ ap length all-joined, b ∙ ap₂ (λ (k : ℕ) (l : List Entry). table_of count_row k l) size-after all-joined)

-- ---- a batch that passed every test: each row stands
pub judged-stand : (c : Counters) (t ws : List ℕ) → Judged c t ws → all stands (rows_of count_row c.stored t) ≡ true
unfolding ordered
judged-stand c t ws j =
    all_weaker stands (sound c.next_idx.0) (λ e h. and_right (ltb e.idx c.next_idx.0) (stands e) h) (rows_of count_row c.stored t)
    (and_right (ascending_from 0 (map (λ e. e.idx) (rows_of count_row c.stored t))) (all (sound c.next_idx.0) (rows_of count_row c.stored t))
    (held c t j.holding).sorted)

-- ---- a batch, with room for its new rows twice
module _ (n : ℕ) (t ws : List ℕ) (ok : InOrder n t) (k : ℕ) (counted : k ≡ new_rows (keys first_word 2 n t) (transitions ws)) (enough : k ≤ (length t / 2 - n) / 2) where
  -- the word from which on rows are laid aside
  abbrev aside : ℕ
  aside = (n + (length t / 2 - n) - k) * 2

  whole : n ≤ length t / 2
  whole = omega (arith, ok.laid.fits)

  low : n * 2 ≤ aside
  low = omega (arith, whole)

  high : aside ≤ length t
  high = omega (arith, whole)

  same_new : new_rows (keys first_word 2 n (take aside t)) (transitions ws) ≡ k
  same_new =
      ap (λ (ks : List ℕ). new_rows ks (transitions ws)) (sym (indices n (take aside t)) ∙ ap (map (λ (e : Entry). e.idx)) (rows-front n aside t low high) ∙ indices n t)
      ∙ sym counted

  room : (n + new_rows (keys first_word 2 n (take aside t)) (transitions ws)) * 2 ≤ aside
  room = omega (arith, whole, same_new)

  space : aside + new_rows (keys first_word 2 n (take aside t)) (transitions ws) * 2 ≤ length t
  space = omega (arith, whole, same_new)

  pub batch-begin : Halves n aside 0 t × (aside + new_rows (keys first_word 2 n (take aside t)) (transitions ws) * 2 ≤ length t)
  batch-begin = (room-begin n aside t ok low high, space)

  module _ (s : ℕ) (t' : List ℕ) (number : s ≡ length (backs (keys first_word 2 n (take aside t)) (transitions ws) []))
      (words : t' ≡ table_of count_row aside (fronts (transitions ws) (rows_of count_row n (take aside t)))
      ++ table_of count_row (length t - aside) (backs (keys first_word 2 n (take aside t)) (transitions ws) [])) where
    pub batch-apart : Apart n aside s t'
    batch-apart = room_apart n aside t ok low high (transitions ws) room space s t' number words

    pub batch-end : (r : ℕ) (t'' : List ℕ) → r ≡ length (joined (rows_of count_row s (drop aside t')) (rows_of count_row n (take aside t')))
        → t'' ≡ table_of count_row (length t') (joined (rows_of count_row s (drop aside t')) (rows_of count_row n (take aside t')))
        → (r ≡ length (counts_after (pass_of true (transitions ws)) (rows_of count_row n t)))
        × (t'' ≡ table_of count_row (length t) (counts_after (pass_of true (transitions ws)) (rows_of count_row n t)))
    batch-end = room-end n aside t ok low high (transitions ws) room space s t' number words
