-- The words that a batch's indices are sorted in: 0 before and afterwards.
-- Assumes nothing.
use Rattle.std.specs.Prelude.{◌≡◌, Bool, true, ℕ, ◌+◌, ◌-◌, ◌*◌, ◌/◌, ◌≤◌, replicate}
use Rattle.std.proofs.Math.Path.{sym, ap}
use Rattle.std.proofs.Common.{◌∙◌, arith, take-append-drop, drop_at, take_all, length-take-le}
use mathlib.Core.List.{List, ◌++◌, append_assoc}
use Rattle.std.proofs.Math.ListN.{length, take, drop, length-append, length-drop}
use Rattle.std.proofs.lemmas.List.{length-map, length-replicate, replicate-append-replicate}
use Rattle.std.proofs.Math.Seq.{paste, take_at, take-take, drop-drop}
use Rattle.base.specs.Logic.{keep, overlay, repeated, sorted_from, zeros}
use Rattle.base.specs.Laws.{drop-zeros}
use Rattle.base.specs.SumLaws.{length-keep}
use Rattle.rows.specs.Table.{Laid}
use Rattle.rows.proofs.TableLaws.{length-rows_of}
use Rattle.counters.specs.declared.CounterTransition.{CounterTransition}
use Rattle.counters.specs.Layout.{transition_row}
use Rattle.counters.specs.Batch.{changes, kept, named}
use Rattle.counters.specs.Steps.{transitions}
use Rattle.word_sort.specs.Sort.{sorted}
use Rattle.word_sort.specs.SortLaws.{sorted-sorts, repeated-sorted, length-sorted}

-- a batch names no more indices than it has transitions
pub named-length : (b : List ℕ) → length (named (kept (transitions b))) ≤ length b / 3
unfolding kept
named-length b =
    omega (
      arith,
      length-map (keep changes (transitions b)) (λ (t : CounterTransition). t.idx.0),
      length-keep changes (transitions b),
      length-rows_of transition_row (length b / 3) b,
    )

-- the indices that the kept transitions of lent words name
abbrev pub indices : List ℕ → List ℕ
indices b = named (kept (transitions b))

-- of t, all 0, the first k words become the indices of b, and are then sorted with the k words behind them
module _ (t b s : List ℕ) (k : ℕ) (room : length b / 3 * 2 ≤ length t) (blank : t ≡ zeros (length t)) (count : k ≡ length (indices b)) (here : s ≡ overlay (indices b) t) where
  pub twice : k + k ≤ length t
  twice = omega (arith, named-length b)

  pub length-gathered : length s ≡ length t
  unfolding overlay
  length-gathered =
      ap (λ (l : List ℕ). length l) here
      ∙ length-append (indices b) (drop (length (indices b)) t)
      ∙ omega (arith, length-drop (length (indices b)) t, twice)

  pub length-space : length (take (k + k) s) ≡ k + k
  length-space = length-take-le (k + k) s (omega (arith, length-gathered, twice))

  front : take k (take (k + k) s) ≡ indices b
  unfolding overlay
  front =
      take-take k (k + k) s (omega arith)
      ∙ ap (λ (l : List ℕ). take k l) here
      ∙ take_at (indices b) (drop (length (indices b)) t) k (sym count)

  rest : drop (k + k) s ≡ zeros (length t - (k + k))
  unfolding overlay
  rest =
      sym (drop-drop k k s)
      ∙ ap (λ (l : List ℕ). drop k (drop k l)) here
      ∙ ap (λ (l : List ℕ). drop k l) (drop_at (indices b) (drop (length (indices b)) t) k (sym count))
      ∙ ap (λ (i : ℕ). drop k (drop i t)) (sym count)
      ∙ drop-drop k k t
      ∙ ap (λ (l : List ℕ). drop (k + k) l) blank
      ∙ drop-zeros (k + k) (length t)

  module _ (u : List ℕ) (e : u ≡ sorted (take k (take (k + k) s)) ++ zeros k) where
    whole : u ++ drop (k + k) s ≡ sorted (indices b) ++ (zeros k ++ drop (k + k) s)
    whole =
        ap (λ (l : List ℕ). l ++ drop (k + k) s) (e ∙ ap (λ (l : List ℕ). sorted l ++ zeros k) front)
        ∙ append_assoc (sorted (indices b)) (zeros k) (drop (k + k) s)

    size : length (sorted (indices b)) ≡ k
    size = length-sorted (indices b) ∙ sym count

    in_order : take k (u ++ drop (k + k) s) ≡ sorted (indices b)
    in_order = ap (λ (l : List ℕ). take k l) whole ∙ take_at (sorted (indices b)) (zeros k ++ drop (k + k) s) k size

    pub length_front : k ≡ length (take k (u ++ drop (k + k) s))
    length_front = sym (ap (λ (l : List ℕ). length l) in_order ∙ size)

    pub front_fits : k ≤ length (u ++ drop (k + k) s)
    front_fits = omega (arith, ap (λ (l : List ℕ). length l) whole, length-append (sorted (indices b)) (zeros k ++ drop (k + k) s), size)

    pub front-sorted : sorted_from 0 (take k (u ++ drop (k + k) s)) ≡ true
    front-sorted = ap (λ (l : List ℕ). sorted_from 0 l) in_order ∙ sorted-sorts (indices b)

    pub front-repeated : (r : Bool) → r ≡ repeated (take k (u ++ drop (k + k) s)) → r ≡ repeated (indices b)
    front-repeated r f = f ∙ ap repeated in_order ∙ repeated-sorted (indices b)

    pub blank-again : (v : List ℕ) → v ≡ paste (u ++ drop (k + k) s) 0 (replicate k 0) k → v ≡ t
    blank-again v f =
        let z : 0 + k ≡ k = omega arith in
        let n : k + (k + (length t - (k + k))) ≡ length t = omega (arith, twice) in
        f
        ∙ ap (λ (l : List ℕ). l ++ drop (0 + k) (u ++ drop (k + k) s)) (take_all k (zeros k) (omega (arith, length-replicate {A = ℕ} k 0)))
        ∙ ap (λ (l : List ℕ). zeros k ++ l)
        (ap (λ (i : ℕ). drop i (u ++ drop (k + k) s)) z
        ∙ ap (λ (l : List ℕ). drop k l) whole
        ∙ drop_at (sorted (indices b)) (zeros k ++ drop (k + k) s) k size
        ∙ ap (λ (l : List ℕ). zeros k ++ l) rest
        ∙ replicate-append-replicate k (length t - (k + k)) 0)
        ∙ replicate-append-replicate k (k + (length t - (k + k))) 0
        ∙ ap (λ (i : ℕ). zeros i) n
        ∙ sym blank

-- ---- the words behind the rows of a table
module _ (t : List ℕ) (n : ℕ) (laid : Laid 2 n t) where
  behind : take (length t - n * 2) (drop (n * 2) t) ≡ drop (n * 2) t
  behind = take_all (length t - n * 2) (drop (n * 2) t) (omega (arith, length-drop (n * 2) t))

  pub length-behind : length (take (length t - n * 2) (drop (n * 2) t)) ≡ length t - n * 2
  length-behind = ap (λ (l : List ℕ). length l) behind ∙ length-drop (n * 2) t

  pub blank-behind : take (length t - n * 2) (drop (n * 2) t) ≡ zeros (length (take (length t - n * 2) (drop (n * 2) t)))
  blank-behind = behind ∙ laid.rest ∙ ap (λ (i : ℕ). zeros i) (sym length-behind)

  -- a table whose words behind its rows come back as they were
  pub table_same : (u : List ℕ) → u ≡ take (length t - n * 2) (drop (n * 2) t) → take (n * 2) t ++ (u ++ drop (length t - n * 2) (drop (n * 2) t)) ≡ t
  table_same u e =
      ap (λ (l : List ℕ). take (n * 2) t ++ (l ++ drop (length t - n * 2) (drop (n * 2) t))) e
      ∙ ap (λ (l : List ℕ). take (n * 2) t ++ l) (take-append-drop (length t - n * 2) (drop (n * 2) t))
      ∙ take-append-drop (n * 2) t
