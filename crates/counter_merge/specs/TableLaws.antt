-- A row's count replaced in the table: its words, and what stays as it was.
-- Assumes nothing.
use Rattle.std.specs.Prelude.{◌≡◌, refl, Bool, true, false, ◌||◌, List, [], ◌∷◌, ◌++◌, map, ℕ, suc, ◌+◌, ◌*◌, ◌≤◌, ◌<◌, eqb, length, take, drop, get_or, set}
use Rattle.std.proofs.Math.Path.{sym}
use Rattle.std.proofs.Common.{ap, ap₂, ◌∙◌, arith, eqb-true}
use Rattle.std.proofs.lemmas.Bool.{eqb-false}
use Rattle.std.proofs.lemmas.List.{length-map, set-get_or}
use Rattle.base.specs.Logic.{any, elem, fold, ascending_from}
use Rattle.rows.specs.Table.{rows_of, table_of}
use Rattle.rows.proofs.TableLaws.{length-rows_of, rows_of-table, table-rows_of, length-table}
use Rattle.rows.specs.Keys.{keys, first_word, place}
use Rattle.rows.proofs.KeyLaws.{length-keys, word_at}
use Rattle.rows.proofs.RowLaws.{elem-hit, elem-miss}
use Rattle.rows.proofs.PutLaws.{put-replaced}
use Rattle.counters.specs.declared.CounterTransition.{CounterTransition}
use Rattle.counters.specs.Counts.{Entry}
use Rattle.counters.specs.Layout.{count_row}
use Rattle.counters.proofs.CodingLaws.{count-lawful}
use Rattle.counters.specs.Held.{InOrder}
use Rattle.counters.proofs.RowLaws.{indices, in-order-sorted}
use Rattle.counters.proofs.SetLaws.{behind-row}
use Rattle.counters.proofs.ApplyLaws.{in-order-table, in-order-ascends}
use Rattle.counter_merge.specs.Passes.{replaced, drops, hits, any_hit, mark_one, marked}
use Rattle.counter_merge.specs.MarkLaws.{replaced-none, replaced-put, mark-indices}
use Rattle.counter_merge.specs.WordLaws.{row_written}

-- ---- a search for the row, and its second word written
module _ (n : ℕ) (t : List ℕ) (ok : InOrder n t) (i m k : ℕ) (here : k ≡ place i (keys first_word 2 n t)) where
  abbrev es : List Entry
  es = rows_of count_row n t

  pub replaced-here : k < n → get_or t (k * 2) 0 ≡ i
      → (true ≡ elem i (keys first_word 2 n t)) × (set t (k * 2 + 1) m ≡ table_of count_row (length t) (replaced i m es))
  replaced-here h e =
      let l = length-keys first_word 2 n t in
      let f = ok.laid.fits in
      let there : elem i (keys first_word 2 n t) ≡ true = elem-hit i (keys first_word 2 n t) k (omega arith) (word_at 2 n t k h ∙ e) in
      let row : Entry = record { idx = i; count = m } in
      let words : set t (k * 2 + 1) m ≡ take (k * 2) t ++ (i ∷ m ∷ drop (k * 2 + 2) t) =
      ap (λ (u : List ℕ). set u (k * 2 + 1) m) (sym (set-get_or t (k * 2) 0)) ∙ row_written t (k * 2) (get_or t (k * 2) 0) m (omega arith)
      ∙ ap (λ (x : ℕ). take (k * 2) t ++ (x ∷ m ∷ drop (k * 2 + 2) t)) e in (
        sym there,
        words
            ∙ put-replaced count-lawful (λ x. x.idx) first_word (λ u. refl) n t ok.laid (in-order-sorted n t ok) i (suc i) k here (behind-row n t ok i k here h e) row
            ∙ ap (table_of count_row (length t)) (sym (replaced-put i m 0 es (in-order-ascends n t ok) (ap (elem i) (indices n t) ∙ there))),
      )

  none : elem i (keys first_word 2 n t) ≡ false → (false ≡ elem i (keys first_word 2 n t)) × (t ≡ table_of count_row (length t) (replaced i m es))
  none e = (sym e, rw (replaced-none i m es (ap (elem i) (indices n t) ∙ e)) (sym (table-rows_of count-lawful n t ok.laid)))

  pub replaced-miss : k < n → (get_or t (k * 2) 0 ≡ i → ⊥) → (false ≡ elem i (keys first_word 2 n t)) × (t ≡ table_of count_row (length t) (replaced i m es))
  replaced-miss h e = none (elem-miss i 0 (keys first_word 2 n t) (in-order-sorted n t ok) (λ g q. e (sym (word_at 2 n t k h) ∙ ap (λ (j : ℕ). get_or (keys first_word 2 n t) j 0) here ∙ q)))

  pub replaced-past : n ≤ k → (false ≡ elem i (keys first_word 2 n t)) × (t ≡ table_of count_row (length t) (replaced i m es))
  replaced-past h = none (elem-miss i 0 (keys first_word 2 n t) (in-order-sorted n t ok) (λ g q. absurd (omega (arith, length-keys first_word 2 n t, g, here))))

-- whether the row at the place of the index has it
pub row-there : (n : ℕ) (t : List ℕ) → InOrder n t → (i k : ℕ) → k ≡ place i (keys first_word 2 n t) → k < n → eqb (get_or t (k * 2) 0) i ≡ elem i (keys first_word 2 n t)
row-there n t ok i k here h = go (eqb (get_or t (k * 2) 0) i) refl
  where
    go : (b : Bool) → eqb (get_or t (k * 2) 0) i ≡ b → b ≡ elem i (keys first_word 2 n t)
    go true e = (replaced-here n t ok i 0 k here h (eqb-true (get_or t (k * 2) 0) i e)).0
    go false e = (replaced-miss n t ok i 0 k here h (eqb-false (get_or t (k * 2) 0) i e)).0

-- ---- other rows of the same indices
pub record Same (n : ℕ) (t : List ℕ) (es : List Entry) (t' : List ℕ) : Type 0 where
  pub size : length t' ≡ length t
  pub ordered : InOrder n t'
  pub indexed : keys first_word 2 n t' ≡ keys first_word 2 n t
  pub spells : rows_of count_row n t' ≡ es

pub same-indices : (n : ℕ) (t : List ℕ) → InOrder n t → (es : List Entry) → map (λ e. e.idx) es ≡ map (λ e. e.idx) (rows_of count_row n t)
    → (t' : List ℕ) → t' ≡ table_of count_row (length t) es → Same n t es t'
same-indices n t ok es e t' w =
    let number : n ≡ length es =
    sym (length-rows_of count_row n t) ∙ sym (length-map (rows_of count_row n t) (λ (x : Entry). x.idx)) ∙ ap length (sym e) ∙ length-map es (λ (x : Entry). x.idx) in
    let fits : length es * 2 ≤ length t = omega (arith, ok.laid.fits) in
    let rows : rows_of count_row n t' ≡ es = rw (w, number) (rows_of-table count-lawful (length t) es) in
    record {
      size = ap length w ∙ length-table count-lawful (length t) es fits;
      ordered = rw (w, number) (in-order-table (length t) es fits (ap (ascending_from 0) e ∙ in-order-ascends n t ok));
      indexed = sym (indices n t') ∙ ap (map (λ (x : Entry). x.idx)) rows ∙ e ∙ indices n t;
      spells = rows;
    }

-- ---- a transition marked
module _ (n : ℕ) (t : List ℕ) (ok : InOrder n t) (x : CounterTransition) where
  pub mark-due : drops x ≡ true → (r : Bool) (t' : List ℕ) → r ≡ elem x.idx.0 (keys first_word 2 n t)
      → t' ≡ table_of count_row (length t) (replaced x.idx.0 x.new_raw (rows_of count_row n t))
      → (r ≡ hits (keys first_word 2 n t) x) × (t' ≡ table_of count_row (length t) (mark_one x (rows_of count_row n t)))
  unfolding mark_one
  mark-due d r t' e w = rw d (e, w)

  pub mark-other : drops x ≡ false → (false ≡ hits (keys first_word 2 n t) x) × (t ≡ table_of count_row (length t) (mark_one x (rows_of count_row n t)))
  unfolding mark_one
  mark-other d = rw d (refl, sym (table-rows_of count-lawful n t ok.laid))

  pub mark-same : (t' : List ℕ) → t' ≡ table_of count_row (length t) (mark_one x (rows_of count_row n t)) → Same n t (mark_one x (rows_of count_row n t)) t'
  mark-same t' w = same-indices n t ok (mark_one x (rows_of count_row n t)) (mark-indices x (rows_of count_row n t)) t' w

-- ---- one transition after the other
pub mark-turn : (x : CounterTransition) (xs : List CounterTransition) (es : List Entry) → marked xs (mark_one x es) ≡ marked (x ∷ xs) es
unfolding marked fold
mark-turn x xs es = refl

pub hit-turn : (ks : List ℕ) (x : CounterTransition) (xs : List CounterTransition) (hit one : Bool) → one ≡ hits ks x
    → ((hit || one) || any_hit ks xs) ≡ (hit || any_hit ks (x ∷ xs))
unfolding any_hit any
hit-turn ks x xs true one e = refl
hit-turn ks x xs false one e = rw e

none_left : (b : Bool) → (b || false) ≡ b
none_left true = refl
none_left false = refl

pub mark-done : (n : ℕ) (t t₀ : List ℕ) → InOrder n t → (ts xs : List CounterTransition) (hit : Bool) (ks : List ℕ) → xs ≡ [] → length t ≡ length t₀
    → marked xs (rows_of count_row n t) ≡ marked ts (rows_of count_row n t₀) → (hit || any_hit ks xs) ≡ any_hit ks ts
    → (hit ≡ any_hit ks ts) × (t ≡ table_of count_row (length t₀) (marked ts (rows_of count_row n t₀)))
unfolding marked fold any_hit any
mark-done n t t₀ ok ts xs hit ks e size rows hits-are = (
  sym (none_left hit) ∙ (rw e at hits-are),
  sym (table-rows_of count-lawful n t ok.laid) ∙ ap₂ (λ (k : ℕ) (l : List Entry). table_of count_row k l) size (rw e at rows),
)
