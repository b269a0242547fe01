-- The words of rows as they move.
-- Assumes nothing.
use Rattle.std.specs.Prelude.{◌≡◌, refl, Bool, true, false, List, [], ◌∷◌, ◌++◌, ℕ, suc, ◌+◌, ◌*◌, ◌-◌, ◌≤◌, ◌<◌, leb, length, take, drop, get_or, set}
use Rattle.std.proofs.Common.{sym, ap, ◌∙◌, append_assoc, add-one, le-leb, length-append, length-drop, length-set, take-append-drop, take-add, take_all, take-suc-set, drop-set-lt, take_at, drop_at, length-take-le, take-take, drop-drop, get_or-drop}
use native.Mathlib.Omega.{arith}
use Rattle.std.proofs.lemmas.Bool.{lt-leb}
use Rattle.std.proofs.lemmas.List.{length-replicate, replicate-append-replicate, set_split}
use Rattle.std.proofs.Math.Seq.{paste, drop-append-add, append_snoc}
use Rattle.slices.specs.Laws.{paste-right}
use Rattle.base.specs.Logic.{pick, keep, flat, zeros}
use Rattle.base.specs.Laws.{flat_append}
use Rattle.base.specs.ListLaws.{keep_append}
use Rattle.rows.specs.Table.{rows_of, table_of, Laid}
use Rattle.rows.proofs.TableLaws.{rows_of-words, length-words, length-rows_of, words-rows_of}
use Rattle.counters.specs.Counts.{Entry}
use Rattle.counters.specs.Layout.{count_row}
use Rattle.counters.proofs.CodingLaws.{count-lawful}
use Rattle.counters.proofs.RowLaws.{from_row}
use Rattle.counters.specs.Steps.{row_at}
use Rattle.counter_merge.specs.Passes.{stands, standing}

-- ---- a row written word by word
pub row_written : (t : List ℕ) (to a b : ℕ) → to + 2 ≤ length t → set (set t to a) (to + 1) b ≡ take to t ++ (a ∷ b ∷ drop (to + 2) t)
row_written t to a b h =
    let q : to + 2 ≡ suc (suc to) = omega arith in
    rw (add-one, q)
    (set_split (set t to a) (suc to) b (rw (length-set t to a) (omega arith))
    ∙ rw (take-suc-set t to a (omega arith), drop-set-lt (suc (suc to)) t to a (omega arith)) (append_snoc (take to t) a (b ∷ drop (suc (suc to)) t)))

-- ---- one row kept, or left out
standing-yes : (e : Entry) → 2 ≤ e.count → standing (e ∷ []) ≡ e ∷ []
unfolding standing keep
standing-yes e h = rw (le-leb 2 e.count h)

standing-no : (e : Entry) → e.count < 2 → standing (e ∷ []) ≡ []
unfolding standing keep
standing-no e h = rw (lt-leb 2 e.count h)

module _ (t : List ℕ) (i to : ℕ) where
  pub row_kept : 2 ≤ get_or t (i * 2 + 1) 0 → (t' : List ℕ) → t' ≡ take (to * 2) t ++ (get_or t (i * 2) 0 ∷ get_or t (i * 2 + 1) 0 ∷ drop (to * 2 + 2) t)
      → (to + 1 ≡ to + length (standing (row_at t i ∷ [])))
      × (t' ≡ take (to * 2) t ++ (flat count_row.enc (standing (row_at t i ∷ [])) ++ drop ((to + length (standing (row_at t i ∷ []))) * 2) t))
  unfolding flat
  row_kept h t' e =
      let q : (to + 1) * 2 ≡ to * 2 + 2 = omega arith in
      rw (standing-yes (row_at t i) h) (refl, rw q e)

  pub row-left : get_or t (i * 2 + 1) 0 < 2
      → (to ≡ to + length (standing (row_at t i ∷ [])))
      × (t ≡ take (to * 2) t ++ (flat count_row.enc (standing (row_at t i ∷ [])) ++ drop ((to + length (standing (row_at t i ∷ []))) * 2) t))
  unfolding flat
  row-left h =
      let q : (to + 0) * 2 ≡ to * 2 = omega arith in
      rw (standing-no (row_at t i) h) (omega arith, rw q (sym (take-append-drop (to * 2) t)))

-- none is kept at first
pub none_kept : ([] ≡ flat count_row.enc (standing [])) × (0 ≡ length (standing []))
unfolding standing keep flat
none_kept = (refl, refl)

-- ---- rows by their words
-- the words before and from a place on
pub drop-front : (m k : ℕ) (t : List ℕ) → m ≤ length t → drop m (take (m + k) t) ≡ take k (drop m t)
drop-front m k t h = ap (λ (l : List ℕ). drop m l) (take-add m k t) ∙ drop_at (take m t) (take k (drop m t)) m (length-take-le m t h)

-- the same words spell the same rows
pub rows-prefix : (i : ℕ) (t u : List ℕ) → i * 2 ≤ length t → i * 2 ≤ length u → take (i * 2) t ≡ take (i * 2) u → rows_of count_row i t ≡ rows_of count_row i u
rows-prefix i t u h k e = sym (spelled t h) ∙ ap (λ (l : List ℕ). rows_of count_row i (l ++ [])) e ∙ spelled u k
  where
    spelled : (t : List ℕ) → i * 2 ≤ length t → rows_of count_row i (take (i * 2) t ++ []) ≡ rows_of count_row i t
    spelled t h =
        rw (length-rows_of count_row i t, words-rows_of count-lawful i t h) at (rows_of-words count-lawful (rows_of count_row i t) [])

-- rows in the words before a place
pub rows-front : (i at : ℕ) (t : List ℕ) → i * 2 ≤ at → at ≤ length t → rows_of count_row i (take at t) ≡ rows_of count_row i t
rows-front i at t h k = rows-prefix i (take at t) t (rw (length-take-le at t k) h) (omega arith) (take-take (i * 2) at t h)

-- one row more
pub row-behind : (n : ℕ) (t : List ℕ) (i : ℕ) → i < n → take (suc i) (rows_of count_row n t) ≡ take i (rows_of count_row n t) ++ (row_at t i ∷ [])
row-behind n t i h =
    let q : i + 1 ≡ suc i = omega arith in
    ap (λ (k : ℕ). take k (rows_of count_row n t)) (sym q) ∙ take-add i 1 (rows_of count_row n t)
    ∙ ap (λ (l : List Entry). take i (rows_of count_row n t) ++ take 1 l) (from_row n t i h)

-- ---- the rows that stand, moved down one by one
standing-append : (xs ys : List Entry) → standing (xs ++ ys) ≡ standing xs ++ standing ys
unfolding standing
standing-append xs ys = keep_append stands xs ys

one_at_most : (e : Entry) → length (standing (e ∷ [])) ≤ 1
unfolding standing keep
one_at_most e = go (leb 2 e.count)
  where
    go : (b : Bool) → length (pick b (e ∷ []) []) ≤ 1
    go true = omega arith
    go false = omega arith

pub same_word : (p q : ℕ) (t u : List ℕ) → drop p t ≡ drop p u → get_or t (p + q) 0 ≡ get_or u (p + q) 0
same_word p q t u e = sym (get_or-drop p t q 0) ∙ ap (λ (l : List ℕ). get_or l q 0) e ∙ get_or-drop p u q 0

module _ (n : ℕ) (t₀ : List ℕ) (fits : n * 2 ≤ length t₀) (i to : ℕ) (t : List ℕ) (inside : i < n) (low : to ≤ i) (size : length t ≡ length t₀)
    (rest : drop (i * 2) t ≡ drop (i * 2) t₀)
    (words : take (to * 2) t ≡ flat count_row.enc (standing (take i (rows_of count_row n t₀))))
    (number : to ≡ length (standing (take i (rows_of count_row n t₀))))
    (t' : List ℕ) (written : t' ≡ take (to * 2) t ++ (flat count_row.enc (standing (row_at t i ∷ [])) ++ drop ((to + length (standing (row_at t i ∷ []))) * 2) t)) where
  abbrev es : List Entry
  es = rows_of count_row n t₀

  abbrev row : List Entry
  row = standing (row_at t i ∷ [])

  abbrev moved : List ℕ
  moved = take (to * 2) t ++ flat count_row.enc row

  same_row : row_at t i ≡ row_at t₀ i
  same_row =
      let q : i * 2 + 0 ≡ i * 2 = omega arith in
      λ k. record { idx = (rw q at (same_word (i * 2) 0 t t₀ rest)) k; count = same_word (i * 2) 1 t t₀ rest k }

  more : standing (take (suc i) es) ≡ standing (take i es) ++ row
  more = ap standing (row-behind n t₀ i inside ∙ ap (λ (e : Entry). take i es ++ (e ∷ [])) (sym same_row)) ∙ standing-append (take i es) (row_at t i ∷ [])

  moved_length : length moved ≡ (to + length row) * 2
  moved_length =
      let l = length-take-le (to * 2) t (omega arith) in
      simp (length-append, length-words count-lawful row) (omega arith)

  joined_words : t' ≡ moved ++ drop ((to + length row) * 2) t
  joined_words = written ∙ sym (append_assoc (take (to * 2) t) (flat count_row.enc row) (drop ((to + length row) * 2) t))

  pub kept_low : to + length row ≤ suc i
  kept_low = omega (arith, one_at_most (row_at t i))

  pub kept-size : length t' ≡ length t₀
  kept-size =
      let l = one_at_most (row_at t i) in
      let r : (to + length row) * 2 ≤ length t = omega arith in
      ap length joined_words ∙ length-append moved (drop ((to + length row) * 2) t) ∙ omega (arith, moved_length, length-drop ((to + length row) * 2) t)

  pub kept-rest : drop (suc i * 2) t' ≡ drop (suc i * 2) t₀
  kept-rest =
      let a : ℕ = (to + length row) * 2 in
      let l = one_at_most (row_at t i) in
      let q : suc i * 2 ≡ length moved + (suc i * 2 - a) = omega (arith, moved_length) in
      let q₂ : a + (suc i * 2 - a) ≡ i * 2 + 2 = omega arith in
      let q₃ : i * 2 + 2 ≡ suc i * 2 = omega arith in
      ap (λ (l : List ℕ). drop (suc i * 2) l) joined_words
      ∙ ap (λ (k : ℕ). drop k (moved ++ drop a t)) q
      ∙ drop-append-add moved (drop a t) (suc i * 2 - a)
      ∙ drop-drop (suc i * 2 - a) a t ∙ ap (λ (k : ℕ). drop k t) q₂
      ∙ sym (drop-drop 2 (i * 2) t) ∙ ap (λ (l : List ℕ). drop 2 l) rest ∙ drop-drop 2 (i * 2) t₀ ∙ ap (λ (k : ℕ). drop k t₀) q₃

  pub kept-words : take ((to + length row) * 2) t' ≡ flat count_row.enc (standing (take (suc i) es))
  kept-words =
      ap (λ (l : List ℕ). take ((to + length row) * 2) l) joined_words
      ∙ take_at moved (drop ((to + length row) * 2) t) ((to + length row) * 2) moved_length
      ∙ ap (λ (l : List ℕ). l ++ flat count_row.enc row) words
      ∙ sym (ap (flat count_row.enc) more ∙ flat_append count_row.enc (standing (take i es)) row)

  pub kept-number : to + length row ≡ length (standing (take (suc i) es))
  kept-number = sym (ap length more ∙ length-append (standing (take i es)) row ∙ ap (λ (k : ℕ). k + length row) (sym number))

-- and zeros behind them
pub compacted : (n : ℕ) (t₀ : List ℕ) → Laid 2 n t₀ → (to : ℕ) (t : List ℕ) → to ≤ n → length t ≡ length t₀ → drop (n * 2) t ≡ drop (n * 2) t₀
    → take (to * 2) t ≡ flat count_row.enc (standing (take n (rows_of count_row n t₀))) → to ≡ length (standing (take n (rows_of count_row n t₀)))
    → (to ≡ length (standing (rows_of count_row n t₀)))
    × (paste t (to * 2) (zeros ((n - to) * 2)) ((n - to) * 2) ≡ table_of count_row (length t₀) (standing (rows_of count_row n t₀)))
unfolding table_of
compacted n t₀ laid to t low size rest words number =
    let whole : take n (rows_of count_row n t₀) ≡ rows_of count_row n t₀ = take_all n (rows_of count_row n t₀) (omega (arith, length-rows_of count_row n t₀)) in
    let count : to ≡ length (standing (rows_of count_row n t₀)) = number ∙ ap (λ (l : List Entry). length (standing l)) whole in
    let k : ℕ = (n - to) * 2 in
    let f = laid.fits in
    let z : take k (zeros k) ≡ zeros k = take_all k (zeros k) (omega (arith, length-replicate {A = ℕ} k 0)) in
    let q : to * 2 + k ≡ n * 2 = omega arith in
    let q₂ : k + (length t₀ - n * 2) ≡ length t₀ - to * 2 = omega arith in
    let q₃ : length t₀ - to * 2 ≡ length t₀ - length (standing (rows_of count_row n t₀)) * 2 = omega arith in (
      count,
      paste-right t (to * 2) (zeros k) k
          ∙ rw (z, q, rest, laid.rest, replicate-append-replicate {A = ℕ} k (length t₀ - n * 2) 0, q₂, words, whole, q₃),
    )
