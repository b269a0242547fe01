-- A count set in the table: at each way of it, the words are the table of `set_count`, and so is the number of rows.
-- Assumes nothing.
use Rattle.std.specs.Prelude.{◌≡◌, refl, List, [], ◌∷◌, ◌++◌, ℕ, suc, ◌+◌, ◌*◌, ◌-◌, ◌≤◌, ◌<◌, eqb, Bool, true, false, length, take, drop, get_or, set}
use Rattle.std.proofs.Common.{sym, ap, ◌∙◌, arith, add-one, take-suc, le-leb, eqb-true}
use Rattle.std.proofs.Math.Decide.{dec_lt}
use Rattle.std.proofs.lemmas.List.{set_split}
use Rattle.std.proofs.Math.Seq.{append_snoc}
use Rattle.std.proofs.lemmas.Bool.{lt-leb, eqb-false}
use Rattle.base.specs.Logic.{zeros}
use Rattle.rows.specs.Table.{rows_of, table_of}
use Rattle.rows.proofs.TableLaws.{length-rows_of, table-rows_of}
use Rattle.rows.specs.Keys.{keys, first_word, place}
use Rattle.rows.proofs.KeyLaws.{put_rows, place-le, length-keys, word_at, behind-hit, behind-end, behind-miss}
use Rattle.rows.proofs.PutLaws.{put-more, put-inserted, put-none, put_same, put-replaced, put-less, put-removed}
use Rattle.counters.specs.Counts.{Entry, row_of, set_count}
use Rattle.counters.specs.Layout.{count_row}
use Rattle.counters.proofs.CodingLaws.{count-lawful}
use Rattle.counters.specs.Held.{InOrder}
use Rattle.counters.proofs.RowLaws.{in-order-sorted}

one-row : (i m : ℕ) → 2 ≤ m → row_of i m ≡ record { idx = i; count = m } ∷ []
unfolding row_of
one-row i m h = rw (le-leb 2 m h)

no_row : (i m : ℕ) → m < 2 → row_of i m ≡ []
unfolding row_of
no_row i m h = rw (lt-leb 2 m h)

-- the second word of a pair whose first is known
second_word : (t : List ℕ) (p x y : ℕ) → p + 2 ≤ length t → get_or t p 0 ≡ x → set t (p + 1) y ≡ take p t ++ ((x ∷ y ∷ []) ++ drop (p + 2) t)
second_word t p x y h e =
    let q : p + 2 ≡ suc (suc p) = omega arith in
    rw (add-one, q) (set_split t (suc p) y (omega arith) ∙ rw (take-suc t p 0 (omega arith), e) (append_snoc (take p t) x (y ∷ drop (suc (suc p)) t)))

module _ (n : ℕ) (t : List ℕ) (ok : InOrder n t) (i k : ℕ) (here : k ≡ place i (keys first_word 2 n t)) where
  pub place-within : k ≤ n
  place-within = omega (arith, place-le i (keys first_word 2 n t), length-keys first_word 2 n t)

  -- the place behind the index
  pub behind-row : k < n → get_or t (k * 2) 0 ≡ i → suc k ≡ place (suc i) (keys first_word 2 n t)
  behind-row h e =
      let l = length-keys first_word 2 n t in
      sym (behind-hit i (keys first_word 2 n t) k here ok.ascends (in-order-sorted n t ok) (omega arith) (word_at 2 n t k h ∙ e))

  pub behind-none : k < n → (get_or t (k * 2) 0 ≡ i → ⊥) → k ≡ place (suc i) (keys first_word 2 n t)
  behind-none h e =
      let l = length-keys first_word 2 n t in
      sym (behind-miss i (keys first_word 2 n t) k here (omega arith) (λ q. e (sym (word_at 2 n t k h) ∙ q)))

  pub behind-all : n ≤ k → k ≡ place (suc i) (keys first_word 2 n t)
  behind-all h =
      let l = length-keys first_word 2 n t in
      sym (behind-end i (keys first_word 2 n t) k here (omega arith))

-- ---- the four ways
module _ (n : ℕ) (t : List ℕ) (ok : InOrder n t) (i m k : ℕ) (here : k ≡ place i (keys first_word 2 n t)) where
  abbrev es : List Entry
  es = rows_of count_row n t

  abbrev row : Entry
  row = record { idx = i; count = m }

  set-one : 2 ≤ m → set_count i m es ≡ put_rows (λ e. e.idx) i (suc i) (row ∷ []) es
  unfolding set_count put_rows
  set-one h = rw (one-row i m h)

  set-none : m < 2 → set_count i m es ≡ put_rows (λ e. e.idx) i (suc i) [] es
  unfolding set_count put_rows
  set-none h = rw (no_row i m h)

  pub set-replaced : k < n → get_or t (k * 2) 0 ≡ i → 2 ≤ m
      → (n ≡ length (set_count i m es)) × (set t (k * 2 + 1) m ≡ table_of count_row (length t) (set_count i m es))
  set-replaced h e l =
      let b = behind-row n t ok i k here h e in
      let f = ok.laid.fits in
      rw (set-one l, second_word t (k * 2) i m (omega arith) e) (
        sym (put_same count-lawful (λ x. x.idx) first_word (λ u. refl) n t ok.laid (in-order-sorted n t ok) i (suc i) k here b row),
        put-replaced count-lawful (λ x. x.idx) first_word (λ u. refl) n t ok.laid (in-order-sorted n t ok) i (suc i) k here b row,
      )

  pub set-removed : k < n → get_or t (k * 2) 0 ≡ i → m < 2
      → (n - 1 ≡ length (set_count i m es))
      × (take (k * 2) t ++ (take (n * 2 - (k * 2 + 2)) (drop (k * 2 + 2) t) ++ (zeros 2 ++ drop (n * 2) t)) ≡ table_of count_row (length t) (set_count i m es))
  set-removed h e l =
      let b = behind-row n t ok i k here h e in
      rw (set-none l) (
        sym (put-less count-lawful (λ x. x.idx) first_word (λ u. refl) n t ok.laid (in-order-sorted n t ok) i (suc i) k here b),
        put-removed count-lawful (λ x. x.idx) first_word (λ u. refl) n t ok.laid (in-order-sorted n t ok) i (suc i) k here b,
      )

  module _ (behind : k ≡ place (suc i) (keys first_word 2 n t)) where
    pub room-more : 2 ≤ m → length (set_count i m es) * 2 ≤ length t → n * 2 + 2 ≤ length t
    room-more l r =
        omega (arith, ap length (set-one l), put-more count-lawful (λ x. x.idx) first_word (λ u. refl) n t ok.laid (in-order-sorted n t ok) i (suc i) k here behind row)

    pub set-inserted : 2 ≤ m → length (set_count i m es) * 2 ≤ length t
        → (n + 1 ≡ length (set_count i m es))
        × (take (k * 2) t ++ ((i ∷ m ∷ []) ++ (take (n * 2 - k * 2) (drop (k * 2) t) ++ drop (n * 2 + 2) t)) ≡ table_of count_row (length t) (set_count i m es))
    set-inserted l r =
        rw (set-one l) (
          sym (put-more count-lawful (λ x. x.idx) first_word (λ u. refl) n t ok.laid (in-order-sorted n t ok) i (suc i) k here behind row),
          put-inserted count-lawful (λ x. x.idx) first_word (λ u. refl) n t ok.laid (in-order-sorted n t ok) i (suc i) k here behind row (room-more l r),
        )

    pub set-kept : m < 2 → (n ≡ length (set_count i m es)) × (t ≡ table_of count_row (length t) (set_count i m es))
    set-kept l =
        let e : set_count i m es ≡ es = set-none l ∙ put-none count-lawful (λ x. x.idx) first_word (λ u. refl) n t ok.laid (in-order-sorted n t ok) i (suc i) k here behind in
        rw e (sym (length-rows_of count_row n t), sym (table-rows_of count-lawful n t ok.laid))

  -- a row that comes makes no fewer rows, and a row that goes no more
  more : 2 ≤ m → k ≡ place (suc i) (keys first_word 2 n t) → n ≤ length (set_count i m es)
  more l b =
      omega (arith, ap length (set-one l), put-more count-lawful (λ x. x.idx) first_word (λ u. refl) n t ok.laid (in-order-sorted n t ok) i (suc i) k here b row)

  grows_at : 2 ≤ m → k < n → (b : Bool) → eqb (get_or t (k * 2) 0) i ≡ b → n ≤ length (set_count i m es)
  grows_at l h true e = omega (arith, (set-replaced h (eqb-true (get_or t (k * 2) 0) i e) l).0)
  grows_at l h false e = more l (behind-none n t ok i k here h (eqb-false (get_or t (k * 2) 0) i e))

  pub set-grows : 2 ≤ m → n ≤ length (set_count i m es)
  set-grows l =
      elim (dec_lt k n) [ yes h ↦ grows_at l h (eqb (get_or t (k * 2) 0) i) refl | no h ↦ more l (behind-all n t ok i k here (omega arith)) ]

  shrinks-at : m < 2 → k < n → (b : Bool) → eqb (get_or t (k * 2) 0) i ≡ b → length (set_count i m es) ≤ n
  shrinks-at l h true e = omega (arith, (set-removed h (eqb-true (get_or t (k * 2) 0) i e) l).0)
  shrinks-at l h false e = omega (arith, (set-kept (behind-none n t ok i k here h (eqb-false (get_or t (k * 2) 0) i e)) l).0)

  pub set-shrinks : m < 2 → length (set_count i m es) ≤ n
  set-shrinks l =
      elim (dec_lt k n) [
        | yes h ↦ shrinks-at l h (eqb (get_or t (k * 2) 0) i) refl
        | no h ↦ omega (arith, (set-kept (behind-all n t ok i k here (omega arith)) l).0)
      ]
