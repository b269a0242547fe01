-- Rows that come, laid aside at the end of the table: what one transition leaves there for the next.
-- Assumes nothing.
use Rattle.std.specs.Prelude.{◌≡◌, refl, Bool, true, false, ℕ, ◌+◌, ◌*◌, ◌-◌, ◌≤◌, take}
use Rattle.std.proofs.Math.Path.{sym, ap, ap₂}
use Rattle.std.proofs.Common.{◌∙◌, arith, length-append, length-drop, take-append-drop, drop_of_length-le, take_at, drop_at, take_all, length-take-le}
use mathlib.Core.List.{List, [], ◌∷◌, ◌++◌, append-nil}
use Rattle.std.proofs.Math.ListN.{length, drop}
use Rattle.base.specs.Logic.{pick, elem, keep, fold}
use Rattle.base.specs.ListLaws.{length-keep}
use Rattle.rows.specs.Table.{rows_of, table_of}
use Rattle.rows.proofs.TableLaws.{length-rows_of, rows_of-table, table-rows_of, length-table}
use Rattle.rows.specs.Keys.{keys, first_word}
use Rattle.counters.specs.declared.CounterTransition.{CounterTransition}
use Rattle.counters.specs.Counts.{Entry, set_count}
use Rattle.counters.specs.Layout.{count_row}
use Rattle.counters.proofs.CodingLaws.{count-lawful}
use Rattle.counters.specs.Held.{InOrder}
use Rattle.counters.proofs.ApplyLaws.{in-order-table, in-order-ascends}
use Rattle.counter_merge.specs.Passes.{replaced, lands, is_new, front_one, fronts, new_rows, back_one, backs}
use Rattle.counter_merge.specs.Halves.{Halves}
use Rattle.counter_merge.specs.MarkLaws.{replaced-indices}
use Rattle.counter_merge.specs.TableLaws.{Same, same-indices}
use Rattle.counter_merge.specs.PutLaws.{front-indices, back-length, back-ascends}

module _ (n at s : ℕ) (t : List ℕ) (ok : Halves n at s t) where
  abbrev ks : List ℕ
  ks = keys first_word 2 n (take at t)

  abbrev es : List Entry
  es = rows_of count_row n (take at t)

  abbrev ns : List Entry
  ns = rows_of count_row s (drop at t)

  front_length : length (take at t) ≡ at
  front_length = length-take-le at t ok.within

  back-size : length (drop at t) ≡ length t - at
  back-size = length-drop at t

  -- a part lent again is the words that it was
  module _ (i m : ℕ) (y : List ℕ) (front-is : y ≡ table_of count_row (length (take at t)) (replaced i m es)) where
    same : Same n (take at t) (replaced i m es) y
    same = same-indices n (take at t) ok.front (replaced i m es) (replaced-indices i m es) y front-is

    whole : length (y ++ drop at t) ≡ length t
    whole = length-append y (drop at t) ∙ omega (arith, same.size, front_length, back-size, ok.within)

    pub back-part : take (length (y ++ drop at t) - at) (drop at (y ++ drop at t)) ≡ drop at t
    back-part =
        rw (whole, drop_at y (drop at t) at (same.size ∙ front_length)) (take_all (length t - at) (drop at t) (omega (arith, back-size)))

    pub back-room : at + length (set_count i m ns) * 2 ≤ length t
        → InOrder s (take (length (y ++ drop at t) - at) (drop at (y ++ drop at t)))
        × (length (set_count i m (rows_of count_row s (take (length (y ++ drop at t) - at) (drop at (y ++ drop at t))))) * 2
        ≤ length (take (length (y ++ drop at t) - at) (drop at (y ++ drop at t))))
    back-room h = rw back-part (ok.back, omega (arith, back-size))

  module _ (x : CounterTransition) where
    abbrev i : ℕ
    i = x.idx.0

    abbrev m : ℕ
    m = x.new_raw

    pub aside-is : lands x ≡ true → false ≡ elem i ks → back_one ks x ns ≡ set_count i m ns
    unfolding back_one
    aside-is l e = rw (l, ← e)

    pub put-found : lands x ≡ true → true ≡ elem i ks → (y : List ℕ) → y ≡ table_of count_row (length (take at t)) (replaced i m es)
        → (s ≡ length (back_one ks x ns)) × (y ++ drop at t ≡ table_of count_row at (front_one x es) ++ table_of count_row (length t - at) (back_one ks x ns))
    unfolding back_one front_one
    put-found l e y w =
        rw (l, ← e) (
          sym (length-rows_of count_row s (drop at t)),
          ap₂ (λ (a b : List ℕ). a ++ b) (w ∙ ap (λ (k : ℕ). table_of count_row k (replaced i m es)) front_length)
              (sym (table-rows_of count-lawful s (drop at t) ok.back.laid) ∙ ap (λ (k : ℕ). table_of count_row k ns) back-size),
        )

    pub put-aside : lands x ≡ true → false ≡ elem i ks → (y : List ℕ) → y ≡ table_of count_row (length (take at t)) (replaced i m es)
        → (r : ℕ) (z : List ℕ) → r ≡ length (set_count i m (rows_of count_row s (take (length (y ++ drop at t) - at) (drop at (y ++ drop at t)))))
        → z ≡ table_of count_row (length (take (length (y ++ drop at t) - at) (drop at (y ++ drop at t)))) (set_count i m (rows_of count_row s (take (length (y ++ drop at t) - at) (drop at (y ++ drop at t)))))
        → (r ≡ length (back_one ks x ns))
        × (take at (y ++ drop at t) ++ (z ++ drop (length (y ++ drop at t) - at) (drop at (y ++ drop at t)))
        ≡ table_of count_row at (front_one x es) ++ table_of count_row (length t - at) (back_one ks x ns))
    unfolding back_one front_one
    put-aside l e y w r z a b =
        let part = back-part i m y w in
        let size = (same i m y w).size ∙ front_length in
        let z-is : z ≡ table_of count_row (length t - at) (set_count i m ns) = (rw (part, back-size) at b) in
        let r-is : r ≡ length (set_count i m ns) = (rw part at a) in
        let none : drop (length (y ++ drop at t) - at) (drop at (y ++ drop at t)) ≡ [] =
        rw (drop_at y (drop at t) at size) (drop_of_length-le (drop at t) {i = length (y ++ drop at t) - at} (omega (arith, whole i m y w, back-size))) in
        rw (l, ← e) (
          r-is,
          ap₂ (λ (a b : List ℕ). a ++ b) (take_at y (drop at t) at size ∙ w ∙ ap (λ (k : ℕ). table_of count_row k (replaced i m es)) front_length)
              (ap (λ (u : List ℕ). z ++ u) none ∙ append-nil z ∙ z-is),
        )

    pub put_other : lands x ≡ false → (s ≡ length (back_one ks x ns)) × (t ≡ table_of count_row at (front_one x es) ++ table_of count_row (length t - at) (back_one ks x ns))
    unfolding back_one front_one
    put_other l =
        rw l (
          sym (length-rows_of count_row s (drop at t)),
          sym (take-append-drop at t)
              ∙ ap₂ (λ (a b : List ℕ). a ++ b) (sym (table-rows_of count-lawful n (take at t) ok.front.laid) ∙ ap (λ (k : ℕ). table_of count_row k es) front_length)
              (sym (table-rows_of count-lawful s (drop at t) ok.back.laid) ∙ ap (λ (k : ℕ). table_of count_row k ns) back-size),
        )

    -- what one leaves for the next
    module _ (room : at + length (back_one ks x ns) * 2 ≤ length t) (r : ℕ) (t' : List ℕ) (number : r ≡ length (back_one ks x ns))
        (words : t' ≡ table_of count_row at (front_one x es) ++ table_of count_row (length t - at) (back_one ks x ns)) where
      front-table : Same n (take at t) (front_one x es) (table_of count_row at (front_one x es))
      front-table = same-indices n (take at t) ok.front (front_one x es) (front-indices x es) (table_of count_row at (front_one x es)) (ap (λ (k : ℕ). table_of count_row k (front_one x es)) (sym front_length))

      front-size : length (table_of count_row at (front_one x es)) ≡ at
      front-size = front-table.size ∙ front_length

      pub put-more : r ≤ s + pick (is_new ks x) 1 0
      put-more = omega (arith, back-length x ks ns, length-rows_of count_row s (drop at t))

      back_fits : length (back_one ks x ns) * 2 ≤ length t - at
      back_fits = omega arith

      front-after : take at t' ≡ table_of count_row at (front_one x es)
      front-after = ap (λ (u : List ℕ). take at u) words ∙ take_at (table_of count_row at (front_one x es)) (table_of count_row (length t - at) (back_one ks x ns)) at front-size

      back-after : drop at t' ≡ table_of count_row (length t - at) (back_one ks x ns)
      back-after = ap (λ (u : List ℕ). drop at u) words ∙ drop_at (table_of count_row at (front_one x es)) (table_of count_row (length t - at) (back_one ks x ns)) at front-size

      pub put-size : length t' ≡ length t
      put-size =
          ap length words ∙ length-append (table_of count_row at (front_one x es)) (table_of count_row (length t - at) (back_one ks x ns))
          ∙ omega (arith, front-size, length-table count-lawful (length t - at) (back_one ks x ns) back_fits, ok.within)

      pub put-halves : Halves n at r t'
      put-halves =
          record {
            front = rw front-after front-table.ordered;
            back = rw (back-after, number) (in-order-table (length t - at) (back_one ks x ns) back_fits (back-ascends x ks ns (in-order-ascends s (drop at t) ok.back)));
            within = omega (arith, put-size, ok.within);
          }

      pub put-keys : keys first_word 2 n (take at t') ≡ ks
      put-keys = rw front-after front-table.indexed

      pub put-fronts : rows_of count_row n (take at t') ≡ front_one x es
      put-fronts = rw front-after front-table.spells

      pub put-backs : rows_of count_row r (drop at t') ≡ back_one ks x ns
      put-backs = rw (back-after, number) (rows_of-table count-lawful (length t - at) (back_one ks x ns))

-- ---- one transition after the other
pub front-turn : (x : CounterTransition) (xs : List CounterTransition) (es : List Entry) → fronts xs (front_one x es) ≡ fronts (x ∷ xs) es
unfolding fronts fold
front-turn x xs es = refl

pub back-turn : (ks : List ℕ) (x : CounterTransition) (xs : List CounterTransition) (ns : List Entry) → backs ks xs (back_one ks x ns) ≡ backs ks (x ∷ xs) ns
unfolding backs fold
back-turn ks x xs ns = refl

pub no_rows : (t : List ℕ) → rows_of count_row 0 t ≡ []
unfolding rows_of
no_rows t = refl

pub put-done : (n at s : ℕ) (t t₀ : List ℕ) → Halves n at s t → (ts xs : List CounterTransition) (ks : List ℕ) → xs ≡ [] → length t ≡ length t₀
    → fronts xs (rows_of count_row n (take at t)) ≡ fronts ts (rows_of count_row n (take at t₀)) → backs ks xs (rows_of count_row s (drop at t)) ≡ backs ks ts []
    → (s ≡ length (backs ks ts []))
    × (t ≡ table_of count_row at (fronts ts (rows_of count_row n (take at t₀))) ++ table_of count_row (length t₀ - at) (backs ks ts []))
unfolding fronts backs fold
put-done n at s t t₀ ok ts xs ks e size a b =
    let a' : rows_of count_row n (take at t) ≡ fronts ts (rows_of count_row n (take at t₀)) = rw e at a in
    let b' : rows_of count_row s (drop at t) ≡ backs ks ts [] = rw e at b in (
      sym (length-rows_of count_row s (drop at t)) ∙ ap length b',
      sym (take-append-drop at t)
          ∙ ap₂ (λ (u v : List ℕ). u ++ v)
          (sym (table-rows_of count-lawful n (take at t) ok.front.laid) ∙ ap₂ (λ (k : ℕ) (l : List Entry). table_of count_row k l) (length-take-le at t ok.within) a')
          (sym (table-rows_of count-lawful s (drop at t) ok.back.laid) ∙ ap₂ (λ (k : ℕ) (l : List Entry). table_of count_row k l) (length-drop at t ∙ ap (λ (k : ℕ). k - at) size) b'),
    )

-- ---- how many are new
pub new-more : (ks : List ℕ) (x : CounterTransition) (xs : List CounterTransition) → new_rows ks (x ∷ xs) ≡ pick (is_new ks x) 1 0 + new_rows ks xs
new-more ks x xs = length-keep (is_new ks) x xs

pub new_none : (ks : List ℕ) → new_rows ks [] ≡ 0
unfolding keep
new_none ks = refl

pub new-one : (b : Bool) → pick b 1 0 ≤ 1
new-one true = omega arith
new-one false = omega arith

-- one transition: no row is new where it leaves none, or where there is a row of its index
module _ (ks : List ℕ) (x : CounterTransition) where
  pub new-not : lands x ≡ false → ◌≡◌ {A = ℕ} 0 (pick (is_new ks x) 1 0)
  new-not l = rw l

  pub new-there : lands x ≡ true → true ≡ elem x.idx.0 ks → ◌≡◌ {A = ℕ} 0 (pick (is_new ks x) 1 0)
  new-there l e = rw (l, ← e)

  pub new-here : lands x ≡ true → false ≡ elem x.idx.0 ks → ◌≡◌ {A = ℕ} 1 (pick (is_new ks x) 1 0)
  new-here l e = rw (l, ← e)

-- there is room for a row as long as the new rows to come have room
module _ (n at s : ℕ) (t t₀ : List ℕ) (same_keys : keys first_word 2 n (take at t) ≡ keys first_word 2 n (take at t₀)) where
  pub room_for : length t ≡ length t₀ → (x : CounterTransition) (xs r : List CounterTransition) → xs ≡ x ∷ r → (ts : List CounterTransition)
      → s + new_rows (keys first_word 2 n (take at t₀)) xs ≤ new_rows (keys first_word 2 n (take at t₀)) ts
      → at + new_rows (keys first_word 2 n (take at t₀)) ts * 2 ≤ length t₀
      → at + length (back_one (keys first_word 2 n (take at t)) x (rows_of count_row s (drop at t))) * 2 ≤ length t
  room_for size x xs r e ts h room =
      let ks = keys first_word 2 n (take at t₀) in
      rw same_keys
      (omega (
        arith,
        back-length x ks (rows_of count_row s (drop at t)),
        length-rows_of count_row s (drop at t),
        ap (λ (l : List CounterTransition). new_rows ks l) e,
        new-more ks x r,
      ))

  pub room-left : (x : CounterTransition) (xs r : List CounterTransition) → xs ≡ x ∷ r → (ts : List CounterTransition)
      → s + new_rows (keys first_word 2 n (take at t₀)) xs ≤ new_rows (keys first_word 2 n (take at t₀)) ts
      → (s' : ℕ) → s' ≤ s + pick (is_new (keys first_word 2 n (take at t)) x) 1 0
      → s' + new_rows (keys first_word 2 n (take at t₀)) r ≤ new_rows (keys first_word 2 n (take at t₀)) ts
  room-left x xs r e ts h s' m =
      let ks = keys first_word 2 n (take at t₀) in
      omega (arith, ap (λ (l : List CounterTransition). new_rows ks l) e, new-more ks x r, rw same_keys at m)
