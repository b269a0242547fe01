-- Rows merged from the last down: what is merged after each row, and at the end.
-- Assumes nothing.
use Rattle.std.specs.Prelude.{◌≡◌, refl, Bool, false, not, ◌&&◌, leb, length, take, drop, get_or}
use Rattle.std.proofs.Common.{sym, ap₂, ◌∙◌, le-ltb, lt-ltb, leb-true, ltb-true, ltb-false, length-append, length-drop, take-append-drop, drop_at, length-take-le, take-take, drop-drop, get_or-drop, get_or-take}
use Rattle.std.proofs.Math.Path.{ap}
use Rattle.std.proofs.Math.Bool.{true}
use mathlib.Core.List.{List, [], ◌∷◌, ◌++◌, map, append-nil}
use Prim.Native.Nat.{ℕ, suc, ◌+◌, ◌*◌, ◌-◌, ◌≤◌, ◌<◌}
use native.Mathlib.Omega.{arith}
use Rattle.std.proofs.Math.Decide.{dec_lt}
use Rattle.std.proofs.Math.Dec.{ltb}
use Rattle.std.proofs.lemmas.List.{length-replicate, replicate-append-replicate, drop-append-le, take-append-le}
use Rattle.std.proofs.Math.Seq.{paste, take_all, append_snoc}
use Rattle.std.proofs.lemmas.List.Edits.{length-paste}
use Rattle.slices.specs.Laws.{paste-right}
use Rattle.base.specs.Logic.{pick, all, elem, zeros, ascending_from}
use Rattle.base.specs.Laws.{and_left, and_right}
use Rattle.base.specs.ListLaws.{all_append, all_left, all_right, all_head}
use Rattle.rows.specs.Table.{rows_of, table_of, Laid}
use Rattle.rows.proofs.TableLaws.{length-rows_of, take-rows_of, drop-rows_of, table-rows_of, zeros-from}
use Rattle.rows.specs.Keys.{keys, first_word}
use Rattle.rows.proofs.KeyLaws.{length-keys, word_at}
use Rattle.rows.proofs.RowLaws.{elem-hit}
use Rattle.counters.specs.Counts.{Entry}
use Rattle.counters.specs.Layout.{count_row}
use Rattle.counters.proofs.CodingLaws.{count-lawful}
use Rattle.counters.specs.Steps.{row_at}
use Rattle.counters.proofs.ApplyLaws.{in-order-ascends}
use Rattle.counter_merge.specs.Passes.{joined, comes, front_last, last_at}
use Rattle.counter_merge.specs.Halves.{Apart}
use Rattle.counter_merge.specs.JoinLaws.{join-none, join_front, join-back, unlike, under, under-row, under_more}
use Rattle.counter_merge.specs.PutLaws.{comes-other}
use Rattle.counter_merge.specs.WordLaws.{rows-prefix, rows-front, row-behind, same_word, drop-front}

-- ---- which of the last rows is the last
module _ (i left at : ℕ) (t : List ℕ) (go_on : i < left) where
  abbrev low : ℕ
  low = get_or t (at + (left - i - 1) * 2) 0

  abbrev high : ℕ
  high = get_or t ((i - 1) * 2) 0

  -- what is written is that row, and the words behind it stay
  written_at : (p : ℕ) (t' : List ℕ) → t' ≡ take ((left - 1) * 2) t ++ (get_or t p 0 ∷ get_or t (p + 1) 0 ∷ drop ((left - 1) * 2 + 2) t)
      → t' ≡ take ((left - 1) * 2) t ++ (get_or t p 0 ∷ get_or t (p + 1) 0 ∷ drop (left * 2) t)
  written_at p t' e = let q : (left - 1) * 2 + 2 ≡ left * 2 = omega arith in rw q at e

  pub last-front : 0 < i → low < high → (t' : List ℕ)
      → t' ≡ take ((left - 1) * 2) t ++ (get_or t ((i - 1) * 2) 0 ∷ get_or t ((i - 1) * 2 + 1) 0 ∷ drop ((left - 1) * 2 + 2) t)
      → (i - 1 ≡ pick (front_last i left at t) (i - 1) i)
      × (t' ≡ take ((left - 1) * 2) t ++ (get_or t (last_at i left at t) 0 ∷ get_or t (last_at i left at t + 1) 0 ∷ drop (left * 2) t))
  last-front h l t' e = rw (lt-ltb 0 i h, lt-ltb low high l) (refl, written_at ((i - 1) * 2) t' e)

  pub last-back : front_last i left at t ≡ false → (t' : List ℕ)
      → t' ≡ take ((left - 1) * 2) t ++ (get_or t (at + (left - i - 1) * 2) 0 ∷ get_or t (at + (left - i - 1) * 2 + 1) 0 ∷ drop ((left - 1) * 2 + 2) t)
      → (i ≡ pick (front_last i left at t) (i - 1) i)
      × (t' ≡ take ((left - 1) * 2) t ++ (get_or t (last_at i left at t) 0 ∷ get_or t (last_at i left at t + 1) 0 ∷ drop (left * 2) t))
  last-back b t' e = rw b (refl, written_at (at + (left - i - 1) * 2) t' e)

  pub none-front : i ≤ 0 → front_last i left at t ≡ false
  none-front h = rw (le-ltb 0 i h)

  pub lower-front : high ≤ low → front_last i left at t ≡ false
  lower-front h = go (ltb 0 i)
    where
      go : (b : Bool) → (b && ltb low high) ≡ false
      go true = le-ltb low high h
      go false = refl

-- i rows at the front and left - i rows from the word at on are still to be merged; the others are, in the rows from left to n + s
pub record Merging (n at s : ℕ) (t₀ : List ℕ) (i left : ℕ) (t : List ℕ) : Type 0 where
  pub fronts : i ≤ n
  pub more : i ≤ left
  pub backs : left ≤ i + s
  pub size : length t ≡ length t₀
  pub front : take (i * 2) t ≡ take (i * 2) t₀
  pub rest : drop ((n + s) * 2) t ≡ drop ((n + s) * 2) t₀
  pub done : joined (take (left - i) (rows_of count_row s (drop at t₀))) (take i (rows_of count_row n (take at t₀))) ++ rows_of count_row (n + s - left) (drop (left * 2) t)
      ≡ joined (rows_of count_row s (drop at t₀)) (rows_of count_row n (take at t₀))

module _ (n at s : ℕ) (t₀ : List ℕ) (ok : Apart n at s t₀) where
  abbrev es : List Entry
  es = rows_of count_row n (take at t₀)

  abbrev ns : List Entry
  ns = rows_of count_row s (drop at t₀)

  pub aside-fits : at + s * 2 ≤ length t₀
  aside-fits = omega (arith, ok.halves.back.laid.fits, length-drop at t₀, ok.halves.within)

  -- ---- at the beginning
  pub merge-begin : Merging n at s t₀ n (n + s) t₀
  unfolding rows_of
  merge-begin =
      let q : n + s - n ≡ s = omega arith in
      let q₂ : n + s - (n + s) ≡ 0 = omega arith in
      record {
        fronts = omega arith;
        more = omega arith;
        backs = omega arith;
        size = refl;
        front = refl;
        rest = refl;
        done = whole q q₂;
      }
    where
      whole : n + s - n ≡ s → n + s - (n + s) ≡ 0 → joined (take (n + s - n) ns) (take n es) ++ rows_of count_row (n + s - (n + s)) (drop ((n + s) * 2) t₀) ≡ joined ns es
      whole q q₂ =
          rw (q, q₂, take_all s ns (omega (arith, length-rows_of count_row s (drop at t₀))), take_all n es (omega (arith, length-rows_of count_row n (take at t₀))))
          (append-nil (joined ns es))

  -- ---- a row merged
  module _ (i left : ℕ) (t : List ℕ) (m : Merging n at s t₀ i left t) (go_on : i < left) where
    abbrev j : ℕ
    j = left - i - 1

    -- the last row that comes, as it stands
    abbrev x : Entry
    x = row_at (drop at t₀) j

    back-word : (q : ℕ) → get_or t (at + (j * 2 + q)) 0 ≡ get_or (drop at t₀) (j * 2 + q) 0
    back-word q =
        let room = ok.room in
        let e : (n + s) * 2 + (at - (n + s) * 2 + (j * 2 + q)) ≡ at + (j * 2 + q) = omega arith in
        (rw e at (same_word ((n + s) * 2) (at - (n + s) * 2 + (j * 2 + q)) t t₀ m.rest)) ∙ sym (get_or-drop at t₀ (j * 2 + q) 0)

    back-row : take (left - i) ns ≡ take j ns ++ (x ∷ [])
    back-row =
        let b = m.backs in
        let q : left - i ≡ suc j = omega arith in
        ap (λ (k : ℕ). take k ns) q ∙ row-behind s (drop at t₀) j (omega arith)

    -- the last row at the front, as it stands
    front-word : (p : ℕ) → p < i * 2 → get_or t p 0 ≡ get_or (take at t₀) p 0
    front-word p h =
        let room = ok.room in
        let f = m.fronts in
        sym (get_or-take (i * 2) t p 0 h) ∙ ap (λ (l : List ℕ). get_or l p 0) m.front ∙ get_or-take (i * 2) t₀ p 0 h ∙ sym (get_or-take at t₀ p 0 (omega arith))

    front-row : 0 < i → take i es ≡ take (i - 1) es ++ (row_at (take at t₀) (i - 1) ∷ [])
    front-row h =
        let f = m.fronts in
        let q : i ≡ suc (i - 1) = omega arith in
        ap (λ (k : ℕ). take k es) q ∙ row-behind n (take at t₀) (i - 1) (omega arith)

    -- whichever row y is written, the rest stays
    module _ (y : Entry) (t' : List ℕ) (written : t' ≡ take ((left - 1) * 2) t ++ (y.idx ∷ y.count ∷ drop (left * 2) t)) where
      inside : left * 2 ≤ length t
      inside = omega (arith, ok.room, ok.halves.within, m.size, m.fronts, m.backs)

      head-length : length (take ((left - 1) * 2) t) ≡ (left - 1) * 2
      head-length = length-take-le ((left - 1) * 2) t (omega (arith, inside))

      tail : drop ((left - 1) * 2) t' ≡ y.idx ∷ y.count ∷ drop (left * 2) t
      tail = ap (λ (l : List ℕ). drop ((left - 1) * 2) l) written ∙ drop_at (take ((left - 1) * 2) t) (y.idx ∷ y.count ∷ drop (left * 2) t) ((left - 1) * 2) head-length

      beyond : (k : ℕ) → left * 2 ≤ k → drop k t' ≡ drop k t
      beyond k h =
          let q : (left - 1) * 2 + suc (suc (k - left * 2)) ≡ k = omega arith in
          let q₂ : left * 2 + (k - left * 2) ≡ k = omega arith in
          ap (λ (p : ℕ). drop p t') (sym q) ∙ sym (drop-drop (suc (suc (k - left * 2))) ((left - 1) * 2) t') ∙ ap (λ (l : List ℕ). drop (suc (suc (k - left * 2))) l) tail
          ∙ drop-drop (k - left * 2) (left * 2) t ∙ ap (λ (p : ℕ). drop p t) q₂

      size-after : length t' ≡ length t₀
      size-after =
          ap length written ∙ length-append (take ((left - 1) * 2) t) (y.idx ∷ y.count ∷ drop (left * 2) t)
          ∙ omega (arith, head-length, length-drop (left * 2) t, inside, m.size)

      front-after : (k : ℕ) → k ≤ i → k ≤ left - 1 → take (k * 2) t' ≡ take (k * 2) t₀
      front-after k h l =
          ap (λ (u : List ℕ). take (k * 2) u) written ∙ take-append-le (k * 2) (take ((left - 1) * 2) t) (y.idx ∷ y.count ∷ drop (left * 2) t) (omega (arith, head-length))
          ∙ take-take (k * 2) ((left - 1) * 2) t (omega arith)
          ∙ sym (take-take (k * 2) (i * 2) t (omega arith)) ∙ ap (λ (u : List ℕ). take (k * 2) u) m.front ∙ take-take (k * 2) (i * 2) t₀ (omega arith)

      rest-after : drop ((n + s) * 2) t' ≡ drop ((n + s) * 2) t₀
      rest-after = beyond ((n + s) * 2) (omega (arith, m.fronts, m.backs)) ∙ m.rest

      done-after : (k : ℕ) → joined (take (left - i) ns) (take i es) ≡ joined (take (left - 1 - k) ns) (take k es) ++ (y ∷ [])
          → joined (take (left - 1 - k) ns) (take k es) ++ rows_of count_row (n + s - (left - 1)) (drop ((left - 1) * 2) t') ≡ joined ns es
      unfolding rows_of
      done-after k e =
          let q : n + s - (left - 1) ≡ suc (n + s - left) = omega (arith, m.fronts, m.backs) in
          rw (q, tail)
          (sym (append_snoc (joined (take (left - 1 - k) ns) (take k es)) y (rows_of count_row (n + s - left) (drop (left * 2) t)))
          ∙ ap (λ (l : List Entry). l ++ rows_of count_row (n + s - left) (drop (left * 2) t)) (sym e) ∙ m.done)

    -- the rows that come before the last of them are below it
    comes-last : comes (keys first_word 2 n (take at t₀)) x ≡ true
    comes-last =
        let b = m.backs in
        let q : ns ≡ take (left - i) ns ++ drop (left - i) ns = sym (take-append-drop (left - i) ns) in
        let p : (rows_of count_row s (drop at t₀)) ≡ (take j ns ++ (x ∷ [])) ++ drop (left - i) ns = q ∙ ap (λ (l : List Entry). l ++ drop (left - i) ns) back-row in
        let c = comes (keys first_word 2 n (take at t₀)) in
        all_head c x [] (all_right c (take j ns) (x ∷ []) (all_left c (take j ns ++ (x ∷ [])) (drop (left - i) ns) (ap (all c) (sym p) ∙ ok.others)))

    back-under : under x.idx (take j ns)
    back-under =
        let p : ns ≡ take j ns ++ (x ∷ drop (left - i) ns) =
        sym (take-append-drop (left - i) ns) ∙ ap (λ (l : List Entry). l ++ drop (left - i) ns) back-row ∙ append_snoc (take j ns) x (drop (left - i) ns) in
        under-row 0 (take j ns) x (drop (left - i) ns)
        (ap (λ (l : List Entry). ascending_from 0 (map (λ e. e.idx) l)) (sym p) ∙ in-order-ascends s (drop at t₀) ok.halves.back)

    front-under : 0 < i → under (get_or (take at t₀) ((i - 1) * 2) 0) (take (i - 1) es)
    front-under h =
        let e : Entry = row_at (take at t₀) (i - 1) in
        let p : es ≡ take (i - 1) es ++ (e ∷ drop i es) =
        sym (take-append-drop i es) ∙ ap (λ (l : List Entry). l ++ drop i es) (front-row h) ∙ append_snoc (take (i - 1) es) e (drop i es) in
        under-row 0 (take (i - 1) es) e (drop i es)
        (ap (λ (l : List Entry). ascending_from 0 (map (λ e. e.idx) l)) (sym p) ∙ in-order-ascends n (take at t₀) ok.halves.front)

    under_one : (b : ℕ) (e : Entry) → e.idx < b → under b (e ∷ [])
    unfolding all
    under_one b e h = rw (lt-ltb e.idx b h)

    -- the last row is one that was there
    step-front : 0 < i → x.idx < get_or (take at t₀) ((i - 1) * 2) 0
        → joined (take (left - i) ns) (take i es) ≡ joined (take (left - 1 - (i - 1)) ns) (take (i - 1) es) ++ (row_at (take at t₀) (i - 1) ∷ [])
    step-front h l =
        let e : Entry = row_at (take at t₀) (i - 1) in
        let q : left - 1 - (i - 1) ≡ left - i = omega arith in
        let u : under e.idx (take (left - i) ns) =
        rw back-row (all_append (λ y. ltb y.idx e.idx) (take j ns) (x ∷ []) (under_more x.idx e.idx (take j ns) (omega arith) back-under) (under_one e.idx x l)) in
        rw (q, front-row h) (join_front e (take (left - i) ns) (take (i - 1) es) u)

    -- it is one that comes
    step_back : under x.idx (take i es) → joined (take (left - i) ns) (take i es) ≡ joined (take (left - 1 - i) ns) (take i es) ++ (x ∷ [])
    step_back u =
        let q : left - 1 - i ≡ j = omega arith in
        rw (q, back-row)
        (join-back x (take j ns) (take i es) (leb-true 2 x.count (and_left (leb 2 x.count) (not (elem x.idx (keys first_word 2 n (take at t₀)))) comes-last)) back-under u)

    fronts-under : (0 < i → get_or (take at t₀) ((i - 1) * 2) 0 ≤ x.idx) → under x.idx (take i es)
    unfolding all
    fronts-under h =
        elim (dec_lt 0 i) [
          | yes g ↦
              let e : Entry = row_at (take at t₀) (i - 1) in
              let f = m.fronts in
              let ks : List ℕ = keys first_word 2 n (take at t₀) in
              let there : elem e.idx ks ≡ true = elem-hit e.idx ks (i - 1) (omega (arith, length-keys first_word 2 n (take at t₀))) (word_at 2 n (take at t₀) (i - 1) (omega arith)) in
              let ne = unlike x.idx e.idx (comes-other ks e.idx there x comes-last) in
              let l : e.idx < x.idx = omega (arith, ne, h g) in
              rw (front-row g) (all_append (λ y. ltb y.idx x.idx) (take (i - 1) es) (e ∷ []) (under_more e.idx x.idx (take (i - 1) es) (omega arith) (front-under g)) (under_one x.idx e l))
          | no g ↦ let q : i ≡ 0 = omega arith in rw q
        ]

    -- the words of the last row that comes, as the code reads them
    back_index : get_or t (at + j * 2) 0 ≡ x.idx
    back_index = let q : j * 2 + 0 ≡ j * 2 = omega arith in rw q at (back-word 0)

    back_count : get_or t (at + j * 2 + 1) 0 ≡ x.count
    back_count = let q : at + (j * 2 + 1) ≡ at + j * 2 + 1 = omega arith in rw q at (back-word 1)

    pub merge_step : (r : ℕ) (t' : List ℕ) → r ≡ pick (front_last i left at t) (i - 1) i
        → t' ≡ take ((left - 1) * 2) t ++ (get_or t (last_at i left at t) 0 ∷ get_or t (last_at i left at t + 1) 0 ∷ drop (left * 2) t)
        → Merging n at s t₀ r (left - 1) t'
    merge_step r t' a b = go (front_last i left at t) refl a b
      where
        high : ℕ
        high = get_or t ((i - 1) * 2) 0

        go : (d : Bool) → front_last i left at t ≡ d → r ≡ pick d (i - 1) i
            → t' ≡ take ((left - 1) * 2) t
            ++ (get_or t (pick d ((i - 1) * 2) (at + j * 2)) 0 ∷ get_or t (pick d ((i - 1) * 2) (at + j * 2) + 1) 0 ∷ drop (left * 2) t)
            → Merging n at s t₀ r (left - 1) t'
        go true e a b =
            let pos = ltb-true 0 i (and_left (ltb 0 i) (ltb (get_or t (at + j * 2) 0) (get_or t ((i - 1) * 2) 0)) e) in
            let less = ltb-true (get_or t (at + j * 2) 0) (get_or t ((i - 1) * 2) 0) (and_right (ltb 0 i) (ltb (get_or t (at + j * 2) 0) (get_or t ((i - 1) * 2) 0)) e) in
            let y : Entry = row_at (take at t₀) (i - 1) in
            let w₀ = front-word ((i - 1) * 2) (omega arith) in
            let w₁ = front-word ((i - 1) * 2 + 1) (omega arith) in
            let w : t' ≡ take ((left - 1) * 2) t ++ (y.idx ∷ y.count ∷ drop (left * 2) t) =
            b ∙ ap₂ (λ (p q : ℕ). take ((left - 1) * 2) t ++ (p ∷ q ∷ drop (left * 2) t)) w₀ w₁ in
            let f = m.fronts in
            let g = m.backs in
            rw a record {
              fronts = omega arith;
              more = omega arith;
              backs = omega arith;
              size = size-after y t' w;
              front = front-after y t' w (i - 1) (omega arith) (omega arith);
              rest = rest-after y t' w;
              done = done-after y t' w (i - 1) (step-front pos (omega (arith, back_index)));
            }
        go false e a b =
            let w : t' ≡ take ((left - 1) * 2) t ++ (x.idx ∷ x.count ∷ drop (left * 2) t) =
            b ∙ ap₂ (λ (p q : ℕ). take ((left - 1) * 2) t ++ (p ∷ q ∷ drop (left * 2) t)) back_index back_count in
            let f = m.fronts in
            let g = m.backs in
            rw a record {
              fronts = omega arith;
              more = omega arith;
              backs = omega arith;
              size = size-after x t' w;
              front = front-after x t' w i (omega arith) (omega arith);
              rest = rest-after x t' w;
              done = done-after x t' w i (step_back (fronts-under (λ h.
                  omega (
                    arith,
                    back_index,
                    front-word ((i - 1) * 2) (omega arith),
                    ltb-false (get_or t (at + j * 2) 0) (get_or t ((i - 1) * 2) 0) (rw (lt-ltb 0 i h) at e),
                  ))));
            }

  -- ---- at the end
  module _ (i left : ℕ) (t : List ℕ) (m : Merging n at s t₀ i left t) (over : left ≤ i) where
    abbrev k : ℕ
    k = (n + s) * 2

    abbrev cleared : List ℕ
    cleared = paste t at (zeros (s * 2)) (s * 2)

    cleared-is : cleared ≡ take at t ++ (zeros (s * 2) ++ drop (at + s * 2) t)
    cleared-is =
        paste-right t at (zeros (s * 2)) (s * 2)
        ∙ rw (take_all (s * 2) (zeros (s * 2)) (omega (arith, length-replicate {A = ℕ} (s * 2) 0)))

    spells : rows_of count_row (n + s) t ≡ joined ns es
    spells =
        let e : left ≡ i = omega (arith, m.more) in
        let q : i - i ≡ 0 = omega arith in
        let f = m.fronts in
        let z = m.size in
        let room = ok.room in
        let w = ok.halves.within in
        let rest : take i es ++ rows_of count_row (n + s - i) (drop (i * 2) t) ≡ joined ns es = rw (e, q, join-none (take i es)) at m.done in
        let rows : rows_of count_row i t ≡ take i es =
        rows-prefix i t t₀ (omega arith) (omega arith) m.front ∙ sym (rows-front i at t₀ (omega arith) w) ∙ sym (take-rows_of count_row i n (take at t₀) f) in
        sym (take-append-drop i (rows_of count_row (n + s) t))
        ∙ ap₂ (λ (a b : List Entry). a ++ b) (take-rows_of count_row i (n + s) t (omega arith) ∙ rows) (drop-rows_of count_row i (n + s) t (omega arith))
        ∙ rest

    pub merge-clear : at + s * 2 ≤ length t
    merge-clear = omega (arith, ok.halves.back.laid.fits, length-drop at t₀, ok.halves.within, m.size)

    pub cleared-length : length cleared ≡ length t₀
    cleared-length = length-paste t at (zeros (s * 2)) (s * 2) merge-clear (omega (arith, length-replicate {A = ℕ} (s * 2) 0)) ∙ m.size

    between : drop k (take at t) ≡ zeros (at - k)
    between =
        let room = ok.room in
        let w = ok.halves.within in
        let z = m.size in
        let q : k + (at - k) ≡ at = omega arith in
        let l = length-take-le at t₀ w in
        let q₂ : length (take at t₀) - k ≡ at - k = omega arith in
        ap (λ (p : ℕ). drop k (take p t)) (sym q) ∙ drop-front k (at - k) t (omega arith) ∙ ap (λ (u : List ℕ). take (at - k) u) m.rest
        ∙ sym (drop-front k (at - k) t₀ (omega arith)) ∙ ap (λ (p : ℕ). drop k (take p t₀)) q
        ∙ zeros-from 2 n (take at t₀) ok.halves.front.laid k (omega arith) ∙ ap (λ (p : ℕ). zeros p) q₂

    behind : drop (at + s * 2) t ≡ zeros (length t₀ - (at + s * 2))
    behind =
        let room = ok.room in
        let l = length-drop at t₀ in
        let q : k + (at + s * 2 - k) ≡ at + s * 2 = omega arith in
        let q₂ : length (drop at t₀) - s * 2 ≡ length t₀ - (at + s * 2) = omega arith in
        ap (λ (p : ℕ). drop p t) (sym q) ∙ sym (drop-drop (at + s * 2 - k) k t) ∙ ap (λ (u : List ℕ). drop (at + s * 2 - k) u) m.rest
        ∙ drop-drop (at + s * 2 - k) k t₀ ∙ ap (λ (p : ℕ). drop p t₀) q ∙ sym (drop-drop (s * 2) at t₀) ∙ ok.halves.back.laid.rest ∙ ap (λ (p : ℕ). zeros p) q₂

    laid : Laid 2 (n + s) cleared
    laid =
        let room = ok.room in
        let w = ok.halves.within in
        let z = m.size in
        let c = merge-clear in
        let l = length-take-le at t (omega arith) in
        let q : at - k + (s * 2 + (length t₀ - (at + s * 2))) ≡ length t₀ - k = omega arith in
        record {
          fits = omega (arith, cleared-length);
          rest =
              rw cleared-length
              (ap (λ (u : List ℕ). drop k u) cleared-is ∙ drop-append-le k (take at t) (zeros (s * 2) ++ drop (at + s * 2) t) (omega arith)
              ∙ rw (
                between,
                behind,
                replicate-append-replicate {A = ℕ} (s * 2) (length t₀ - (at + s * 2)) 0,
                replicate-append-replicate {A = ℕ} (at - k) (s * 2 + (length t₀ - (at + s * 2))) 0,
                q,
              ));
        }

    pub merge-end : (n + s ≡ length (joined ns es)) × (cleared ≡ table_of count_row (length t₀) (joined ns es))
    merge-end =
        let room = ok.room in
        let w = ok.halves.within in
        let z = m.size in
        let l = length-take-le at t (omega arith) in
        let rows : rows_of count_row (n + s) cleared ≡ joined ns es =
        rows-prefix (n + s) cleared t (omega (arith, cleared-length)) (omega arith)
        (ap (λ (u : List ℕ). take k u) cleared-is ∙ take-append-le k (take at t) (zeros (s * 2) ++ drop (at + s * 2) t) (omega arith) ∙ take-take k at t room)
        ∙ spells in (
          sym (length-rows_of count_row (n + s) t) ∙ ap length spells,
          sym (table-rows_of count-lawful (n + s) cleared laid) ∙ ap₂ (λ (p : ℕ) (l : List Entry). table_of count_row p l) cleared-length rows,
        )
