-- The waiting rows that a test keeps, moved together one row at a time: `Keeping` is what holds between two rows.
-- Assumes nothing.
use Rattle.std.specs.Prelude.{◌≡◌, Bool, false, drop, eqb, ltb}
use Rattle.std.proofs.Math.Path.{refl, sym}
use Rattle.std.proofs.Common.{◌∙◌, length-drop, take_all, get_or-drop}
use Rattle.std.proofs.Math.Bool.{true}
use mathlib.Core.List.{List, [], ◌∷◌, ◌++◌, append-nil}
use Prim.Native.Nat.{ℕ, suc, ◌+◌, ◌*◌, ◌-◌, ◌≤◌, ◌<◌}
use Rattle.std.proofs.Math.Numerals.{add-one}
use Rattle.std.proofs.Math.Decide.{ℕ_discrete}
use native.Mathlib.Omega.{arith}
use Rattle.std.proofs.Math.ListN.{length, length-append, replicate-append-replicate}
use Rattle.std.proofs.lemmas.List.{length-replicate}
use Rattle.std.proofs.Math.Seq.{paste, take-suc, take-paste, length-paste, drop-drop}
use borrow.Author.Tests.{ne_eqb, eq-eqb, le-ltb, ltb-false}
use Rattle.base.specs.Logic.{pick, keep, flat, zeros}
use Rattle.base.specs.Laws.{flat_append}
use Rattle.base.specs.ListLaws.{keep_append}
use Rattle.slices.specs.Laws.{paste-right, drop-paste-after}
use Rattle.rows.specs.declared.Wide.{Wide}
use Rattle.rows.specs.Table.{rows_of, table_of}
use Rattle.rows.proofs.TableLaws.{length-rows_of, take-rows_of, row_at}
use Rattle.rows.specs.Keys.{first_four}
use Rattle.rows.specs.Wide.{key_of}
use Rattle.rows.proofs.WideLaws.{Words, by_first, by-second, by-third, by-fourth}
use Rattle.cell_nursery.specs.Layout.{hash_of, hash_at, WaitingRow, waiting_row}
use Rattle.cell_nursery.proofs.CodingLaws.{waiting-lawful}
use Rattle.cell_nursery.specs.Held.{Keeping}

-- the hash of a waiting row whose words begin at a place
pub hash-behind : (a : ℕ) (t : List ℕ) → hash_of (hash_at 1 (drop a t)) ≡ first_four (drop (a + 1) t)
unfolding hash_of first_four
hash-behind a t =
    let q₀ : a + 1 + 0 ≡ a + 1 = omega arith in
    let q₁ : a + 1 + 1 ≡ a + 2 = omega arith in
    let q₂ : a + 1 + 2 ≡ a + 3 = omega arith in
    let q₃ : a + 1 + 3 ≡ a + 4 = omega arith in
    rw (
      get_or-drop a t 1 0,
      get_or-drop a t 2 0,
      get_or-drop a t 3 0,
      get_or-drop a t 4 0,
      get_or-drop (a + 1) t 0 0,
      get_or-drop (a + 1) t 1 0,
      get_or-drop (a + 1) t 2 0,
      get_or-drop (a + 1) t 3 0,
      q₀,
      q₁,
      q₂,
      q₃,
    )

-- ---- equal keys have equal words
apart : (x y u v : ℕ) → ltb x y ≡ ltb u v → ltb y x ≡ ltb v u → (x ≡ y → ⊥) → eqb u v ≡ false
apart x y u v e f ne =
    ne_eqb u v (λ q.
    let a = ltb-false x y (e ∙ le-ltb u v (omega arith)) in
    let b = ltb-false y x (f ∙ le-ltb v u (omega arith)) in
    ne (omega arith))

module _ (a b : Wide) (ha : Words a) (hb : Words b) where
  pub differ-first : (a.0 ≡ b.0 → ⊥) → eqb (key_of a) (key_of b) ≡ false
  differ-first ne = apart a.0 b.0 (key_of a) (key_of b) (by_first a b ha hb ne) (by_first b a hb ha (λ q. ne (sym q))) ne

  module _ (e₀ : a.0 ≡ b.0) where
    pub differ-second : (a.1 ≡ b.1 → ⊥) → eqb (key_of a) (key_of b) ≡ false
    differ-second ne = apart a.1 b.1 (key_of a) (key_of b) (by-second a b ha hb e₀ ne) (by-second b a hb ha (sym e₀) (λ q. ne (sym q))) ne

    module _ (e₁ : a.1 ≡ b.1) where
      pub differ-third : (a.2 ≡ b.2 → ⊥) → eqb (key_of a) (key_of b) ≡ false
      differ-third ne = apart a.2 b.2 (key_of a) (key_of b) (by-third a b ha hb e₀ e₁ ne) (by-third b a hb ha (sym e₀) (sym e₁) (λ q. ne (sym q))) ne

      module _ (e₂ : a.2 ≡ b.2) where
        pub by_last : eqb a.3 b.3 ≡ eqb (key_of a) (key_of b)
        unfolding key_of
        by_last =
            elim (ℕ_discrete a.3 b.3) [
              | yes q ↦ rw (e₀, e₁, e₂, q, eq-eqb b.3 b.3 refl, eq-eqb (key_of b) (key_of b) refl)
              | no ne ↦ ne_eqb a.3 b.3 ne ∙ sym (apart a.3 b.3 (key_of a) (key_of b) (by-fourth a b ha hb e₀ e₁ e₂) (by-fourth b a hb ha (sym e₀) (sym e₁) (sym e₂)) ne)
            ]

-- ---- rows kept
module _ (p : WaitingRow → Bool) (n : ℕ) (t₀ : List ℕ) where
  pub keeping_start : Keeping p n t₀ t₀ 0 0
  unfolding rows_of keep flat
  keeping_start = record { within = omega arith; fewer = omega arith; size = refl; number = refl; front = refl; behind = refl }

module _ (p : WaitingRow → Bool) (n : ℕ) (t₀ : List ℕ) (fits : n * 5 ≤ length t₀) where
  next-kept : (i : ℕ) → i < n → keep p (rows_of waiting_row (suc i) t₀) ≡ keep p (rows_of waiting_row i t₀) ++ pick (p (waiting_row.dec (drop (i * 5) t₀))) (waiting_row.dec (drop (i * 5) t₀) ∷ []) []
  unfolding keep
  next-kept i l =
      let d : WaitingRow = waiting_row.dec t₀ in
      let rs : List WaitingRow = rows_of waiting_row n t₀ in
      let count : length rs ≡ n = length-rows_of waiting_row n t₀ in
      let one : rows_of waiting_row (suc i) t₀ ≡ rows_of waiting_row i t₀ ++ (waiting_row.dec (drop (i * 5) t₀) ∷ []) =
      sym (take-rows_of waiting_row (suc i) n t₀ l) ∙ take-suc rs i d (omega arith) ∙ rw (take-rows_of waiting_row i n t₀ (omega arith), row_at waiting_row n t₀ i d l) in
      rw one (keep_append p (rows_of waiting_row i t₀) (waiting_row.dec (drop (i * 5) t₀) ∷ []))

  module _ (t : List ℕ) (i j : ℕ) (m : Keeping p n t₀ t i j) (l : i < n) where
    row-left : waiting_row.dec (drop (i * 5) t) ≡ waiting_row.dec (drop (i * 5) t₀)
    row-left = rw m.behind

    keeping_gone : p (waiting_row.dec (drop (i * 5) t)) ≡ false → Keeping p n t₀ t (i + 1) j
    keeping_gone gone =
        let q : suc i * 5 ≡ i * 5 + 5 = omega arith in
        let test : p (waiting_row.dec (drop (i * 5) t₀)) ≡ false = rw row-left at gone in
        let kept : keep p (rows_of waiting_row (suc i) t₀) ≡ keep p (rows_of waiting_row i t₀) = rw (next-kept i l, test) (append-nil (keep p (rows_of waiting_row i t₀))) in
        rw (add-one i)
        (record {
          within = l;
          fewer = omega (arith, m.fewer);
          size = m.size;
          number = rw kept m.number;
          front = rw kept m.front;
          behind = rw (q, ← drop-drop 5 (i * 5) t, m.behind) (drop-drop 5 (i * 5) t₀);
        })

    keeping-kept : p (waiting_row.dec (drop (i * 5) t)) ≡ true → Keeping p n t₀ (paste t (j * 5) (drop (i * 5) t) 5) (i + 1) (j + 1)
    unfolding flat
    keeping-kept stays =
        let q : suc i * 5 ≡ i * 5 + 5 = omega arith in
        let q₂ : suc j * 5 ≡ j * 5 + 5 = omega arith in
        let size = m.size in
        let fewer = m.fewer in
        let r : WaitingRow = waiting_row.dec (drop (i * 5) t) in
        let old : List WaitingRow = keep p (rows_of waiting_row i t₀) in
        let test : p (waiting_row.dec (drop (i * 5) t₀)) ≡ true = rw row-left at stays in
        let kept : keep p (rows_of waiting_row (suc i) t₀) ≡ old ++ (r ∷ []) = rw (next-kept i l, test, row-left) in
        let enough : 5 ≤ length (drop (i * 5) t) = rw (length-drop (i * 5) t) (omega arith) in
        let there : j * 5 ≤ length t = omega arith in
        rw (add-one i, add-one j)
        (record {
          within = l;
          fewer = omega arith;
          size = length-paste t (j * 5) (drop (i * 5) t) 5 (omega arith) enough ∙ size;
          number = rw kept (simp length-append (omega (arith, m.number)));
          front =
              rw (kept, q₂, take-paste t (j * 5) (drop (i * 5) t) 5 there enough, m.front, ← waiting-lawful.forth (drop (i * 5) t) enough)
              (sym (flat_append waiting_row.enc old (r ∷ [])));
          behind =
              rw (q, drop-paste-after t (j * 5) (drop (i * 5) t) 5 there enough (i * 5 + 5) (omega arith), ← drop-drop 5 (i * 5) t, m.behind) (drop-drop 5 (i * 5) t₀);
        })

    -- a row is looked at
    pub keeping-turn : Keeping p n t₀ (pick (p (waiting_row.dec (drop (i * 5) t))) (paste t (j * 5) (drop (i * 5) t) 5) t) (i + 1) (pick (p (waiting_row.dec (drop (i * 5) t))) (j + 1) j)
    keeping-turn = go (p (waiting_row.dec (drop (i * 5) t))) refl
      where
        go : (b : Bool) → p (waiting_row.dec (drop (i * 5) t)) ≡ b → Keeping p n t₀ (pick b (paste t (j * 5) (drop (i * 5) t) 5) t) (i + 1) (pick b (j + 1) j)
        go true e = keeping-kept e
        go false e = keeping_gone e

  -- zeros behind the rows kept make the table of them
  pub keeping-done : drop (n * 5) t₀ ≡ zeros (length t₀ - n * 5) → (t : List ℕ) (j : ℕ) → Keeping p n t₀ t n j
      → paste t (j * 5) (zeros (n * 5 - j * 5)) (n * 5 - j * 5) ≡ table_of waiting_row (length t₀) (keep p (rows_of waiting_row n t₀))
  unfolding table_of
  keeping-done rest t j m =
      let fewer = m.fewer in
      let k : ℕ = n * 5 - j * 5 in
      let there : j * 5 + k ≡ n * 5 = omega arith in
      let amount : k + (length t₀ - n * 5) ≡ length t₀ - j * 5 = omega arith in
      paste-right t (j * 5) (zeros k) k
      ∙ rw (take_all k (zeros k) (rw (length-replicate {A = ℕ} k 0) (omega arith)), there, m.behind, rest, replicate-append-replicate {A = ℕ} k (length t₀ - n * 5) 0, amount, m.front, ← m.number)
