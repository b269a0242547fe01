-- The parts of a list of twice n numbers while its first n are sorted by halves: of t, the n - h numbers from index h on are sorted where they
-- stand, the first h are moved behind all n and sorted there, and the two are merged.
-- Assumes nothing.
use Rattle.std.specs.Prelude.{◌≡◌, refl, List, [], ◌∷◌, ◌++◌, ℕ, ◌+◌, ◌-◌, ◌≤◌, ◌<◌, length, take, drop, replicate}
use Rattle.std.proofs.Common.{sym, ap, ap₂, ◌∙◌, append_assoc, append-nil, arith, length-append, length-drop, drop_of_length-le, take_at, drop_at, take_all, take-take, take-add, drop-drop, length-take-le}
use mathlib.Core.List.Permᴰ
use mathlib.Core.List.Permᴰ.{trans as order_trans}
use Rattle.std.proofs.lemmas.List.{length-replicate}
use Rattle.std.proofs.Math.Seq.{paste}
use Rattle.std.proofs.lemmas.List.Edits.{length-paste}
use Rattle.base.specs.Logic.{zeros}
use Rattle.slices.specs.Laws.{length_part, part-front, take-paste-before, part-paste}
use Rattle.word_sort.specs.Sort.{insert, sorted}
use Rattle.word_sort.specs.SortLaws.{sorted-order, sorted-reorders, sorted-sorts, length-sorted}
use Rattle.word_sort.specs.Halves.{left, right, Halves}

-- a list of which a part was lent, and came back as u
abbrev pub back : ℕ → ℕ → List ℕ → List ℕ → List ℕ
back a k t u = take a t ++ (u ++ drop k (drop a t))

-- the working space filled with zeros
zeroed : (n : ℕ) (u v : List ℕ) → length u ≡ n + n → v ≡ paste u n (replicate n 0) n → v ≡ take n u ++ zeros n
zeroed n u v h e =
    let d : drop (n + n) u ≡ [] = drop_of_length-le u {i = n + n} (omega arith) in
    e
    ∙ ap₂ (λ (a b : List ℕ). (take n u ++ a) ++ b) (take_all n (zeros n) (omega (arith, length-replicate {A = ℕ} n 0))) d
    ∙ append-nil (take n u ++ zeros n)

-- one number, or none, is in order
short : (xs : List ℕ) → length xs < 2 → sorted xs ≡ xs
unfolding sorted insert
short [] h = refl
short (x ∷ []) h = refl
short (x ∷ y ∷ ys) h = absurd (omega arith)

pub sorted-short : (t v : List ℕ) (n : ℕ) → length t ≡ n + n → n < 2 → v ≡ paste t n (replicate n 0) n → v ≡ sorted (take n t) ++ zeros n
sorted-short t v n h k e = zeroed n t v h e ∙ ap (λ (l : List ℕ). l ++ zeros n) (sym (short (take n t) (omega (arith, length-take-le n t (omega arith)))))

-- the second half is in order, behind the first
pub record Behind (t : List ℕ) (h n : ℕ) (s : List ℕ) : Type 0 where
  pub size : length s ≡ n + n
  pub front : take n s ≡ take h t ++ sorted (right t h n)

-- and the first is copied behind both
pub record Moved (t : List ℕ) (h n : ℕ) (s : List ℕ) : Type 0 where
  pub size : length s ≡ n + n
  pub front : take n s ≡ take h t ++ sorted (right t h n)
  pub copy : left s h n ≡ take h t

-- and sorted there
pub record Ready (t : List ℕ) (h n : ℕ) (s : List ℕ) : Type 0 where
  pub size : length s ≡ n + n
  pub first : left s h n ≡ sorted (take h t)
  pub second : right s h n ≡ sorted (right t h n)

module _ (t : List ℕ) (h n : ℕ) (long : length t ≡ n + n) (half : h + h ≤ n) where
  length-first : length (take h t) ≡ h
  length-first = length-take-le h t (omega arith)

  length-second : length (sorted (right t h n)) ≡ n - h
  length-second = length-sorted (right t h n) ∙ length_part t h (n - h) (omega arith)

  module _ (k : ℕ) (lent : k ≡ (n - h) + (n - h)) where
    pub length-lent : length (take k (drop h t)) ≡ (n - h) + (n - h)
    length-lent = length_part t h k (omega arith) ∙ lent

    pub behind : (u : List ℕ) → u ≡ sorted (take (n - h) (take k (drop h t))) ++ zeros (n - h) → Behind t h n (back h k t u)
    behind u e =
        let f : h + (n - h) ≡ n = omega arith in
        let q : take (n - h) (take k (drop h t)) ≡ right t h n = take-take (n - h) k (drop h t) (omega arith) in
        let d : u ≡ sorted (right t h n) ++ zeros (n - h) = e ∙ ap (λ (l : List ℕ). sorted l ++ zeros (n - h)) q in
        let r = drop k (drop h t) in
        let z = zeros (n - h) in
        let w : back h k t u ≡ (take h t ++ sorted (right t h n)) ++ (z ++ r) =
        ap (λ (l : List ℕ). take h t ++ (l ++ r)) d
        ∙ ap (λ (l : List ℕ). take h t ++ l) (append_assoc (sorted (right t h n)) z r)
        ∙ sym (append_assoc (take h t) (sorted (right t h n)) (z ++ r)) in
        let a : length (take h t ++ sorted (right t h n)) ≡ n = length-append (take h t) (sorted (right t h n)) ∙ omega (arith, length-first, length-second) in
        let b : length (z ++ r) ≡ n =
        length-append z r ∙ omega (arith, length-replicate {A = ℕ} (n - h) 0, ap (λ (l : List ℕ). length l) (drop-drop k h t), length-drop (h + k) t) in
        record {
          size = ap (λ (l : List ℕ). length l) w ∙ length-append (take h t ++ sorted (right t h n)) (z ++ r) ∙ omega arith;
          front = ap (λ (l : List ℕ). take n l) w ∙ take_at (take h t ++ sorted (right t h n)) (z ++ r) n a;
        }

  pub moved : (s u : List ℕ) → Behind t h n s → u ≡ paste s n (drop 0 s) h → Moved t h n u
  moved s u b e =
      let i : n ≤ length s = omega (arith, b.size) in
      let j : h ≤ length s = omega (arith, b.size) in
      let k : take h s ≡ take h t =
      sym (take-take h n s (omega arith)) ∙ ap (λ (l : List ℕ). take h l) b.front ∙ take_at (take h t) (sorted (right t h n)) h length-first in
      record {
        size = ap (λ (l : List ℕ). length l) e ∙ length-paste s n s h (omega (arith, b.size)) j ∙ b.size;
        front = ap (λ (l : List ℕ). take n l) e ∙ take-paste-before s n s h i j n (omega arith) ∙ b.front;
        copy = ap (λ (l : List ℕ). take h (drop n l)) e ∙ part-paste s n s h i j ∙ k;
      }

  module _ (s : List ℕ) (m : Moved t h n s) (k : ℕ) (lent : k ≡ h + h) where
    pub length-lent-first : length (take k (drop n s)) ≡ h + h
    length-lent-first = length_part s n k (omega (arith, m.size)) ∙ lent

    pub ready : (u : List ℕ) → u ≡ sorted (take h (take k (drop n s))) ++ zeros h → Ready t h n (back n k s u)
    ready u e =
        let q : take h (take k (drop n s)) ≡ take h t = take-take h k (drop n s) (omega arith) ∙ m.copy in
        let d : u ≡ sorted (take h t) ++ zeros h = e ∙ ap (λ (l : List ℕ). sorted l ++ zeros h) q in
        let r = drop k (drop n s) in
        let z = zeros h in
        let g : length (sorted (take h t)) ≡ h = length-sorted (take h t) ∙ length-first in
        let i : length (take n s) ≡ n = length-take-le n s (omega (arith, m.size)) in
        let w : back n k s u ≡ take n s ++ (sorted (take h t) ++ (z ++ r)) =
        ap (λ (l : List ℕ). take n s ++ (l ++ r)) d ∙ ap (λ (l : List ℕ). take n s ++ l) (append_assoc (sorted (take h t)) z r) in
        let y = sorted (take h t) ++ (z ++ r) in
        let b : length y ≡ n =
        length-append (sorted (take h t)) (z ++ r)
        ∙ omega (arith, g, length-append z r, length-replicate {A = ℕ} h 0, ap (λ (l : List ℕ). length l) (drop-drop k n s), length-drop (n + k) s, m.size) in
        let v : take (n - h) (drop h (take n s ++ y)) ≡ sorted (right t h n) =
        sym (part-front (n - h) h n (take n s ++ y) (omega arith))
        ∙ ap (λ (l : List ℕ). take (n - h) (drop h l)) (take_at (take n s) y n i ∙ m.front)
        ∙ ap (λ (l : List ℕ). take (n - h) l) (drop_at (take h t) (sorted (right t h n)) h length-first)
        ∙ take_all (n - h) (sorted (right t h n)) (omega (arith, length-second)) in
        record {
          size = ap (λ (l : List ℕ). length l) w ∙ length-append (take n s) y ∙ omega arith;
          first =
              ap (λ (l : List ℕ). take h (drop n l)) w
              ∙ ap (λ (l : List ℕ). take h l) (drop_at (take n s) y n i)
              ∙ take_at (sorted (take h t)) (z ++ r) h g;
          second = ap (λ (l : List ℕ). take (n - h) (drop h l)) w ∙ v;
        }

  pub halves : (s : List ℕ) → Ready t h n s → Halves s h n
  halves s r =
      record {
        half = omega arith;
        fits = omega (arith, r.size);
        left_sorted = rw r.first (sorted-sorts (take h t));
        right_sorted = rw r.second (sorted-sorts (right t h n));
      }

  length_both : (s : List ℕ) → Ready t h n s → length (sorted (left s h n ++ right s h n)) ≡ n
  length_both s r =
      length-sorted (left s h n ++ right s h n)
      ∙ length-append (left s h n) (right s h n)
      ∙ omega (arith, length_part s n h (omega (arith, r.size)), length_part s h (n - h) (omega (arith, r.size)))

  pub length_merged : (s u : List ℕ) → Ready t h n s → u ≡ sorted (left s h n ++ right s h n) ++ drop n s → length u ≡ n + n
  length_merged s u r e =
      ap (λ (l : List ℕ). length l) e
      ∙ length-append (sorted (left s h n ++ right s h n)) (drop n s)
      ∙ omega (arith, length_both s r, length-drop n s, r.size)

  -- the two halves, each in order, have the numbers of both
  both-order : sorted (sorted (take h t) ++ sorted (right t h n)) ≡ sorted (take n t)
  both-order =
      let f : h + (n - h) ≡ n = omega arith in
      sym (sorted-order (order_trans (Permᴰ.append_right (right t h n) (sorted-reorders (take h t))) (Permᴰ.append_left (sorted (take h t)) (sorted-reorders (right t h n)))))
      ∙ ap (λ (l : List ℕ). sorted l) (sym (take-add h (n - h) t) ∙ ap (λ (i : ℕ). take i t) f)

  pub joined : (s u v : List ℕ) → Ready t h n s → u ≡ sorted (left s h n ++ right s h n) ++ drop n s → v ≡ paste u n (replicate n 0) n → v ≡ sorted (take n t) ++ zeros n
  joined s u v r e f =
      zeroed n u v (length_merged s u r e) f
      ∙ ap (λ (l : List ℕ). l ++ zeros n)
      (ap (λ (l : List ℕ). take n l) e
      ∙ take_at (sorted (left s h n ++ right s h n)) (drop n s) n (length_both s r)
      ∙ ap₂ (λ (a b : List ℕ). sorted (a ++ b)) r.first r.second
      ∙ both-order)
