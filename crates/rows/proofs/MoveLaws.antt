-- Rows that move to make room for a row, or to close the gap that one leaves.
-- Assumes nothing.
use Rattle.std.specs.Prelude.{◌≡◌, List, ◌++◌, ℕ, ◌+◌, ◌-◌, ◌≤◌, length, take, drop}
use Rattle.std.proofs.Common.{sym, ap, ◌∙◌, append_assoc, arith, length-drop, drop-drop, drop_at, take-take, take_all, length-take-le}
use Rattle.std.proofs.lemmas.List.{length-replicate, take-append-le}
use Rattle.std.proofs.Math.Seq.{paste, take-length}
use Rattle.std.proofs.lemmas.List.Edits.{take-paste, drop-paste}
use Rattle.base.specs.Logic.{zeros}
use Rattle.slices.specs.Laws.{paste-right}

-- the words from a to e move up by a row's words, and the row takes their place
pub insert-row : (t row : List ℕ) (a e : ℕ) → a ≤ e → e + length row ≤ length t
    → paste (paste t (a + length row) (drop a t) (e - a)) a row (length row)
    ≡ take a t ++ (row ++ (take (e - a) (drop a t) ++ drop (e + length row) t))
insert-row t row a e h k =
    let w : ℕ = length row in
    let s : List ℕ = drop a t in
    let n : ℕ = e - a in
    let P : List ℕ = paste t (a + w) s n in
    let l : length (take (a + w) t) ≡ a + w = length-take-le (a + w) t (omega arith) in
    let q : a + w + n ≡ e + w = omega arith in
    let p : P ≡ take (a + w) t ++ (take n s ++ drop (e + w) t) = paste-right t (a + w) s n ∙ ap (λ (m : ℕ). take (a + w) t ++ (take n s ++ drop m t)) q in
    let before : take a P ≡ take a t =
    ap (λ (x : List ℕ). take a x) p ∙ take-append-le a (take (a + w) t) (take n s ++ drop (e + w) t) (omega arith) ∙ take-take a (a + w) t (omega arith) in
    let after : drop (a + w) P ≡ take n s ++ drop (e + w) t =
    ap (λ (x : List ℕ). drop (a + w) x) p ∙ drop_at (take (a + w) t) (take n s ++ drop (e + w) t) (a + w) l in
    paste-right P a row w ∙ rw (before, after, take-length row)

-- the words behind the row at a, up to e, move down over it, and zeros take the places that this frees
pub remove-row : (t : List ℕ) (a e w : ℕ) → a + w ≤ e → e ≤ length t
    → paste (paste t a (drop (a + w) t) (e - (a + w))) (e - w) (zeros w) w
    ≡ take a t ++ (take (e - (a + w)) (drop (a + w) t) ++ (zeros w ++ drop e t))
remove-row t a e w h k =
    let s : List ℕ = drop (a + w) t in
    let n : ℕ = e - (a + w) in
    let P : List ℕ = paste t a s n in
    let h₀ : a ≤ length t = omega arith in
    let h₂ : n ≤ length s = simp length-drop (omega arith) in
    let q₁ : e - w ≡ a + n = omega arith in
    let q₂ : a + n + w ≡ e = omega arith in
    let z : take w (zeros w) ≡ zeros w = take_all w (zeros w) (rw (length-replicate {A = ℕ} w 0) (omega arith)) in
    let r : drop (a + n + w) P ≡ drop e t =
    sym (drop-drop w (a + n) P) ∙ ap (λ (l : List ℕ). drop w l) (drop-paste t a s n h₀ h₂) ∙ drop-drop w (a + n) t ∙ ap (λ (m : ℕ). drop m t) q₂ in
    ap (λ (m : ℕ). paste P m (zeros w) w) q₁ ∙ paste-right P (a + n) (zeros w) w
    ∙ rw (z, take-paste t a s n h₀ h₂, r) (append_assoc (take a t) (take n s) (zeros w ++ drop e t))
