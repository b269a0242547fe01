-- Laws that the proofs cite.
-- Assumes nothing.
use mathlib.Core.Path.{◌≡◌, refl, sym, ap, ◌∙◌}
use mathlib.Core.List.{List, ◌++◌}
use Prim.Native.Nat.{ℕ, zero, suc, ◌+◌, ◌-◌, ◌*◌, ◌/◌, ◌≤◌, ◌<◌}
use native.Mathlib.Numerals.{add-one}
use native.Mathlib.Omega.{arith}
use borrow.Author.Tests.{le-ltb, lt-ltb}
use lib.ListN.{length, take, drop, length-drop}
use lib.Seq.{take_all, paste}
use Rattle.std.proofs.lemmas.List.{drop-replicate}
use Rattle.base.specs.Logic.{flat, from, zeros}
use Rattle.base.specs.Bytes.{le32, unle, digits}
use Rattle.blake3_compress.specs.Spec.{at, compress}
use Rattle.blake3.specs.Spec.{block_words, padded, chunk_end, chain, chunk, parent, root, parent_of, doubled, left_len, tree, hash_with}
use Rattle.blake3.specs.Equations.{tree-chunk, tree-parent}
use Rattle.blake3_compress.specs.FillLaws.{eight}

-- ---- arrays that a loop fills

-- the bytes of the first k words
unfoldable pub spelled : List ℕ → ℕ → List ℕ
spelled ws zero = zeros 32
spelled ws (suc k) = paste (spelled ws k) (4 * k) (le32 (at ws k)) 4

pub spelled-more : (ws : List ℕ) (k : ℕ) {t u : List ℕ} → t ≡ spelled ws k → u ≡ paste t (4 * k) (le32 (at ws k)) 4 → u ≡ spelled ws (k + 1)
unfolding spelled
spelled-more ws k p q = rw (add-one k, q, p)

pub spelled-all : (ws : List ℕ) (k : ℕ) {t : List ℕ} → length ws ≡ 8 → k ≡ 8 → t ≡ spelled ws k → t ≡ flat le32 ws
unfolding spelled from flat digits
spelled-all ws k p e h = h ∙ ap (spelled ws) e ∙ ap (flat le32) (eight ws p)

-- ---- blocks

-- the word of the four bytes at 4 i
abbrev pub word_of : List ℕ → ℕ → ℕ
word_of bs i = unle (take 4 (drop (4 * i) bs))

-- the bytes of a block that is padded, over as many of its zeros
pub padded-over : (bs : List ℕ) {t : List ℕ} → t ≡ bs → t ++ drop (length bs) (zeros 64) ≡ padded bs
padded-over bs e = rw (e, drop-replicate)

-- ---- the left part

-- where twice w leaves nothing, w stays
pub stays : (f n w : ℕ) → n ≤ w + w → doubled f n w ≡ w
unfolding doubled
stays zero n w h = refl
stays (suc f) n w h = rw (le-ltb (2 * w) n (omega arith))

-- where twice w leaves something, w is doubled, and the bound that is left is still enough
pub doubles : (f n w : ℕ) → w + w < n → 0 < w → n ≤ w + f → (d : ℕ) × (doubled d n (w + w) ≡ doubled f n w) × (n ≤ w + w + d)
unfolding doubled
doubles zero n w h p e = absurd (omega arith)
doubles (suc f) n w h p e =
    let t : w + w ≡ 2 * w = omega arith in
    (f, rw (lt-ltb (2 * w) n (omega arith)) (ap (doubled f n) t), omega arith)

-- ---- chunks

-- the chaining value after the blocks that are left of a chunk
unfoldable pub blocks : ℕ → ℕ → ℕ → ℕ → List ℕ → List ℕ → List ℕ
blocks flags top counter first cv bs = chain flags counter top first ((length bs - 1) / 64) cv bs

module _ (flags top counter first : ℕ) (cv bs : List ℕ) where
  -- one block more
  pub one_block : {m next r : List ℕ} → 64 < length bs → blocks flags top counter first cv bs ≡ r
      → m ≡ block_words (take 64 bs) → next ≡ compress cv m counter 64 (flags + first) → blocks flags top counter 0 next (drop 64 bs) ≡ r
  unfolding blocks chain
  one_block h e p q =
      let l = length-drop 64 bs in
      let k' = (length (drop 64 bs) - 1) / 64 in
      let k : (length bs - 1) / 64 ≡ suc k' = omega arith in
      ap (λ (w : List ℕ). chain flags counter top 0 k' w (drop 64 bs)) (q ∙ ap (λ (w : List ℕ). compress cv w counter 64 (flags + first)) p)
      ∙ ap (λ (j : ℕ). chain flags counter top first j cv bs) (sym k)
      ∙ e

  -- the last block
  pub last_block : {m r v : List ℕ} → length bs ≤ 64 → blocks flags top counter first cv bs ≡ r
      → m ≡ block_words (padded bs) → v ≡ compress cv m counter (length bs) (flags + first + chunk_end + top) → v ≡ r
  unfolding blocks chain
  last_block h e p q =
      let k : (length bs - 1) / 64 ≡ 0 = omega arith in
      q
      ∙ ap (λ (w : List ℕ). compress cv w counter (length bs) (flags + first + chunk_end + top)) p
      ∙ ap (λ (j : ℕ). chain flags counter top first j cv bs) (sym k)
      ∙ e

-- ---- the tree

-- a parent of two children
pub of-children : (key : List ℕ) (flags top : ℕ) (l r : List ℕ) {m v : List ℕ} → m ≡ l ++ r
    → v ≡ compress key m 0 64 (flags + parent + top) → v ≡ parent_of key flags top l r
unfolding parent_of
of-children key flags top l r p q = q ∙ ap (λ (m : List ℕ). compress key m 0 64 (flags + parent + top)) p

-- what is left of a list from k on, as a part from k to the end
pub rest : (bs : List ℕ) (k : ℕ) → take (length bs - k) (drop k bs) ≡ drop k bs
rest bs k = take_all (length bs - k) (drop k bs) (omega (arith, length-drop k bs))

-- at most a chunk
pub chunk-tree : (key : List ℕ) (flags top counter : ℕ) (bs : List ℕ) {v : List ℕ} → length bs ≤ 1024 → v ≡ chunk key flags top counter bs → v ≡ tree key flags top counter bs
chunk-tree key flags top counter bs h e = e ∙ sym (tree-chunk key flags top counter bs h)

-- a parent of the trees of the two parts
pub parent-tree : (key : List ℕ) (flags top counter : ℕ) (bs : List ℕ) {k : ℕ} {l r v : List ℕ} → 1024 < length bs → k ≡ left_len (length bs)
    → l ≡ tree key flags 0 counter (take k bs) → r ≡ tree key flags 0 (counter + k / 1024) (take (length bs - k) (drop k bs))
    → v ≡ parent_of key flags top l r → v ≡ tree key flags top counter bs
parent-tree key flags top counter bs {k} h e p q u =
    let w = tree-parent key flags top counter bs h in
    cc (w, rest bs k)

-- the bytes of the root
pub hashed : (key : List ℕ) (flags : ℕ) (bs : List ℕ) {v r : List ℕ} → v ≡ tree key flags root 0 bs → r ≡ flat le32 v → r ≡ hash_with key flags bs
unfolding hash_with
hashed key flags bs p q = q ∙ ap (flat le32) p
