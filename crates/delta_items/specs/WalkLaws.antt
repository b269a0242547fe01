-- What a loop over a delta's items knows at each of them, and that the items are the delta.
-- Assumes nothing.
use Rattle.std.proofs.Math.Path.{◌≡◌, refl}
use Rattle.std.proofs.Common.{sym, ap, ◌∙◌, mul-suc, suc-mul}
use Rattle.std.specs.Prelude.{Bool, ◌&&◌, ◌||◌, List, [], ◌∷◌, drop, ltb, Some, None}
use Rattle.std.proofs.Math.Bool.{true, false}
use Rattle.std.proofs.Math.Option.{none, some}
use Prim.Native.Nat.{ℕ, zero, suc, ◌+◌, ◌-◌, ◌*◌, ◌≤◌, ◌<◌}
use Rattle.std.proofs.Math.Nat.{add_assoc}
use Rattle.std.proofs.Math.Decide.{dec_lt}
use native.Mathlib.Omega.{arith}
use Rattle.std.proofs.Math.ListN.{length, length-drop}
use Rattle.std.proofs.Math.Seq.{drop-drop}
use Rattle.std.proofs.Math.Dec.{leb}
use borrow.Author.Tests.{leb-true, leb-false, le-leb, lt-leb}
use Rattle.base.specs.Logic.{pick, any, sum_of, max32}
use Rattle.base.specs.Laws.{and_left, and_right}
use Rattle.base.specs.Bytes.{read_list}
use Rattle.slices.specs.Laws.{length_part}
use Rattle.slices.specs.NumberLaws.{cut_at, cut_short, read_le-at, read_le-short}
use Rattle.cell_nursery.specs.Entries.{cell_bytes}
use Rattle.cell_nursery.specs.Items.{read_hash, read_insert, delta_of}
use Rattle.cell_nursery.specs.Delta.{too_long}
use Rattle.delta_items.specs.Walk.{hash_in, cell_len, cell_in, insert_in, insert_len, inserts_in, inserts_len, inserts_fit, inserts_end, long_cell, hashes_in, items_fit, delta_in, removes_at, inserts_from, end_from, removes_from}

-- ---- an item that stands whole, and one that doesn't

pub hash-whole : (bs : List ℕ) → 32 ≤ length bs → read_hash bs ≡ some (hash_in bs, drop 32 bs)
unfolding read_hash
hash-whole bs h = rw (cut_at 32 0 bs (omega arith))

pub hash-short : (bs : List ℕ) → length bs < 32 → read_hash bs ≡ none
unfolding read_hash
hash-short bs h = rw (cut_short 32 0 bs (omega arith) (omega arith))

module _ (w : ℕ) (bs : List ℕ) where
  pub insert-whole : insert_len w bs ≤ length bs → read_insert w bs ≡ some (insert_in w bs, drop (insert_len w bs) bs)
  unfolding read_insert insert_in
  insert-whole h =
      rw (
        hash-whole bs (omega arith),
        read_le-at 8 32 bs (omega arith),
        read_le-at 4 40 bs (omega arith),
        read_le-at w 44 bs (omega arith),
        cut_at (cell_len w bs) (44 + w) bs (omega arith),
      )

  pub insert-short : 0 < w → length bs < insert_len w bs → read_insert w bs ≡ none
  unfolding read_insert
  insert-short p h = elim (dec_lt (length bs) 32) [ yes a ↦ rw (hash-short bs a) | no a ↦ index a ]
    where
      index : ¬ (length bs < 32) → read_insert w bs ≡ none
      index a = elim (dec_lt (length bs) 40) [ yes b ↦ rw (hash-whole bs (omega arith), read_le-short 8 32 bs (omega arith) b) | no b ↦ born b ]
        where
          born : ¬ (length bs < 40) → read_insert w bs ≡ none
          born b = elim (dec_lt (length bs) 44) [
            | yes d ↦ rw (hash-whole bs (omega arith), read_le-at 8 32 bs (omega arith), read_le-short 4 40 bs (omega arith) d)
            | no d ↦ len d
          ]
            where
              len : ¬ (length bs < 44) → read_insert w bs ≡ none
              len d = elim (dec_lt (length bs) (44 + w)) [
                | yes e ↦ rw (hash-whole bs (omega arith), read_le-at 8 32 bs (omega arith), read_le-at 4 40 bs (omega arith), read_le-short w 44 bs p e)
                | no e ↦
                    rw (
                      hash-whole bs (omega arith),
                      read_le-at 8 32 bs (omega arith),
                      read_le-at 4 40 bs (omega arith),
                      read_le-at w 44 bs (omega arith),
                      cut_short (cell_len w bs) (44 + w) bs (omega arith) h,
                    )
              ]

  -- its cell has the length that it states
  pub cell-length : insert_len w bs ≤ length bs → length (cell_in w bs) ≡ cell_len w bs
  cell-length h = length_part bs (44 + w) (cell_len w bs) h

-- what is left after its head decides whether an insert stands whole
pub fits_after : (h n l : ℕ) → h ≤ l → leb n (l - h) ≡ leb (h + n) l
fits_after h n l k =
    elim (dec_lt l (h + n)) [
      | yes s ↦ lt-leb n (l - h) (omega arith) ∙ sym (lt-leb (h + n) l s)
      | no t ↦ le-leb n (l - h) (omega arith) ∙ sym (le-leb (h + n) l (omega arith))
    ]

-- ---- lists of items: as many as stated, and how many bytes they take

pub length-inserts : (w n : ℕ) (bs : List ℕ) → length (inserts_in w n bs) ≡ n
unfolding inserts_in
length-inserts w zero bs = refl
length-inserts w (suc n) bs = ap suc (length-inserts w n (drop (insert_len w bs) bs))

pub length-hashes : (n : ℕ) (bs : List ℕ) → length (hashes_in n bs) ≡ n
unfolding hashes_in
length-hashes zero bs = refl
length-hashes (suc n) bs = ap suc (length-hashes n (drop 32 bs))

-- inserts that stand whole: the first, and the others
pub fit-head : (w n : ℕ) (bs : List ℕ) → inserts_fit w (suc n) bs ≡ true → insert_len w bs ≤ length bs
unfolding inserts_fit
fit-head w n bs e = leb-true (insert_len w bs) (length bs) (and_left (leb (insert_len w bs) (length bs)) (inserts_fit w n (drop (insert_len w bs) bs)) e)

pub fit-tail : (w n : ℕ) (bs : List ℕ) → inserts_fit w (suc n) bs ≡ true → inserts_fit w n (drop (insert_len w bs) bs) ≡ true
unfolding inserts_fit
fit-tail w n bs e = and_right (leb (insert_len w bs) (length bs)) (inserts_fit w n (drop (insert_len w bs) bs)) e

-- they end inside the bytes
pub fit-inside : (w n : ℕ) (bs : List ℕ) → inserts_fit w n bs ≡ true → inserts_len w n bs ≤ length bs
unfolding inserts_len
fit-inside w zero bs e = omega arith
fit-inside w (suc n) bs e =
    let r = fit-inside w n (drop (insert_len w bs) bs) (fit-tail w n bs e) in
    omega (arith, fit-head w n bs e, length-drop (insert_len w bs) bs)

-- they are their heads and their cells
pub inserts-cells : (w n : ℕ) (bs : List ℕ) → inserts_fit w n bs ≡ true → inserts_len w n bs ≡ n * (44 + w) + cell_bytes (inserts_in w n bs)
unfolding inserts_len inserts_in insert_in cell_bytes sum_of
inserts-cells w zero bs e = omega arith
inserts-cells w (suc n) bs e =
    let r = inserts-cells w n (drop (insert_len w bs) bs) (fit-tail w n bs e) in
    omega (arith, suc-mul n (44 + w), cell-length w bs (fit-head w n bs e))

-- so their cells are what their heads leave
pub heads-fit : (w n : ℕ) (bs : List ℕ) → inserts_fit w n bs ≡ true → n * (44 + w) ≤ inserts_len w n bs
heads-fit w n bs e = omega (arith, inserts-cells w n bs e)

pub cells_left : (w n : ℕ) (bs : List ℕ) → inserts_fit w n bs ≡ true → inserts_len w n bs - n * (44 + w) ≡ cell_bytes (inserts_in w n bs)
cells_left w n bs e = omega (arith, inserts-cells w n bs e)

-- ---- they are read as they stand

pub inserts-whole : (w n : ℕ) (bs : List ℕ) → inserts_fit w n bs ≡ true → read_list (read_insert w) n bs ≡ some (inserts_in w n bs, drop (inserts_len w n bs) bs)
unfolding read_list inserts_in inserts_len
inserts-whole w zero bs e = refl
inserts-whole w (suc n) bs e =
    rw (
      insert-whole w bs (fit-head w n bs e),
      inserts-whole w n (drop (insert_len w bs) bs) (fit-tail w n bs e),
      drop-drop (inserts_len w n (drop (insert_len w bs) bs)) (insert_len w bs) bs,
    )

pub inserts-short : (w n : ℕ) (bs : List ℕ) → 0 < w → inserts_fit w n bs ≡ false → read_list (read_insert w) n bs ≡ none
unfolding read_list inserts_fit
inserts-short w zero bs p e = let z : ◌≡◌ {A = ℕ} 0 1 = cc in absurd (omega arith)
inserts-short w (suc n) bs p e =
    elim (dec_lt (length bs) (insert_len w bs)) [
      | yes s ↦ rw (insert-short w bs p s)
      | no l ↦
          let h : insert_len w bs ≤ length bs = omega arith in
          let f : inserts_fit w n (drop (insert_len w bs) bs) ≡ false = rw (le-leb (insert_len w bs) (length bs) h) at e in
          rw (insert-whole w bs h, inserts-short w n (drop (insert_len w bs) bs) p f)
    ]

pub hashes-whole : (n : ℕ) (bs : List ℕ) → 32 * n ≤ length bs → read_list read_hash n bs ≡ some (hashes_in n bs, drop (32 * n) bs)
unfolding read_list hashes_in
hashes-whole zero bs h = refl
hashes-whole (suc n) bs h =
    let m = mul-suc 32 n in
    let e : 32 + 32 * n ≡ 32 * suc n = omega arith in
    rw (hash-whole bs (omega arith), hashes-whole n (drop 32 bs) (rw (length-drop 32 bs) (omega arith)), drop-drop (32 * n) 32 bs, e)

pub hashes-short : (n : ℕ) (bs : List ℕ) → length bs < 32 * n → read_list read_hash n bs ≡ none
unfolding read_list
hashes-short zero bs h = absurd (omega arith)
hashes-short (suc n) bs h =
    elim (dec_lt (length bs) 32) [
      | yes s ↦ rw (hash-short bs s)
      | no l ↦
          let m = mul-suc 32 n in
          rw (hash-whole bs (omega arith), hashes-short n (drop 32 bs) (rw (length-drop 32 bs) (omega arith)))
    ]

-- ---- the items are the delta, exactly where they stand whole

module _ (w n m : ℕ) (bs : List ℕ) where
  -- the inserts stand whole, and so do the removes
  pub fit-inserts : items_fit w n m bs ≡ true → inserts_fit w n bs ≡ true
  unfolding items_fit
  fit-inserts e = and_left (inserts_fit w n bs) (leb (32 * m) (length bs - inserts_len w n bs)) e

  pub fit-removes : items_fit w n m bs ≡ true → inserts_len w n bs + 32 * m ≤ length bs
  unfolding items_fit
  fit-removes e =
      let r = leb-true (32 * m) (length bs - inserts_len w n bs) (and_right (inserts_fit w n bs) (leb (32 * m) (length bs - inserts_len w n bs)) e) in
      omega (arith, fit-inside w n bs (fit-inserts e))

  pub delta-whole : items_fit w n m bs ≡ true → delta_of w n m bs ≡ some (delta_in w n m bs)
  unfolding delta_of delta_in
  delta-whole e =
      let l = length-drop (inserts_len w n bs) bs in
      rw (inserts-whole w n bs (fit-inserts e), hashes-whole m (drop (inserts_len w n bs) bs) (omega (arith, fit-removes e)))

  pub delta-none : 0 < w → items_fit w n m bs ≡ false → delta_of w n m bs ≡ none
  unfolding items_fit delta_of
  delta-none p e = go (inserts_fit w n bs) refl
    where
      go : (b : Bool) → inserts_fit w n bs ≡ b → delta_of w n m bs ≡ none
      go false f = rw (inserts-short w n bs p f)
      go true f =
          let s : leb (32 * m) (length bs - inserts_len w n bs) ≡ false = rw f at e in
          let l = length-drop (inserts_len w n bs) bs in
          rw (inserts-whole w n bs f, hashes-short m (drop (inserts_len w n bs) bs) (omega (arith, leb-false (32 * m) (length bs - inserts_len w n bs) s)))

  -- what `removes_at` answers, by where the inserts end
  pub removes-after : (e : ℕ) → inserts_end w n bs ≡ Some e → 32 * m ≤ length bs - e → removes_at w n m bs ≡ Some e
  unfolding inserts_end removes_at items_fit
  removes-after e q h = go (inserts_fit w n bs) q
    where
      go : (b : Bool) → pick b (Some (inserts_len w n bs)) None ≡ Some e
          → pick (b && leb (32 * m) (length bs - inserts_len w n bs)) (Some (inserts_len w n bs)) None ≡ Some e
      go true r =
          let k : inserts_len w n bs ≡ e = cc in
          rw (k, le-leb (32 * m) (length bs - e) h)
      go false r = r

  pub removes-over : (e : ℕ) → inserts_end w n bs ≡ Some e → length bs - e < 32 * m → removes_at w n m bs ≡ None
  unfolding inserts_end removes_at items_fit
  removes-over e q h = go (inserts_fit w n bs) q
    where
      go : (b : Bool) → pick b (Some (inserts_len w n bs)) None ≡ Some e
          → pick (b && leb (32 * m) (length bs - inserts_len w n bs)) (Some (inserts_len w n bs)) None ≡ None
      go true r =
          let k : inserts_len w n bs ≡ e = cc in
          rw (k, lt-leb (32 * m) (length bs - e) h)
      go false r = let z : ◌≡◌ {A = ℕ} 0 1 = cc in absurd (omega arith)

  pub removes-none : inserts_end w n bs ≡ None → removes_at w n m bs ≡ None
  unfolding inserts_end removes_at items_fit
  removes-none q = go (inserts_fit w n bs) q
    where
      go : (b : Bool) → pick b (Some (inserts_len w n bs)) None ≡ None
          → pick (b && leb (32 * m) (length bs - inserts_len w n bs)) (Some (inserts_len w n bs)) None ≡ None
      go true r = let z : ◌≡◌ {A = ℕ} 0 1 = cc in absurd (omega arith)
      go false r = refl

  pub end-inside : (e : ℕ) → inserts_end w n bs ≡ Some e → e ≤ length bs
  unfolding inserts_end
  end-inside e q = go (inserts_fit w n bs) refl q
    where
      go : (b : Bool) → inserts_fit w n bs ≡ b → pick b (Some (inserts_len w n bs)) None ≡ Some e → e ≤ length bs
      go true f r =
          let k : inserts_len w n bs ≡ e = cc in
          omega (arith, fit-inside w n bs f)
      go false f r = let z : ◌≡◌ {A = ℕ} 0 1 = cc in absurd (omega arith)

  -- what the answer says of the delta
  pub removes-at : (e : ℕ) → removes_at w n m bs ≡ Some e → (items_fit w n m bs ≡ true) × (e ≡ inserts_len w n bs)
  unfolding removes_at
  removes-at e q = go (items_fit w n m bs) q
    where
      go : (b : Bool) → pick b (Some (inserts_len w n bs)) None ≡ Some e → (b ≡ true) × (e ≡ inserts_len w n bs)
      go true r = (refl, cc)
      go false r = let z : ◌≡◌ {A = ℕ} 0 1 = cc in absurd (omega arith)

  pub removes-past : removes_at w n m bs ≡ None → items_fit w n m bs ≡ false
  unfolding removes_at
  removes-past q = go (items_fit w n m bs) q
    where
      go : (b : Bool) → pick b (Some (inserts_len w n bs)) None ≡ None → b ≡ false
      go true r = let z : ◌≡◌ {A = ℕ} 0 1 = cc in absurd (omega arith)
      go false r = refl

  -- the limits
  pub too-long : too_long (delta_in w n m bs) ≡ (long_cell (inserts_in w n bs) || ltb max32 n || ltb max32 m)
  unfolding too_long delta_in
  too-long = rw (length-inserts w n bs, length-hashes m (drop (inserts_len w n bs) bs))

-- ---- a loop over the inserts: it is at insert i, which begins at a place, and the inserts end at e

pub record Left (w n i at e : ℕ) (items : List ℕ) : Type 0 where
  pub fit : inserts_fit w (n - i) (drop at items) ≡ true
  pub ends : at + inserts_len w (n - i) (drop at items) ≡ e
  pub inside : e ≤ length items

pub left-start : (w n : ℕ) (items : List ℕ) → inserts_fit w n items ≡ true → Left w n 0 0 (inserts_len w n items) items
left-start w n items f =
    let z : n - 0 ≡ n = omega arith in
    record { fit = rw z f; ends = rw z (omega arith); inside = fit-inside w n items f }

module _ (w n i at e : ℕ) (items : List ℕ) where
  -- after the last insert the removes begin
  pub left-done : n ≤ i → Left w n i at e items → at ≡ e
  unfolding inserts_len
  left-done h l =
      let z : n - i ≡ 0 = omega arith in
      let q : at + inserts_len w 0 (drop at items) ≡ e = rw z at l.ends in
      omega arith

  pub inserts-done : n ≤ i → inserts_from w n i at items ≡ []
  unfolding inserts_in
  inserts-done h =
      let z : n - i ≡ 0 = omega arith in
      rw z

  module _ (more : i < n) where
    one : n - i ≡ suc (n - (i + 1))
    one = omega arith

    next : drop (insert_len w (drop at items)) (drop at items) ≡ drop (at + insert_len w (drop at items)) items
    next = drop-drop (insert_len w (drop at items)) at items

    -- the first of what is left, and the others
    pub inserts-turn : inserts_from w n i at items ≡ insert_in w (drop at items) ∷ inserts_from w n (i + 1) (at + insert_len w (drop at items)) items
    unfolding inserts_in
    inserts-turn = rw (one, ← next)

    module _ (l : Left w n i at e items) where
      fit-one : inserts_fit w (suc (n - (i + 1))) (drop at items) ≡ true
      fit-one = rw one at l.fit

      ends-one : at + (insert_len w (drop at items) + inserts_len w (n - (i + 1)) (drop (at + insert_len w (drop at items)) items)) ≡ e
      unfolding inserts_len
      ends-one = rw (one, next) at l.ends

      -- the insert stands whole, before the end of all
      pub left-head : at + insert_len w (drop at items) ≤ e
      left-head = omega (arith, ends-one)

      pub left-next : Left w n (i + 1) (at + insert_len w (drop at items)) e items
      left-next =
          record {
            fit = rw (← next) (fit-tail w (n - (i + 1)) (drop at items) fit-one);
            ends = omega (arith, ends-one);
            inside = l.inside;
          }

      -- and its cell has the length that it states
      pub left-cell : length (insert_in w (drop at items)).cell ≡ cell_len w (drop at items)
      unfolding insert_in
      left-cell = cell-length w (drop at items) (fit-head w (n - (i + 1)) (drop at items) fit-one)

    -- a cell over the limit among those left: this one, or a later one
    pub long-turn : Left w n i at e items
        → long_cell (inserts_from w n i at items) ≡ (ltb 65535 (cell_len w (drop at items)) || long_cell (inserts_from w n (i + 1) (at + insert_len w (drop at items)) items))
    unfolding any
    long-turn l = rw (inserts-turn, left-cell l)

-- the insert at hand lies inside the items
pub left-inside : {w n i at e : ℕ} {items : List ℕ} → Left w n i at e items → i < n → at + insert_len w (drop at items) ≤ length items
left-inside l more = omega (arith, left-head _ _ _ _ _ _ more l, l.inside)

-- the same loop before it is known that the inserts stand whole: where they end

pub end-start : (w n : ℕ) (items : List ℕ) → end_from w n 0 0 items ≡ inserts_end w n items
unfolding end_from inserts_end
end-start w n items =
    let z : n - 0 ≡ n = omega arith in
    let y : 0 + inserts_len w n items ≡ inserts_len w n items = omega arith in
    rw (z, y)

module _ (w n i at : ℕ) (items : List ℕ) where
  pub end-done : n ≤ i → end_from w n i at items ≡ Some at
  unfolding end_from inserts_fit inserts_len
  end-done h =
      let z : n - i ≡ 0 = omega arith in
      let y : at + 0 ≡ at = omega arith in
      rw (z, y)

  module _ (more : i < n) where
    one-more : n - i ≡ suc (n - (i + 1))
    one-more = omega arith

    -- an insert that runs past the items
    pub end-past : leb (insert_len w (drop at items)) (length (drop at items)) ≡ false → end_from w n i at items ≡ None
    unfolding end_from inserts_fit
    end-past s = rw (one-more, s)

    pub end-turn : leb (insert_len w (drop at items)) (length (drop at items)) ≡ true
        → end_from w n i at items ≡ end_from w n (i + 1) (at + insert_len w (drop at items)) items
    unfolding end_from inserts_fit inserts_len
    end-turn s =
        rw (
          one-more,
          s,
          drop-drop (insert_len w (drop at items)) at items,
          ← add_assoc at (insert_len w (drop at items)) (inserts_len w (n - (i + 1)) (drop (at + insert_len w (drop at items)) items)),
        )

-- ---- a loop over the removes: it is at remove j, and the removes begin at a place

module _ (m j at : ℕ) (items : List ℕ) where
  pub removes-done : m ≤ j → removes_from m j at items ≡ []
  unfolding hashes_in
  removes-done h =
      let z : m - j ≡ 0 = omega arith in
      rw z

  pub removes-turn : j < m → removes_from m j at items ≡ hash_in (drop (at + 32 * j) items) ∷ removes_from m (j + 1) at items
  unfolding hashes_in
  removes-turn h =
      let one : m - j ≡ suc (m - (j + 1)) = omega arith in
      let place : at + 32 * j + 32 ≡ at + 32 * (j + 1) = omega arith in
      rw (one, drop-drop 32 (at + 32 * j) items, place)

-- a loop's first step: the delta's lists
pub delta-inserts : (w n m : ℕ) (items : List ℕ) → (delta_in w n m items).inserts ≡ inserts_from w n 0 0 items
unfolding delta_in
delta-inserts w n m items =
    let z : n - 0 ≡ n = omega arith in
    rw z

pub delta-removes : (w n m : ℕ) (items : List ℕ) → (delta_in w n m items).removes ≡ removes_from m 0 (inserts_len w n items) items
unfolding delta_in
delta-removes w n m items =
    let z : m - 0 ≡ m = omega arith in
    let y : inserts_len w n items + 32 * 0 ≡ inserts_len w n items = omega arith in
    rw (z, y)
