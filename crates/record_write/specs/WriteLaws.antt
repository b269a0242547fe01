-- What each step of writing leaves: the head, an insert, and a loop over the inserts.
-- Assumes nothing.
use Rattle.std.specs.Prelude.{◌≡◌, refl, true, false, ℕ, ◌+◌, ◌-◌, ◌≤◌, ◌<◌, length, take, drop, ltb}
use Rattle.std.proofs.Common.{sym, ap, ◌∙◌, arith, length-append, length-drop, drop-drop, ltb-false}
use mathlib.Core.List.{List, [], ◌++◌}
use Rattle.std.proofs.Math.Seq.{paste, paste-zero}
use Rattle.base.specs.Logic.{flat}
use Rattle.base.specs.Bytes.{digits}
use Rattle.base.specs.Laws.{length_digits}
use Rattle.base.specs.ListLaws.{or-false}
use Rattle.slices.specs.Laws.{length_part, part-lent}
use Rattle.cell_nursery.specs.Entries.{insert_bytes}
use Rattle.delta_items.specs.Walk.{cell_len, cell_in, insert_in, insert_len, inserts_in, inserts_len, inserts_fit, inserts_from, long_cell}
use Rattle.delta_items.specs.WalkLaws.{Left, left-start, left-head, left-next, inserts-turn, inserts-done, long-turn}
use Rattle.record_write.specs.Laid.{laid_at, head_bytes}
use Rattle.slices.specs.ByteLaws.{U8, u8-drop}
use Rattle.record_write.specs.ByteLaws.{insert-bytes, length-insert, length-laid, laid-append, laid-three}

-- ---- the head: four numbers

pub head-laid : (t a b c d : List ℕ) (p i n m : ℕ) → 56 ≤ length t → a ≡ paste t 32 (digits 256 8 p) 8 → b ≡ paste a 40 (digits 256 8 i) 8
    → c ≡ paste b 48 (digits 256 4 n) 4 → d ≡ paste c 52 (digits 256 4 m) 4 → d ≡ laid_at t 32 (head_bytes p i n m)
head-laid t a b c d p i n m h e f g k =
    let x = digits 256 8 p in
    let y = digits 256 8 i in
    let z = digits 256 4 n in
    let v = digits 256 4 m in
    let lx : length x ≡ 8 = length_digits 256 8 p in
    let ly : length y ≡ 8 = length_digits 256 8 i in
    let lz : length z ≡ 4 = length_digits 256 4 n in
    let lv : length v ≡ 4 = length_digits 256 4 m in
    let e' : a ≡ laid_at t 32 x = e ∙ ap (λ (j : ℕ). paste t 32 x j) (sym lx) in
    let f' : b ≡ laid_at a 40 y = f ∙ ap (λ (j : ℕ). paste a 40 y j) (sym ly) in
    let g' : c ≡ laid_at b 48 z = g ∙ ap (λ (j : ℕ). paste b 48 z j) (sym lz) in
    let k' : d ≡ laid_at c 52 v = k ∙ ap (λ (j : ℕ). paste c 52 v j) (sym lv) in
    let la : length a ≡ length t = ap length e' ∙ length-laid t 32 x (omega arith) in
    let three : laid_at (laid_at (laid_at a 40 y) 48 z) 52 v ≡ laid_at a 40 (y ++ (z ++ v)) = laid-three a 40 y z v 8 4 ly lz (omega arith) in
    k' ∙ rw (g', f') (three ∙ rw e' (laid-append t 32 x (y ++ (z ++ v)) 8 lx (omega arith)))

-- ---- an insert: what stands before its cell's length, the length, the cell

module _ (w : ℕ) (t a b c items : List ℕ) (to at n h : ℕ) (u : U8 items) (whole : at + insert_len w (drop at items) ≤ length items)
    (room : to + (46 + n) ≤ length t) (cell : n ≡ cell_len w (drop at items)) (head : h ≡ 44 + w) where
  pub insert-laid : a ≡ laid_at t to (take (at + 44 - at) (drop at items)) → b ≡ paste a (to + 44) (digits 256 2 n) 2
      → c ≡ laid_at b (to + 46) (take (at + h + n - (at + h)) (drop (at + h) items)) → c ≡ laid_at t to (insert_bytes (insert_in w (drop at items)))
  insert-laid e f g =
      let bs : List ℕ = drop at items in
      let fits : insert_len w bs ≤ length bs = omega (arith, length-drop at items) in
      let x : List ℕ = take 44 bs in
      let y : List ℕ = digits 256 2 n in
      let z : List ℕ = cell_in w bs in
      let lx : length x ≡ 44 = length_part bs 0 44 (omega arith) in
      let ly : length y ≡ 2 = length_digits 256 2 n in
      let place : at + h ≡ at + (44 + w) = omega arith in
      let ex : take (at + 44 - at) (drop at items) ≡ x = part-lent items at (at + 44) 44 (omega arith) in
      let ez : take (at + h + n - (at + h)) (drop (at + h) items) ≡ z =
      part-lent items (at + h) (at + h + n) n (omega arith)
      ∙ ap (λ (k : ℕ). take n (drop k items)) place
      ∙ ap (λ (l : List ℕ). take n l) (sym (drop-drop (44 + w) at items))
      ∙ ap (λ (k : ℕ). take k (drop (44 + w) bs)) cell in
      let f' : b ≡ laid_at a (to + 44) y = f ∙ ap (λ (j : ℕ). paste a (to + 44) y j) (sym ly) in
      let six : to + 44 + 2 ≡ to + 46 = omega arith in
      let three : laid_at (laid_at (laid_at t to x) (to + 44) y) (to + 46) z ≡ laid_at t to (x ++ (y ++ z)) = rw six at (laid-three t to x y z 44 2 lx ly (omega arith)) in
      let bytes : insert_bytes (insert_in w bs) ≡ x ++ (y ++ z) = insert-bytes w bs fits (u8-drop at items u) ∙ ap (λ (k : ℕ). x ++ (digits 256 2 k ++ z)) (sym cell) in
      g ∙ rw (ez, f', e, ex) (three ∙ ap (λ (l : List ℕ). laid_at t to l) (sym bytes))

-- ---- a loop over the inserts: it is at insert i, at a place of the items and one of the output

pub record Writing (w n i at to : ℕ) (items out start : List ℕ) : Type 0 where
  pub left : Left w n i at (inserts_len w n items) items
  pub short : long_cell (inserts_from w n i at items) ≡ false
  pub room : to + length (flat insert_bytes (inserts_from w n i at items)) ≤ length out
  pub same : length out ≡ length start
  -- what is left to write gives what is wanted
  pub done : laid_at out to (flat insert_bytes (inserts_from w n i at items)) ≡ laid_at start 56 (flat insert_bytes (inserts_in w n items))

pub writing_start : (w n : ℕ) (items out : List ℕ) → inserts_fit w n items ≡ true → long_cell (inserts_in w n items) ≡ false
    → 56 + length (flat insert_bytes (inserts_in w n items)) ≤ length out → Writing w n 0 0 56 items out out
writing_start w n items out f s r =
    let z : n - 0 ≡ n = omega arith in
    record { left = left-start w n items f; short = rw z s; room = rw z r; same = refl; done = rw z }

module _ (w n i at to : ℕ) (items out start : List ℕ) (s : Writing w n i at to items out start) where
  pub writing-done : n ≤ i → out ≡ laid_at start 56 (flat insert_bytes (inserts_in w n items))
  unfolding flat
  writing-done h =
      let e = inserts_len w n items in
      paste-zero out to [] ∙ rw (inserts-done w n i at e items h) at s.done

  module _ (more : i < n) where
    -- the insert's bytes, and those of the later ones
    abbrev bytes : List ℕ
    bytes = insert_bytes (insert_in w (drop at items))

    abbrev rest : List ℕ
    rest = flat insert_bytes (inserts_from w n (i + 1) (at + insert_len w (drop at items)) items)

    turn : flat insert_bytes (inserts_from w n i at items) ≡ bytes ++ rest
    unfolding flat
    turn = rw (inserts-turn w n i at (inserts_len w n items) items more)

    pub turn-whole : at + insert_len w (drop at items) ≤ length items
    turn-whole = omega (arith, left-head w n i at (inserts_len w n items) items more s.left, s.left.inside)

    tests : (ltb 65535 (cell_len w (drop at items)) ≡ false) × (long_cell (inserts_from w n (i + 1) (at + insert_len w (drop at items)) items) ≡ false)
    tests = or-false (ltb 65535 (cell_len w (drop at items))) _ (sym (long-turn w n i at (inserts_len w n items) items more s.left) ∙ s.short)

    pub turn-cell : cell_len w (drop at items) ≤ 65535
    turn-cell = ltb-false 65535 (cell_len w (drop at items)) tests.0

    long : length bytes ≡ 46 + cell_len w (drop at items)
    long = length-insert w (drop at items) (omega (arith, turn-whole, length-drop at items))

    both : to + (46 + cell_len w (drop at items) + length rest) ≤ length out
    both = omega (arith, long, length-append bytes rest, ap length turn, s.room)

    pub turn-room : to + (46 + cell_len w (drop at items)) ≤ length out
    turn-room = omega (arith, both)

    pub turn-next : (two : List ℕ) → two ≡ laid_at out to bytes → Writing w n (i + 1) (at + insert_len w (drop at items)) (to + (46 + cell_len w (drop at items))) items two start
    turn-next two e =
        let l : length two ≡ length out = ap length e ∙ length-laid out to bytes (omega (arith, both, long)) in
        record {
          left = left-next w n i at (inserts_len w n items) items more s.left;
          short = tests.1;
          room = omega (arith, both, l);
          same = l ∙ s.same;
          done = ap (λ (o : List ℕ). laid_at o (to + (46 + cell_len w (drop at items))) rest) e
              ∙ laid-append out to bytes rest (46 + cell_len w (drop at items)) long (omega (arith, both))
              ∙ ap (λ (x : List ℕ). laid_at out to x) (sym turn)
              ∙ s.done;
        }
