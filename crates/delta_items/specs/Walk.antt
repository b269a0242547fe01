-- The items of a lent delta, as they are walked by places: total, so that an insert is read from any bytes, and a test says whether it stands there whole.
-- w is how many bytes a cell's length has.
-- Assumes nothing.
use Rattle.std.specs.Prelude.{ℕ, zero, suc, ◌+◌, ◌-◌, ◌*◌, Bool, true, ◌&&◌, List, [], ◌∷◌, length, take, drop, leb, ltb, Option, Some, None}
use Rattle.base.specs.Logic.{pick, any}
use Rattle.base.specs.Bytes.{unle, unbe}
use Rattle.cell_nursery.specs.Entries.{Entry}
use Rattle.cell_nursery.specs.Items.{Delta}

-- ---- the insert that bytes start with

abbrev pub hash_in : List ℕ → ℕ
hash_in bs = unbe (take 32 bs)

abbrev pub idx_in : List ℕ → ℕ
idx_in bs = unle (take 8 (drop 32 bs))

abbrev pub born_in : List ℕ → ℕ
born_in bs = unle (take 4 (drop 40 bs))

abbrev pub cell_len : ℕ → List ℕ → ℕ
cell_len w bs = unle (take w (drop 44 bs))

abbrev pub cell_in : ℕ → List ℕ → List ℕ
cell_in w bs = take (cell_len w bs) (drop (44 + w) bs)

unfoldable pub insert_in : ℕ → List ℕ → Entry
insert_in w bs = record { hash = hash_in bs; idx = idx_in bs; born = born_in bs; cell = cell_in w bs }

-- its bytes
abbrev pub insert_len : ℕ → List ℕ → ℕ
insert_len w bs = 44 + w + cell_len w bs

-- ---- n inserts, one after another: the list, its bytes, and whether it stands there whole

unfoldable pub inserts_in : ℕ → ℕ → List ℕ → List Entry
inserts_in w zero bs = []
inserts_in w (suc n) bs = insert_in w bs ∷ inserts_in w n (drop (insert_len w bs) bs)

unfoldable pub inserts_len : ℕ → ℕ → List ℕ → ℕ
inserts_len w zero bs = 0
inserts_len w (suc n) bs = insert_len w bs + inserts_len w n (drop (insert_len w bs) bs)

unfoldable pub inserts_fit : ℕ → ℕ → List ℕ → Bool
inserts_fit w zero bs = true
inserts_fit w (suc n) bs = leb (insert_len w bs) (length bs) && inserts_fit w n (drop (insert_len w bs) bs)

-- where they end, where they stand whole
unfoldable pub inserts_end : ℕ → ℕ → List ℕ → Option ℕ
inserts_end w n bs = pick (inserts_fit w n bs) (Some (inserts_len w n bs)) None

-- one of them has a cell over 65,535 bytes
abbrev pub long_cell : List Entry → Bool
long_cell es = any (λ e. ltb 65535 (length e.cell)) es

-- ---- n hashes, one after another

unfoldable pub hashes_in : ℕ → List ℕ → List ℕ
hashes_in zero bs = []
hashes_in (suc n) bs = hash_in bs ∷ hashes_in n (drop 32 bs)

-- ---- a delta of so many inserts and removes

-- its items stand there whole
unfoldable pub items_fit : ℕ → ℕ → ℕ → List ℕ → Bool
items_fit w inserts removes bs = inserts_fit w inserts bs && leb (32 * removes) (length bs - inserts_len w inserts bs)

-- the delta, where they do
unfoldable pub delta_in : ℕ → ℕ → ℕ → List ℕ → Delta
delta_in w inserts removes bs = record { inserts = inserts_in w inserts bs; removes = hashes_in removes (drop (inserts_len w inserts bs) bs) }

-- where its removes begin, where its items stand whole
unfoldable pub removes_at : ℕ → ℕ → ℕ → List ℕ → Option ℕ
removes_at w inserts removes bs = pick (items_fit w inserts removes bs) (Some (inserts_len w inserts bs)) None

-- ---- the same from a place on

-- inserts i to n, the i-th of which begins at a place: what a loop over the inserts has yet to do
abbrev pub inserts_from : ℕ → ℕ → ℕ → ℕ → List ℕ → List Entry
inserts_from w n i at items = inserts_in w (n - i) (drop at items)

-- where they end, where they stand whole
unfoldable pub end_from : ℕ → ℕ → ℕ → ℕ → List ℕ → Option ℕ
end_from w n i at items = pick (inserts_fit w (n - i) (drop at items)) (Some (at + inserts_len w (n - i) (drop at items))) None

-- removes j to m, where the removes begin at a place
abbrev pub removes_from : ℕ → ℕ → ℕ → List ℕ → List ℕ
removes_from m j at items = hashes_in (m - j) (drop (at + 32 * j) items)
