-- The two tiers of a snapshot, and the first index of sets, of large counts, and of both, as the code finds it.
-- Assumes nothing.
use Rattle.std.specs.Prelude.{◌≡◌, Bool, true, ◌&&◌, List, [], ◌∷◌, map, ℕ, zero, suc, ◌≤◌, take, drop, leb, ltb, eqb, Option, Some, None}
use Rattle.std.specs.Option.{is_some}
use Rattle.base.specs.Logic.{pick, fold, any}
use Rattle.base.specs.Bytes.{unle}
use Rattle.counters.specs.Counts.{Entry, stored_at, set_count}
use Rattle.snapshot_tiers.specs.declared.Head.{Head}
use Rattle.snapshot_tiers.specs.Payloads.{lay_all}

-- a count at an index
abbrev pub entry : ℕ → ℕ → Entry
entry i n = record { idx = i; count = n }

-- the small tier of sets
abbrev pub tier_of : List (List ℕ) → List Entry
tier_of xss = lay_all 0 xss []

-- a set without its first member, where that is x
unfoldable pub past : ℕ → List ℕ → List ℕ
past x [] = []
past x (y ∷ ys) = pick (eqb y x) ys (y ∷ ys)

-- no count, and a count at an index
abbrev pub no_head : Option Head
no_head = None

abbrev pub head_at : ℕ → ℕ → Option Head
head_at i n = Some (record { idx = i; count = n })

-- the index of a count, and the count itself: 0 where there is none
abbrev pub idx_of : Option Head → ℕ
idx_of None = 0
idx_of (Some h) = h.idx

abbrev pub count_of : Option Head → ℕ
count_of None = 0
count_of (Some h) = h.count

-- the lower of a set's first index, where there is one, and of what was found
abbrev pub lower_by : Option ℕ → Option Head → Option Head
lower_by None h = h
lower_by (Some x) h = pick (is_some h && leb (idx_of h) x) h (head_at x 0)

-- the lowest first index of sets
unfoldable pub lowest : List (List ℕ) → Option Head
lowest [] = no_head
lowest ([] ∷ xss) = lowest xss
lowest ((x ∷ xs) ∷ xss) = lower_by (Some x) (lowest xss)

-- n large counts as the bytes list them
unfoldable pub raw_of : ℕ → List ℕ → List Entry
raw_of zero bs = []
raw_of (suc n) bs = entry (unle (take 8 bs)) (unle (take 8 (drop 8 bs))) ∷ raw_of n (drop 16 bs)

-- their indices
abbrev pub idxs_of : ℕ → List ℕ → List ℕ
idxs_of n bs = map (λ e. e.idx) (raw_of n bs)

-- a count that belongs to the small tier
abbrev pub low : Entry → Bool
low e = ltb e.count 257

-- counts set one after the other
abbrev pub set_all : List Entry → List Entry → List Entry
set_all new es = fold (λ e. set_count e.idx e.count) new es

-- the lowest index from lo on, with its last count
abbrev pub lower_from : ℕ → Entry → Option Head → Option Head
lower_from lo e h = pick (ltb e.idx lo) h (pick (is_some h && ltb (idx_of h) e.idx) h (head_at e.idx e.count))

-- the head from some place on that isn't past lo
pub record HeadTo (lo : ℕ) (raw : List Entry) (b : Option Head) : Type 0 where
  pub from : ℕ
  pub below : from ≤ lo
  pub is : b ≡ fold (lower_from from) raw no_head

-- a count is stored at the index of one of them
abbrev pub clashes : List Entry → List Entry → Bool
clashes big small = any (λ e. ltb 0 (stored_at e.idx small)) big

-- the lower of a small and a large count, the large one where they are at one index; and whether they are
abbrev pub first_of : Option Head → Option Head → Option Head
first_of a b = pick (is_some a && (pick (is_some b) (ltb (idx_of a) (idx_of b)) true)) a b

abbrev pub meet : Option Head → Option Head → Bool
meet a b = is_some a && (is_some b && eqb (idx_of a) (idx_of b))
