-- The parts of a snapshot by their places in the bytes, and what can be wrong with them.
-- Assumes nothing.
use Rattle.std.specs.Prelude.{◌≡◌, ◌⊎◌, true, List, [], ◌∷◌, ℕ, zero, suc, ◌+◌, ◌/◌, ◌%◌, ◌≤◌, ◌<◌, length, take, drop, get_or}
use Rattle.std.proofs.Math.Option.{none}
use Rattle.base.specs.Logic.{fold, elem}
use Rattle.base.specs.Maybe.{maybe}
use Rattle.base.specs.Bytes.{unle}
use Rattle.base.specs.ListLaws.{Some}
use Rattle.roaring.specs.Read.{parse64}
use Rattle.counters.specs.Counts.{Entry}
use Rattle.snapshot.specs.Read.{lay_bit}
use Rattle.snapshot_laws.specs.SetLaws.{set_row}

module _ (bs : List ℕ) where
  -- next index and live total, behind the version byte
  abbrev pub next_of : ℕ
  next_of = unle (take 8 (drop 1 bs))

  abbrev pub live_of : ℕ
  live_of = unle (take 8 (drop 9 bs))

  -- where the length of set k stands: 17 bytes lead, and each set before has 8 for its length and that many for its payload
  unfoldable pub start : ℕ → ℕ
  start zero = 17
  start (suc k) = start k + 8 + unle (take 8 (drop (start k) bs))

  abbrev pub payload : ℕ → List ℕ
  payload k = take (unle (take 8 (drop (start k) bs))) (drop (start k + 8) bs)

  -- the members of set k, and the counts that the first k sets come to
  unfoldable pub set_of : ℕ → List ℕ
  set_of k = maybe [] (λ ms. ms) (parse64 (payload k))

  unfoldable pub small_of : ℕ → List Entry
  small_of zero = []
  small_of (suc k) = lay_bit k (set_of k) (small_of k)

  -- what follows the eighth payload
  abbrev pub rest_of : List ℕ
  rest_of = drop (start 8) bs

-- n pairs of index and count
unfoldable pub pairs : ℕ → List ℕ → List Entry
pairs zero bs = []
pairs (suc n) bs = record { idx = unle (take 8 bs); count = unle (take 8 (drop 8 bs)) } ∷ pairs n (drop 16 bs)

module _ (bs : List ℕ) where
  -- the large tier as it stands in the bytes
  abbrev pub large_of : List Entry
  large_of = pairs (length (rest_of bs) / 16) (rest_of bs)

  -- the counts of both tiers: of a repeated large index the last
  unfoldable pub counts_of : List Entry
  counts_of = fold set_row (fold set_row large_of []) (small_of bs 8)

  -- ---- what can be wrong
  -- the bytes go on to the end of payload k, and it keeps the rules of a bitmap
  pub record Good (k : ℕ) : Type 0 where
    pub ends : start bs (suc k) ≤ length bs
    pub bitmap : ¬ (parse64 (payload bs k) ≡ none)

  abbrev pub GoodBefore : ℕ → Type 0
  GoodBefore k = (i : ℕ) → i < k → Good i

  -- the version is 1, and all eight payloads are good
  pub record Whole : Type 0 where
    pub version : get_or bs 0 0 ≡ 1
    pub sets : GoodBefore 8

  -- the bytes end before a payload does, and those before it are good
  pub record Torn : Type 0 where
    pub set : ℕ
    pub among : set < 8
    pub before : GoodBefore set
    pub ends_early : length bs < start bs (suc set)

  -- a payload breaks the rules, and those before it are good
  pub record BadPayload : Type 0 where
    pub set : ℕ
    pub among : set < 8
    pub before : GoodBefore set
    pub ends : start bs (suc set) ≤ length bs
    pub breaks : parse64 (payload bs set) ≡ none

  -- the rest isn't a multiple of 16, or a count is below 257
  abbrev pub BadRest : Type 0
  BadRest = (¬ (length (rest_of bs) % 16 ≡ 0)) ⊎ Some (λ e. e.count < 257) large_of

  -- an index is in one of the eight sets, and in the large tier
  pub record InSmall (i : ℕ) : Type 0 where
    pub set : ℕ
    pub among : set < 8
    pub member : elem i (set_of bs set) ≡ true

  abbrev pub InLarge : ℕ → Type 0
  InLarge i = Some (λ e. i ≡ e.idx) large_of

  -- an index is in both tiers, or not below the next index
  pub record InBoth : Type 0 where
    pub index : ℕ
    pub small : InSmall index
    pub large : InLarge index

  pub record NotBelow : Type 0 where
    pub index : ℕ
    pub stored : InSmall index ⊎ InLarge index
    pub high : next_of bs ≤ index

  abbrev pub Clash : Type 0
  Clash = InBoth ⊎ NotBelow

  -- more counts than there is room for
  abbrev pub Exceeds : ℕ → Type 0
  Exceeds room = room < length counts_of

  -- more counts than cells
  abbrev pub ExceedsCells : Type 0
  ExceedsCells = live_of bs < length counts_of
