-- The eight sets side by side, as the code holds them.
-- Assumes nothing.
use Rattle.std.specs.Prelude.{◌≡◌, true, Bool, false, List, [], ◌∷◌, map, ℕ, suc, ◌+◌, ◌-◌, ◌^◌, ◌≤◌, ◌<◌, length, take, drop, get_or, eqb, Option, Some, None}
use Rattle.std.specs.Option.{option_map}
use Rattle.base.specs.Logic.{pick}
use Rattle.roaring.specs.Read.{is_some, parse64}
use Rattle.roaring_cursor.specs.Cursor.{Good, members_from}
use Rattle.snapshot_tiers.specs.declared.Head.{Head}
use Rattle.snapshot_lanes.specs.declared.lanes.Lane.{Lane}
use Rattle.snapshot_tiers.specs.Payloads.{payload_of, size_of, sets_of}
use Rattle.snapshot_tiers.specs.Heads.{past, no_head, lower_by}

-- a lane's bytes, and the members that it has left: none without a first one
abbrev pub part_of : List ℕ → Lane → List ℕ
part_of s l = take (l.end - l.at) (drop l.at s)

abbrev pub led_by : Option ℕ → List ℕ → List ℕ
led_by None xs = []
led_by (Some x) xs = x ∷ xs

abbrev pub lane_list : List ℕ → Lane → List ℕ
lane_list s l = led_by l.head (members_from (part_of s l) l.cursor)

-- whether a number is the first member
abbrev pub leads : Option ℕ → ℕ → Bool
leads None x = false
leads (Some y) x = eqb y x

pub record Open (s : List ℕ) (l : Lane) : Type 0 where
  pub order : l.at ≤ l.end
  pub inside : l.end ≤ length s
  pub good : Good (part_of s l) l.cursor

-- a lane with given members left
pub record LaneOf (s xs : List ℕ) (l : Lane) : Type 0 where
  pub list : lane_list s l ≡ xs
  pub opened : Open s l

-- a payload stands at p, led by its length
pub record AtFirst (s : List ℕ) (p : ℕ) : Type 0 where
  pub led : p + 8 ≤ length s
  pub inside : p + 8 + size_of (drop p s) ≤ length s
  pub bitmap : is_some (parse64 (payload_of (drop p s))) ≡ true

abbrev pub AllOpen : List ℕ → List Lane → Type 0
AllOpen s ls = (d : Lane) (k : ℕ) → k < length ls → Open s (get_or ls k d)

-- what lanes have left
abbrev pub lists_of : List ℕ → List Lane → List (List ℕ)
lists_of s ls = map (lane_list s) ls

-- the lowest first member of lanes; what they lay at x, from bit k on; the first count of the small tier
unfoldable pub lowest_lane : List Lane → Option Head
lowest_lane [] = no_head
lowest_lane (l ∷ ls) = lower_by l.head (lowest_lane ls)

unfoldable pub code_lanes : ℕ → ℕ → List Lane → ℕ
code_lanes k x [] = 0
code_lanes k x (l ∷ ls) = pick (leads l.head x) (2 ^ k) 0 + code_lanes (suc k) x ls

abbrev pub coded : List Lane → Head → Head
coded ls h = record { idx = h.idx; count = 1 + code_lanes 0 h.idx ls }

unfoldable pub small_head : List Lane → Option Head
small_head ls = option_map (coded ls) (lowest_lane ls)

-- lanes past an index, and those of eight payloads
pub record Advanced (s : List ℕ) (x : ℕ) (ls r : List Lane) : Type 0 where
  pub lists : lists_of s r ≡ map (past x) (lists_of s ls)
  pub opened : AllOpen s r

pub record Opened (s : List ℕ) (p : ℕ) (r : List Lane) : Type 0 where
  pub lists : lists_of s r ≡ sets_of 8 (drop p s)
  pub opened : AllOpen s r
