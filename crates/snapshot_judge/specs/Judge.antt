-- Both tiers as one: what is judged of them.
-- Assumes nothing.
use Rattle.std.specs.Prelude.{◌≡◌, Bool, true, false, ◌||◌, List, [], ℕ, ◌+◌, ◌*◌, ◌≤◌, length, drop, leb, Option, Some, None}
use Rattle.base.specs.Logic.{pick, any}
use Rattle.counters.specs.Counts.{Entry}
use Rattle.snapshot_tiers.specs.Payloads.{sets_of, rest_after, is_taken}
use Rattle.snapshot_tiers.specs.Heads.{tier_of, raw_of, low, set_all, clashes}

-- the payloads are there, and n large counts, none of which belongs to the small tier
pub record Readable (s : List ℕ) (at end n : ℕ) : Type 0 where
  pub sets : is_taken (rest_after 8 (drop at s)) ≡ true
  pub inside : end + 16 * n ≤ length s
  pub high : any low (raw_of n (drop end s)) ≡ false

-- the two tiers
abbrev pub small_of : List ℕ → ℕ → List Entry
small_of s at = tier_of (sets_of 8 (drop at s))

abbrev pub big_of : List ℕ → ℕ → ℕ → List Entry
big_of s end n = set_all (raw_of n (drop end s)) []

abbrev pub far : ℕ → Entry → Bool
far next e = leb next e.idx

-- what is judged, where some counts have been passed: nothing, where an index is in both tiers or isn't below the next one; else how many counts there are
unfoldable pub judged_from : ℕ → ℕ → List Entry → List Entry → Option ℕ
judged_from rows next big small =
    pick (clashes big small || any (far next) (set_all big small)) None (Some (rows + length (set_all big small)))
