-- What is decided of a snapshot before anything is written: what it says, with a plan in the place of the state.
-- Assumes nothing.
use Rattle.std.specs.Prelude.{◌≡◌, false, List, ℕ, ◌-◌, ◌/◌, ◌≤◌, length, drop, get_or, Result, Ok, Err}
use Rattle.base.specs.Logic.{any}
use Rattle.base.specs.Answers.{Outcome, refused, taken}
use Rattle.base.specs.declared.Refusal.{Refusal}
use Rattle.counters.specs.Counts.{Entry, State}
use Rattle.snapshot.specs.Read.{parse_snapshot}
use Rattle.snapshot_tiers.specs.Payloads.{rest_after}
use Rattle.snapshot_tiers.specs.Heads.{set_all}
use Rattle.snapshot_lanes.specs.Ends.{sets_end, place_or}
use Rattle.snapshot_judge.specs.declared.decide.Plan.{Plan}
use Rattle.snapshot_judge.specs.Judge.{Readable, small_of, big_of, far}

-- what there is to lay of a state that a snapshot says: the eight payloads from place 17 on end where the large counts start, 16 bytes each
unfoldable pub plan_of : List ℕ → State → Plan
plan_of s x =
    let end = place_or 0 (sets_end 8 17 s) in
    record { next = x.next; live = x.live; end = end; large = (length s - end) / 16; rows = length x.counts }

-- the refusal that is met, or what there is to lay; it doesn't depend on the starting threshold
abbrev pub verdict : List ℕ → Outcome State → Result Plan Refusal
verdict s (refused q) = Err q
verdict s (taken x) = Ok (plan_of s x)

unfoldable pub verdict_of : ℕ → List ℕ → Result Plan Refusal
verdict_of room s = verdict s (parse_snapshot 0 room s)

-- both tiers of a snapshot as one, by index
abbrev pub counts_of : List ℕ → ℕ → ℕ → List Entry
counts_of s end n = set_all (big_of s end n) (small_of s 17)

-- a plan is true of the bytes, and its counts fit the room
pub record Planned (s : List ℕ) (room : ℕ) (p : Plan) : Type 0 where
  pub readable : Readable s 17 p.end p.large
  pub rows : p.rows ≡ length (counts_of s p.end p.large)
  pub fits : p.rows ≤ room
  pub below : any (far p.next) (counts_of s p.end p.large) ≡ false

-- the version is 1, and the eight payloads are bitmaps that end at a place
pub record Reached (s : List ℕ) (end : ℕ) : Type 0 where
  pub long : 17 ≤ length s
  pub version : get_or s 0 0 ≡ 1
  pub ends : sets_end 8 17 s ≡ Ok end
  pub rest : taken (drop end s) ≡ rest_after 8 (drop 17 s)
  pub inside : end ≤ length s
