-- Where the payloads of a snapshot end, each led by its length.
-- Assumes nothing.
use Rattle.std.specs.Prelude.{◌||◌, List, ℕ, zero, suc, ◌+◌, length, drop, ltb, Result, Ok, Err}
use Rattle.base.specs.Logic.{pick}
use Rattle.base.specs.declared.Refusal.{Refusal}
use Rattle.base.specs.declared.Refusal.TheVariants.{TornSnapshot, BadBitmap}
use Rattle.roaring.specs.Read.{is_some, parse64}
use Rattle.snapshot_tiers.specs.Payloads.{size_of, payload_of}

-- the place behind n payloads from p on; the first that runs past the bytes or is no bitmap refuses
unfoldable pub sets_end : ℕ → ℕ → List ℕ → Result ℕ Refusal
sets_end zero p s = Ok p
sets_end (suc n) p s =
    let q = p + 8 + size_of (drop p s) in
    pick (ltb (length s) (p + 8) || ltb (length s) q) (Err TornSnapshot) (pick (is_some (parse64 (payload_of (drop p s)))) (sets_end n q s) (Err BadBitmap))

-- the place behind them, or another where that is refused
abbrev pub place_or : ℕ → Result ℕ Refusal → ℕ
place_or p (Ok e) = e
place_or p (Err q) = p
