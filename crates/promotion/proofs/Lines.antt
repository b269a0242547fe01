-- An entry on its way through drains, fixed by evaluation.
-- Assumes nothing.
use Rattle.std.specs.Prelude.{◌≡◌, refl, false, List, [], ◌∷◌, ◌++◌, ℕ, ◌-◌, ◌^◌, replicate}
use Rattle.std.proofs.Common.{sym, ◌∙◌, true≢false}
use Rattle.base.specs.Logic.{pick, zeros}
use Rattle.base.specs.ListLaws.{here}
use Rattle.base.specs.Answers.{answer_number}
use Rattle.counters.specs.Maintenance.{standard}
use Rattle.cell_nursery.specs.Entries.{Entry}
use Rattle.cell_nursery.specs.Items.{item_bytes}
use Rattle.cell_nursery.specs.Drain.{promoted_bytes}
use Rattle.node_box.specs.Box.{standard_settings, Box, Call, delta, drain, made, drain_into, step, run}
use Rattle.node_box.specs.Open.{evaluation}
use Rattle.promotion.specs.Promotion.{lent_delta, round_of, promoted_by, promoted_in, any_accepted, with_hash, promotes, Inserted}

-- a fresh box with room for two entries and two cell bytes
abbrev box : Box
box = made standard_settings 0 [] (zeros 16) (zeros 10) (zeros 2)

-- an entry of the hash 1, born at a round; deltas that insert it, remove it, and do both at once
abbrev entry : ℕ → Entry
entry born = record { hash = 1; idx = 7; born = born; cell = 8 ∷ 9 ∷ [] }

abbrev put : ℕ → Call
put born = delta 0 false 1 0 (item_bytes (record { inserts = entry born ∷ []; removes = [] }))

abbrev gone : Call
gone = delta 0 false 0 1 (item_bytes (record { inserts = []; removes = 1 ∷ [] }))

abbrev passing : Call
passing = delta 0 false 1 1 (item_bytes (record { inserts = entry 5 ∷ []; removes = 1 ∷ [] }))

-- the box after a first call and some more; what a drain at a round then hands out, and what is claimed of the entry born at 5
abbrev after : Call → List Call → Box
after x xs = run box (x ∷ xs)

abbrev handed : Call → List Call → ℕ → List Entry
handed x xs round = promoted_by (after x xs) (drain round 44)

abbrev claimed : Call → List Call → ℕ → List Entry
claimed x xs round = pick (promotes (entry 5) box (x ∷ xs) round 44) (entry 5 ∷ []) []

abbrev answer : Box → Call → ℕ
answer b x = answer_number (step b x).0

pub record Lines : Type 0 where
  -- at 104 nothing, at 105 the entry, in 44 bytes at the front of the output
  early : handed (put 5) [] 104 ≡ []
  due : handed (put 5) [] 105 ≡ entry 5 ∷ []
  due_bytes : (drain_into (after (put 5) []) 105 (replicate 50 255)).out ≡ promoted_bytes (entry 5) ++ replicate 6 255
  due_length : (drain_into (after (put 5) []) 105 (replicate 50 255)).result.len ≡ 44
  -- not again: at the same round, a later one, an earlier one
  again : handed (put 5) (drain 105 44 ∷ []) 105 ≡ []
  again_later : handed (put 5) (drain 105 44 ∷ []) 4000 ≡ []
  again_back : handed (put 5) (drain 4000 44 ∷ []) 105 ≡ []
  -- a drain at 104 doesn't count, nor one that is refused: an output of 43 bytes is too short
  waits : handed (put 5) (drain 104 44 ∷ []) 105 ≡ entry 5 ∷ []
  short : answer (after (put 5) []) (drain 105 43) ≡ 15
  waits_refused : handed (put 5) (drain 105 43 ∷ []) 105 ≡ entry 5 ∷ []
  short_bytes : (drain_into (after (put 5) []) 105 (replicate 43 255)).out ≡ replicate 43 255
  -- rounds go backwards and forwards again
  backwards : handed (put 5) (drain 99 44 ∷ drain 50 44 ∷ []) 200 ≡ entry 5 ∷ []
  -- another insert of the hash is refused with 12, and the entry waits on
  present : answer (after (put 5) []) (put 9) ≡ 12
  waits_present : handed (put 5) (put 9 ∷ []) 105 ≡ entry 5 ∷ []
  -- removed: not handed out; inserted again: another entry, handed out once for itself
  removed : handed (put 5) (gone ∷ []) 105 ≡ []
  anew : handed (put 5) (drain 105 44 ∷ gone ∷ put 9 ∷ []) 109 ≡ entry 9 ∷ []
  anew_once : handed (put 5) (drain 105 44 ∷ gone ∷ put 9 ∷ drain 109 44 ∷ []) 110 ≡ []
  -- born at 2 ^ 32 - 101: at the last round; born one later: never
  last_round : handed (put (2 ^ 32 - 101)) [] (2 ^ 32 - 1) ≡ entry (2 ^ 32 - 101) ∷ []
  never : handed (put (2 ^ 32 - 100)) [] (2 ^ 32 - 1) ≡ []
  -- all of a list of drains together hand it out once
  together : promoted_in box (put 5 ∷ drain 99 44 ∷ drain 105 43 ∷ drain 200 44 ∷ drain 105 44 ∷ []) ≡ entry 5 ∷ []

-- the same box with another delay
abbrev waits_for : ℕ → Box
waits_for delay = made (record { delay = delay; shrink = standard }) 0 [] (zeros 16) (zeros 10) (zeros 2)

abbrev handed_after : ℕ → ℕ → ℕ → List Entry
handed_after delay born round = promoted_by (run (waits_for delay) (put born ∷ [])) (drain round 44)

pub record DelayLines : Type 0 where
  -- a delay of 10,000 rounds, and of one
  long_early : handed_after 10000 5 10004 ≡ []
  long_due : handed_after 10000 5 10005 ≡ entry 5 ∷ []
  short_early : handed_after 1 5 5 ≡ []
  short_due : handed_after 1 5 6 ≡ entry 5 ∷ []
  -- with a delay of one round an entry born at the last but one is handed out, one born at the last never
  short_last : handed_after 1 (2 ^ 32 - 2) (2 ^ 32 - 1) ≡ entry (2 ^ 32 - 2) ∷ []
  short_never : handed_after 1 (2 ^ 32 - 1) (2 ^ 32 - 1) ≡ []

pub record ClaimLines : Type 0 where
  -- what is claimed: of a round too early, of a drain that was refused, of one that was taken
  claim_early : with_hash 1 (handed (put 5) [] 104) ≡ claimed (put 5) [] 104
  claim_refused : with_hash 1 (handed (put 5) (drain 104 44 ∷ drain 105 43 ∷ []) 105) ≡ claimed (put 5) (drain 104 44 ∷ drain 105 43 ∷ []) 105
  claim_again : with_hash 1 (handed (put 5) (drain 106 44 ∷ []) 105) ≡ claimed (put 5) (drain 106 44 ∷ []) 105
  -- and of whom: of an entry that stays, after calls of which some are refused
  inserted : Inserted (entry 5) box (put 5) (drain 104 44 ∷ put 9 ∷ drain 105 43 ∷ [])
  -- but not of one that is removed later, or by the delta that inserts it; that one is never handed out
  not_removed : ¬ Inserted (entry 5) box (put 5) (gone ∷ [])
  not_passing : ¬ Inserted (entry 5) box passing []
  passing_taken : answer box passing ≡ 0
  passing_none : handed passing [] 105 ≡ []

pub lines : Lines
unfolding evaluation lent_delta round_of promoted_by promoted_in any_accepted
lines =
    record {
      early = refl;
      due = refl;
      due_bytes = refl;
      due_length = refl;
      again = refl;
      again_later = refl;
      again_back = refl;
      waits = refl;
      short = refl;
      waits_refused = refl;
      short_bytes = refl;
      backwards = refl;
      present = refl;
      waits_present = refl;
      removed = refl;
      anew = refl;
      anew_once = refl;
      last_round = refl;
      never = refl;
      together = refl;
    }

pub delay-lines : DelayLines
unfolding evaluation lent_delta round_of promoted_by promoted_in any_accepted
delay-lines = record { long_early = refl; long_due = refl; short_early = refl; short_due = refl; short_last = refl; short_never = refl }

-- each side by itself
record Sides : Type 0 where
  early_handed : with_hash 1 (handed (put 5) [] 104) ≡ []
  early_claimed : claimed (put 5) [] 104 ≡ []
  refused_handed : with_hash 1 (handed (put 5) (drain 104 44 ∷ drain 105 43 ∷ []) 105) ≡ entry 5 ∷ []
  refused_claimed : claimed (put 5) (drain 104 44 ∷ drain 105 43 ∷ []) 105 ≡ entry 5 ∷ []
  again_handed : with_hash 1 (handed (put 5) (drain 106 44 ∷ []) 105) ≡ []
  again_claimed : claimed (put 5) (drain 106 44 ∷ []) 105 ≡ []

sides : Sides
unfolding evaluation lent_delta round_of promoted_by promoted_in any_accepted
sides = record { early_handed = refl; early_claimed = refl; refused_handed = refl; refused_claimed = refl; again_handed = refl; again_claimed = refl }

pub claim-lines : ClaimLines
unfolding evaluation lent_delta round_of promoted_by promoted_in any_accepted
claim-lines =
    record {
      claim_early = sides.early_handed ∙ sym sides.early_claimed;
      claim_refused = sides.refused_handed ∙ sym sides.refused_claimed;
      claim_again = sides.again_handed ∙ sym sides.again_claimed;
      inserted = record { state = record { held = refl; words = refl }; arguments = refl; inserts = here refl; taken = refl; stays = refl };
      not_removed = λ i. true≢false i.stays;
      not_passing = λ i. true≢false i.stays;
      passing_taken = refl;
      passing_none = refl;
    }
