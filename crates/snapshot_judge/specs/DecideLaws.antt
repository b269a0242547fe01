-- Each way in which a snapshot is decided before anything is written, and what is true of the verdict.
-- Assumes nothing.
use Rattle.std.specs.Prelude.{◌≡◌, Bool, not, ◌||◌, ℕ, ◌+◌, ◌-◌, ◌/◌, ◌%◌, ◌≤◌, ◌<◌, take, drop, get_or, eqb, Option, Some, None, Result, Ok, Err}
use Rattle.std.proofs.Math.Path.{refl, sym, ap}
use Rattle.std.proofs.Common.{subst, ◌∙◌, length-drop}
use Rattle.std.proofs.Math.Bool.{true, false}
use mathlib.Core.List.{List, [], ◌∷◌}
use native.Mathlib.Omega.{arith}
use Rattle.std.proofs.lemmas.Option.{none-some, same_Some}
use Rattle.std.proofs.Math.Decide.{dec_le, dec_lt, ℕ_discrete}
use Rattle.std.proofs.Math.ListN.{length}
use borrow.Author.Tests.{le-ltb, lt-ltb, eq-eqb, ne_eqb}
use Rattle.base.specs.Logic.{pick, any, from}
use Rattle.base.specs.Bytes.{unle, read_le}
use Rattle.base.specs.ListLaws.{or-false}
use Rattle.base.specs.Answers.{Outcome, refused, taken, ◌>>=◌, ◌>>◌, refuse_if, or_refuse}
use Rattle.base.specs.declared.Refusal.{Refusal}
use Rattle.base.specs.declared.Refusal.TheVariants.{TableFull, Version, TornSnapshot, BadLarge, TierClash}
use Rattle.slices.specs.NumberLaws.{read_le-at, read_le-short}
use Rattle.counters.specs.Counts.{Entry, State, fresh_maintenance}
use Rattle.snapshot.specs.Read.{read_sets, read_large, joined, parse_snapshot}
use Rattle.snapshot_judge.specs.declared.decide.Plan.{Plan}
use Rattle.snapshot_tiers.specs.Payloads.{rest_after, is_taken}
use Rattle.snapshot_tiers.specs.PayloadLaws.{sets-read}
use Rattle.snapshot_tiers.specs.Heads.{low, raw_of, set_all, clashes}
use Rattle.snapshot_tiers.specs.LargeLaws.{large-read}
use Rattle.snapshot_lanes.specs.Ends.{sets_end}
use Rattle.snapshot_lanes.specs.EndLaws.{Ended, ended}
use Rattle.snapshot_judge.specs.Judge.{small_of, big_of, far, judged_from}
use Rattle.snapshot_judge.specs.Decide.{counts_of, Planned, Reached, plan_of, verdict, verdict_of}

-- the numbers that follow the version
abbrev pub next_of : List ℕ → ℕ
next_of s = unle (take 8 (drop 1 s))

abbrev pub live_of : List ℕ → ℕ
live_of s = unle (take 8 (drop 9 s))

abbrev pub state_of : ℕ → List ℕ → Plan → State
state_of base s p = record { next = p.next; live = p.live; counts = counts_of s p.end p.large; maintenance = fresh_maintenance base }

-- what a verdict says that the snapshot is
abbrev pub outcome_of : ℕ → List ℕ → Result Plan Refusal → Outcome State
outcome_of base s (Ok p) = taken (state_of base s p)
outcome_of base s (Err q) = refused q

-- what is true of a verdict
abbrev pub PlanOf : List ℕ → ℕ → Result Plan Refusal → Type 0
PlanOf s room (Ok p) = Planned s room p
PlanOf s room (Err q) = Unit {0}

pub record Decided (s : List ℕ) (room : ℕ) (r : Result Plan Refusal) : Type 0 where
  pub outcome : (base : ℕ) → outcome_of base s r ≡ parse_snapshot base room s
  pub plan : PlanOf s room r

pub reached-taken : (s : List ℕ) (end : ℕ) → Reached s end → is_taken (rest_after 8 (drop 17 s)) ≡ true
reached-taken s end p = rw (← p.rest)

-- ---- what was judged
module _ (next : ℕ) (big small : List Entry) where
  pub judged-clash : None ≡ judged_from 0 next big small → (clashes big small || any (far next) (set_all big small)) ≡ true
  unfolding judged_from
  judged-clash q = go (clashes big small || any (far next) (set_all big small)) q
    where
      go : (b : Bool) → None ≡ pick b None (Some (0 + length (set_all big small))) → b ≡ true
      go true e = refl
      go false e = absurd (none-some (0 + length (set_all big small)) e)

  module _ (rows : ℕ) (q : Some rows ≡ judged_from 0 next big small) where
    judged-else : ((clashes big small || any (far next) (set_all big small)) ≡ false) × (rows ≡ length (set_all big small))
    unfolding judged_from
    judged-else = go (clashes big small || any (far next) (set_all big small)) q
      where
        go : (b : Bool) → Some rows ≡ pick b None (Some (0 + length (set_all big small))) → (b ≡ false) × (rows ≡ length (set_all big small))
        go true e = absurd (none-some rows (sym e))
        go false e = let z = same_Some rows (0 + length (set_all big small)) e in (refl, omega arith)

    pub judged-clear : (clashes big small || any (far next) (set_all big small)) ≡ false
    judged-clear = judged-else.0

    pub judged-rows : rows ≡ length (set_all big small)
    judged-rows = judged-else.1

    pub judged-below : any (far next) (set_all big small) ≡ false
    judged-below = (or-false (clashes big small) (any (far next) (set_all big small)) judged-clear).1

-- ---- the steps of reading
after_sets : ℕ → ℕ → ℕ → ℕ → List Entry → List ℕ → Outcome State
after_sets base room next live small rest = do
  refuse_if (not (eqb (length rest % 16) 0)) BadLarge
  big ← read_large (length rest / 16) [] rest
  joined base room next live small big

module _ (base room : ℕ) where
  pub read_none : (s : List ℕ) → length s ≡ 0 → refused TornSnapshot ≡ parse_snapshot base room s
  unfolding parse_snapshot
  read_none [] e = refl
  read_none (v ∷ bs) e = absurd (omega arith)

  pub read-version : (s : List ℕ) → 0 < length s → (get_or s 0 0 ≡ 1 → ⊥) → refused Version ≡ parse_snapshot base room s
  unfolding parse_snapshot
  read-version [] h e = absurd (omega arith)
  read-version (v ∷ bs) h e = rw (ne_eqb v 1 e)

  read_one : (s : List ℕ) → 0 < length s → get_or s 0 0 ≡ 1
      → parse_snapshot base room s
      ≡ (or_refuse TornSnapshot (read_le 8 (drop 1 s)) >>= (λ x. or_refuse TornSnapshot (read_le 8 x.1) >>= (λ y.
      read_sets (from 0 8) [] y.1 >>= (λ z. after_sets base room x.0 y.0 z.0 z.1))))
  unfolding parse_snapshot after_sets
  read_one [] h e = absurd (omega arith)
  read_one (v ∷ bs) h e = rw (eq-eqb v 1 e)

  pub read_short : (s : List ℕ) → 0 < length s → length s < 17 → get_or s 0 0 ≡ 1 → refused TornSnapshot ≡ parse_snapshot base room s
  read_short s h k e =
      elim (dec_le 9 (length s)) [
        | yes g ↦ sym (read_one s h e ∙ rw (read_le-at 8 1 s (omega arith), read_le-short 8 9 s (omega arith) (omega arith)))
        | no g ↦ sym (read_one s h e ∙ rw (read_le-short 8 1 s (omega arith) (omega arith)))
      ]

  module _ (s : List ℕ) (h : 17 ≤ length s) (e : get_or s 0 0 ≡ 1) where
    read-sets : parse_snapshot base room s ≡ (rest_after 8 (drop 17 s) >>= (λ r. after_sets base room (next_of s) (live_of s) (small_of s 17) r))
    read-sets =
        read_one s (omega arith) e ∙ rw (read_le-at 8 1 s (omega arith), read_le-at 8 9 s (omega arith), sets-read 8 0 [] (drop 17 s)) (later (rest_after 8 (drop 17 s)))
      where
        later : (o : Outcome (List ℕ))
            → (◌>>=◌ {A = List Entry × List ℕ} (o >>= (λ r. taken (small_of s 17, r))) (λ z. after_sets base room (next_of s) (live_of s) z.0 z.1))
            ≡ (o >>= (λ r. after_sets base room (next_of s) (live_of s) (small_of s 17) r))
        later (refused q) = refl
        later (taken r) = refl

    pub read-refused : (q : Refusal) → refused q ≡ rest_after 8 (drop 17 s) → refused q ≡ parse_snapshot base room s
    read-refused q f = sym (read-sets ∙ rw (← f))

  module _ (s : List ℕ) (end : ℕ) (p : Reached s end) where
    reached : parse_snapshot base room s ≡ after_sets base room (next_of s) (live_of s) (small_of s 17) (drop end s)
    reached = read-sets s p.long p.version ∙ rw (← p.rest)

    pub read-ragged : ((length s - end) % 16 ≡ 0 → ⊥) → refused BadLarge ≡ parse_snapshot base room s
    unfolding after_sets
    read-ragged f = sym (reached ∙ rw (length-drop end s, ne_eqb ((length s - end) % 16) 0 f))

    module _ (f : (length s - end) % 16 ≡ 0) where
      large-reached : parse_snapshot base room s
          ≡ ((refuse_if (any low (raw_of ((length s - end) / 16) (drop end s))) BadLarge >> taken (big_of s end ((length s - end) / 16)))
          >>= (λ big. joined base room (next_of s) (live_of s) (small_of s 17) big))
      unfolding after_sets
      large-reached = reached ∙ rw (length-drop end s, eq-eqb ((length s - end) % 16) 0 f, large-read ((length s - end) / 16) [] (drop end s))

      pub read_low : any low (raw_of ((length s - end) / 16) (drop end s)) ≡ true → refused BadLarge ≡ parse_snapshot base room s
      read_low g = sym (large-reached ∙ rw g)

      module _ (g : any low (raw_of ((length s - end) / 16) (drop end s)) ≡ false) where
        tiers-reached : parse_snapshot base room s ≡ joined base room (next_of s) (live_of s) (small_of s 17) (big_of s end ((length s - end) / 16))
        tiers-reached = large-reached ∙ rw g

        pub read-clash : None ≡ judged_from 0 (next_of s) (big_of s end ((length s - end) / 16)) (small_of s 17) → refused TierClash ≡ parse_snapshot base room s
        unfolding joined
        read-clash q = sym (tiers-reached ∙ rw (judged-clash (next_of s) (big_of s end ((length s - end) / 16)) (small_of s 17) q))

        module _ (rows : ℕ) (q : Some rows ≡ judged_from 0 (next_of s) (big_of s end ((length s - end) / 16)) (small_of s 17)) where
          pub read-full : room < rows → refused TableFull ≡ parse_snapshot base room s
          unfolding joined
          read-full h =
              let r = judged-rows (next_of s) (big_of s end ((length s - end) / 16)) (small_of s 17) rows q in
              let l : room < length (counts_of s end ((length s - end) / 16)) = omega arith in
              sym (tiers-reached ∙ rw (judged-clear (next_of s) (big_of s end ((length s - end) / 16)) (small_of s 17) rows q, lt-ltb room (length (counts_of s end ((length s - end) / 16))) l))

          pub read_fits : rows ≤ room
              → taken (record { next = next_of s; live = live_of s; counts = counts_of s end ((length s - end) / 16); maintenance = fresh_maintenance base }) ≡ parse_snapshot base room s
          unfolding joined
          read_fits h =
              let r = judged-rows (next_of s) (big_of s end ((length s - end) / 16)) (small_of s 17) rows q in
              let l : length (counts_of s end ((length s - end) / 16)) ≤ room = omega arith in
              sym (tiers-reached ∙ rw (judged-clear (next_of s) (big_of s end ((length s - end) / 16)) (small_of s 17) rows q, le-ltb room (length (counts_of s end ((length s - end) / 16))) l))

-- ---- the verdict
module _ (room : ℕ) (s : List ℕ) where
  pub verdict-refused : (q : Refusal) → refused q ≡ parse_snapshot 0 room s → Err q ≡ verdict_of room s
  unfolding verdict_of
  verdict-refused q e = ap (verdict s) e

  pub verdict-fits : (end : ℕ) → Reached s end → (x : State) → taken x ≡ parse_snapshot 0 room s
      → Ok (record { next = x.next; live = x.live; end = end; large = (length s - end) / 16; rows = length x.counts }) ≡ verdict_of room s
  unfolding verdict_of plan_of
  verdict-fits end p x e = rw (← e, p.ends)

  refusal : (q : Refusal) → ((base : ℕ) → refused q ≡ parse_snapshot base room s) → Decided s room (verdict_of room s)
  refusal q o = subst (λ r. Decided s room r) (verdict-refused q (o 0)) (record { outcome = o; plan = tt })

  module _ (end : ℕ) (p : Reached s end) where
    abbrev n : ℕ
    n = (length s - end) / 16

    abbrev j : Option ℕ
    j = judged_from 0 (next_of s) (big_of s end n) (small_of s 17)

    abbrev x : ℕ → State
    x base = record { next = next_of s; live = live_of s; counts = counts_of s end n; maintenance = fresh_maintenance base }

    module _ (f : (length s - end) % 16 ≡ 0) (g : any low (raw_of n (drop end s)) ≡ false) where
      fitting : (rows : ℕ) → Some rows ≡ j → rows ≤ room → Decided s room (verdict_of room s)
      fitting rows e h =
          let r = judged-rows (next_of s) (big_of s end n) (small_of s 17) rows e in
          subst (λ v. Decided s room v) (verdict-fits end p (x 0) (read_fits 0 room s end p f g rows e h))
          (record {
            outcome = λ base. read_fits base room s end p f g rows e h;
            plan =
                record {
                  readable = record { sets = reached-taken s end p; inside = omega (arith, p.inside); high = g };
                  rows = refl;
                  fits = omega arith;
                  below = judged-below (next_of s) (big_of s end n) (small_of s 17) rows e;
                };
          })

      tiers : (r : Option ℕ) → r ≡ j → Decided s room (verdict_of room s)
      tiers None e = refusal TierClash (λ base. read-clash base room s end p f g e)
      tiers (Some rows) e =
          elim (dec_le rows room) [
            | yes h ↦ fitting rows e h
            | no h ↦ refusal TableFull (λ base. read-full base room s end p f g rows e (omega arith))
          ]

    large : Decided s room (verdict_of room s)
    large =
        elim (ℕ_discrete ((length s - end) % 16) 0) [
          | yes f ↦ go f (any low (raw_of n (drop end s))) refl
          | no f ↦ refusal BadLarge (λ base. read-ragged base room s end p f)
        ]
      where
        go : (length s - end) % 16 ≡ 0 → (b : Bool) → any low (raw_of n (drop end s)) ≡ b → Decided s room (verdict_of room s)
        go f true g = refusal BadLarge (λ base. read_low base room s end p f g)
        go f false g = tiers f g j refl

  sets : 17 ≤ length s → get_or s 0 0 ≡ 1 → (r : Result ℕ Refusal) → sets_end 8 17 s ≡ r → Ended s 17 r → Decided s room (verdict_of room s)
  sets h v (Ok end) e d = large end (record { long = h; version = v; ends = e; rest = d.rest; inside = d.inside })
  sets h v (Err q) e d = refusal q (λ base. read-refused base room s h v q d.rest)

  pub decided : Decided s room (verdict_of room s)
  decided =
      elim (dec_le (length s) 0) [
        | yes h ↦ refusal TornSnapshot (λ base. read_none base room s (omega arith))
        | no h ↦ elim (ℕ_discrete (get_or s 0 0) 1) [
          | yes v ↦ elim (dec_lt (length s) 17) [
            | yes g ↦ refusal TornSnapshot (λ base. read_short base room s (omega arith) g v)
            | no g ↦ sets (omega arith) v (sets_end 8 17 s) refl (ended s 17 (omega arith))
          ]
          | no v ↦ refusal Version (λ base. read-version base room s (omega arith) v)
        ]
      ]

  -- what was decided, where it is one of the verdicts
  pub decided-as : {v r : Result Plan Refusal} → v ≡ verdict_of room s → v ≡ r → Decided s room r
  decided-as e f = subst (λ x. Decided s room x) (sym e ∙ f) decided
