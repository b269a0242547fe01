-- In a run of house items no output is ever too short: a drain is always taken, and no other item writes one.
-- Assumes nothing.
use Rattle.std.specs.Prelude.{◌≡◌, Bool, true, false, not, List, [], ◌∷◌, ℕ, zero, suc, ◌+◌, ◌*◌, length, drop, ltb, eqb}
use Rattle.std.proofs.Math.Path.{refl}
use Rattle.std.proofs.Common.{sym, ap, ◌∙◌, true≢false, arith, eqb-true}
use Rattle.std.proofs.Math.Option.{Option, none, some}
use Rattle.std.proofs.lemmas.List.{length-replicate}
use Rattle.base.specs.Logic.{pick, all, any, elem, zeros}
use Rattle.base.specs.Laws.{and_both}
use Rattle.base.specs.ListLaws.{all_drop}
use Rattle.base.specs.Answers.{answer_number, number_of, Answer, Taken, Refused}
use Rattle.base.specs.declared.Refusal.TheVariants.{OutputFull}
use Rattle.base.specs.MaybeLaws.{Gives, gives}
use Rattle.base.specs.SpellLaws.{Bytes}
use Rattle.blake3.specs.Mode.{unkeyed}
use Rattle.node_box.specs.Box.{standard_settings, Box, Call, allocate, batch, delta, made, step, run}
use Rattle.node_box.specs.Demand.{start, end}
use Rattle.node_box.specs.Order.{setting-lines, mode-lines}
use Rattle.demand3.specs.Holding.{Fixed, Holding, holding-step, holding}
use Rattle.demand3.specs.Refusals.{numbers_of, refusals}
use Rattle.demand3.specs.DrainRoom.{drain-fits}
use Rattle.box_lines.specs.declared.Line.{Line}
use Rattle.box_lines.specs.Lines.{kind_of, body_len}
use Rattle.box_items.specs.Items.{drain_room, item_call, ran, line_of, turn, run_box, lines_from, lines}
use Rattle.box_laws.specs.ItemCalls.{ItemCall, allocates, batches, changes, drains, Fit, item-fits}

-- a run's settings and tables
abbrev run_fixed : Fixed
run_fixed = record { settings = standard_settings; counts = 2 * 1024; entries = 8 * 256; waiting = 5 * 256; cells = 16384 }

-- the number of an output that is too short
abbrev pub too_short : ℕ
too_short = number_of OutputFull

-- any other answer
abbrev Roomy : Answer → Bool
Roomy a = not (eqb (answer_number a) too_short)

-- its number is none of a call's, if it isn't in their list
not-among : (n : ℕ) (ns : List ℕ) → elem too_short ns ≡ false → elem n ns ≡ true → eqb n too_short ≡ false
not-among n ns absent e = go (eqb n too_short) refl
  where
    go : (b : Bool) → eqb n too_short ≡ b → b ≡ false
    go true t = absurd (true≢false (sym e ∙ ap (λ (m : ℕ). elem m ns) (eqb-true n too_short t) ∙ absent))
    go false t = refl

module _ {b : Box} (h : Holding run_fixed b) where
  other-call : (x : Call) → elem too_short (numbers_of x) ≡ false → Roomy (step b x).0 ≡ true
  other-call x absent = go (step b x).0 refl
    where
      go : (a : Answer) → (step b x).0 ≡ a → Roomy a ≡ true
      go Taken e = refl
      go (Refused q) e = ap not (not-among (number_of q) (numbers_of x) absent ((refusals h.holds).numbers x q e))

  item-call : (x : Call) → ItemCall x → Roomy (step b x).0 ≡ true
  unfolding any drain_room
  item-call x allocates = other-call allocate refl
  item-call x (batches words) = other-call (batch words) refl
  item-call x (changes id wide inserts removes items) = other-call (delta id wide inserts removes items) refl
  item-call x (drains round) = rw (drain-fits h.holds round drain_room (omega arith))

-- a line's answer
abbrev pub roomy : Line → Bool
roomy l = not (eqb l.answer too_short)

lines-room : (fuel : ℕ) (b : Box) (place : ℕ) (bs : List ℕ) → Bytes bs → Holding run_fixed b → all roomy (lines_from fuel b place bs) ≡ true
unfolding lines_from turn all ran
lines-room zero b place bs c h = refl
lines-room (suc fuel) b place [] c h = refl
lines-room (suc fuel) b place (x ∷ xs) c h =
    go (λ y ys d k. lines-room fuel (step b y).1 (suc place) ys d k) (x ∷ xs) c (item_call (x ∷ xs)) (item-fits (x ∷ xs) c)
  where
    go : ((y : Call) (ys : List ℕ) → Bytes ys → Holding run_fixed (step b y).1 → all roomy (lines_from fuel (step b y).1 (suc place) ys) ≡ true)
        → (bs : List ℕ) → Bytes bs → (o : Option Call) → Gives Fit o
        → all roomy (line_of place (kind_of bs) (ran b o).answer (ran b o).box.counters ∷ pick (ran b o).good (lines_from fuel (ran b o).box (suc place) (drop (6 + body_len bs) bs)) []) ≡ true
    go after bs c none g = refl
    go after bs c (some y) (gives p) =
        let n = 6 + body_len bs in
        and_both _ _ (item-call h y p.1) (after y (drop n bs) (all_drop (λ x. ltb x 256) n bs c) (holding-step y p.0 h))

-- a box as it is made
made_holds : (k e w c : ℕ) → Holding (record { settings = standard_settings; counts = k; entries = e; waiting = w; cells = c }) (made standard_settings 0 (zeros k) (zeros e) (zeros w) (zeros c))
unfolding end start run all
made_holds k e w c =
    rw (length-replicate {A = ℕ} k 0, length-replicate {A = ℕ} e 0, length-replicate {A = ℕ} w 0, length-replicate {A = ℕ} c 0) at
    (holding (record { settings = standard_settings; mode = unkeyed; next = 0; counts = zeros k; entries = zeros e; waiting = zeros w; cells = zeros c; calls = [] }) (record { settings = setting-lines.standard_ranged; mode = mode-lines.key_none []; next = omega arith; calls = refl }))

run_holds : Holding run_fixed run_box
unfolding run_box
run_holds = made_holds (2 * 1024) (8 * 256) (5 * 256) 16384

-- no line of a run has that answer
pub output-room : (bs : List ℕ) → Bytes bs → all roomy (lines bs) ≡ true
unfolding lines
output-room bs c = lines-room (length bs) run_box 0 bs c run_holds
