-- The text of a run, item by item, as the loop over an input puts it into an output.
-- Assumes nothing.
use Rattle.std.specs.Prelude.{◌≡◌, refl, Bool, true, false, ℕ, suc, ◌+◌, ◌-◌, ◌*◌, ◌≤◌, ◌<◌, length, take, drop, Result, Ok, Err, IsOk}
use Rattle.std.proofs.Math.Path.{sym, ap}
use Rattle.std.proofs.Common.{true≢false, ap₂, ◌∙◌, add-one, arith, drop_of_length-le, take_all}
use mathlib.Core.List.{List, [], ◌++◌}
use Rattle.std.proofs.Math.ListN.{length-drop}
use Rattle.std.proofs.Math.Seq.{drop-drop}
use Rattle.base.specs.Logic.{pick, flat, zeros}
use Rattle.base.specs.Answers.{Taken, Refused}
use Rattle.base.specs.declared.Refusal.{Refusal}
use Rattle.counters.specs.declared.Counters.{Counters}
use Rattle.counters.specs.Returned.{Applied, as_applied}
use Rattle.counters.proofs.CallLaws as CountersLaws
use Rattle.counters.specs.Calls.{no_counters}
use Rattle.counters.specs.Maintenance.{standard, in_range}
use Rattle.counters.specs.Calls as counters
use Rattle.cell_nursery.specs.Drain.{promotion_delay}
use Rattle.cell_nursery.specs.declared.Nursery.{Nursery}
use Rattle.cell_nursery.specs.Entries.{empty}
use Rattle.cell_nursery.specs.Layout.{record_of, delay_in_range}
use Rattle.cell_nursery.proofs.SettingLaws as SettingLaws
use Rattle.cell_nursery.specs.Returned.{Committed, as_committed}
use Rattle.cell_nursery.specs.Calls as nursery
use Rattle.node_box.specs.Box.{standard_settings, Box, accepted, made}
use Rattle.box_lines.specs.declared.Line.{Line}
use Rattle.box_lines.specs.Lines.{body_len, line_text, heading, Output, nothing, append}
use Rattle.box_lines.specs.LineLaws.{append-none, append-join, append-then}
use Rattle.box_items.specs.declared.Next.{Next}
use Rattle.box_items.specs.Items.{box_of, Turn, turn_effect, turn, run_box, lines, text}
use Rattle.box_items.specs.RunLaws.{good-there, lines_of, lines_end, lines-item}

-- what is printed for bytes from a place on
abbrev pub text_from : Box → ℕ → List ℕ → List ℕ
text_from b place bs = flat line_text (lines_of b place bs)

-- at the end nothing is left to print
pub text-end : (b : Box) (place at : ℕ) (input : List ℕ) (o r : Output) → append (text_from b place (drop at input)) o ≡ r → length input ≤ at → o ≡ r
unfolding flat
text-end b place at input o r e h =
    sym (append-none o)
    ∙ ap (λ (ls : List Line). append (flat line_text ls) o) (sym (lines_end b place))
    ∙ ap (λ (bs : List ℕ). append (text_from b place bs) o) (sym (drop_of_length-le input h))
    ∙ e

-- the item at a place of an input was run, and its line was put
module _ (b : Box) (place at : ℕ) (input : List ℕ) (o p r : Output) (n : Next) (t es ws cs : List ℕ)
    (inv : append (text_from b place (drop at input)) o ≡ r)
    (below : at < length input)
    (ran : turn_effect n t es ws cs ≡ turn b place (take (length input - at) (drop at input)))
    (put : p ≡ append (line_text n.line) o) where
  lent : take (length input - at) (drop at input) ≡ drop at input
  lent = take_all (length input - at) (drop at input) (omega (arith, length-drop at input))

  rest : List Line
  rest = lines_of (box_of n.counters t n.nursery es ws cs) (suc place) (drop (6 + body_len (drop at input)) (drop at input))

  ran-there : turn_effect n t es ws cs ≡ turn b place (drop at input)
  ran-there = ran ∙ ap (λ (l : List ℕ). turn b place l) lent

  -- its line, and after a good one what is printed from where it ends
  split : append (line_text n.line ++ flat line_text (pick n.good rest [])) o ≡ r
  unfolding flat rest
  split =
      ap (λ (x : Turn). append (line_text x.line ++ flat line_text (pick x.good (lines_of x.box (suc place) (drop (6 + body_len (drop at input)) (drop at input))) [])) o) ran-there
      ∙ ap (λ (ls : List Line). append (flat line_text ls) o) (sym (lines-item b place (drop at input) (omega (arith, length-drop at input))))
      ∙ inv

  step : append (flat line_text (pick n.good rest [])) p ≡ r
  step =
      ap (λ (x : Output). append (flat line_text (pick n.good rest [])) x) put
      ∙ append-join (line_text n.line) (flat line_text (pick n.good rest [])) o
      ∙ split

  pub text-bad : n.good ≡ false → p ≡ r
  unfolding flat
  text-bad e = sym (append-none p) ∙ ap (λ (c : Bool). append (flat line_text (pick c rest [])) p) (sym e) ∙ step

  module _ (good : n.good ≡ true) (len : ℕ) (is : len ≡ body_len (take (length input - at) (drop at input))) where
    len-there : len ≡ body_len (drop at input)
    len-there = is ∙ ap body_len lent

    pub text-place : at + (6 + len) ≤ length input
    text-place =
        let there = good-there (drop at input) b place (ap (λ (x : Turn). x.good) (sym ran-there) ∙ good) in
        omega (arith, len-there, length-drop at input)

    pub text-good : append (text_from (box_of n.counters t n.nursery es ws cs) (place + 1) (drop (at + (6 + len)) input)) p ≡ r
    unfolding rest
    text-good =
        rw (add-one place, ← drop-drop (6 + len) at input, len-there)
        (ap (λ (c : Bool). append (flat line_text (pick c rest [])) p) (sym good) ∙ step)

-- document 01's settings and its delay are in their ranges, so that neither call is refused
not_refused : (q : Refusal) → Refused q ≡ Taken → ⊥
unfolding accepted
not_refused q p = true≢false (sym (ap accepted p))

pub counters-made : (a : Result Counters Refusal) (t u : List ℕ) → counters.effect (as_applied no_counters a) u ≡ counters.new_call standard (record { 0 = 0 }) t → IsOk a
unfolding counters.laid in_range standard
counters-made (Ok d) t u e = refl
counters-made (Err q) t u e = absurd (not_refused q (ap (λ (x : counters.Changed). x.result.answer) (e ∙ CountersLaws.new-taken standard (record { 0 = 0 }) t refl)))

pub nursery-made : (a : Result Nursery Refusal) (es ws cs fs xs ds : List ℕ) → nursery.effect (as_committed (record_of 0 empty) a) fs xs ds ≡ nursery.new_call promotion_delay es ws cs → IsOk a
unfolding nursery.laid delay_in_range
nursery-made (Ok d) es ws cs fs xs ds e = refl
nursery-made (Err q) es ws cs fs xs ds e = absurd (not_refused q (ap (λ (x : nursery.Changed). x.result.answer) (e ∙ SettingLaws.new-taken promotion_delay es ws cs refl)))

-- a fresh box, by what the two calls gave
pub fresh-made : (a : Applied) (k : Committed) (t es ws cs u fs xs ds : List ℕ) → counters.effect a u ≡ counters.new_call standard (record { 0 = 0 }) t
    → nursery.effect k fs xs ds ≡ nursery.new_call promotion_delay es ws cs → box_of a.counters u k.nursery fs xs ds ≡ made standard_settings 0 t es ws cs
unfolding made standard_settings
fresh-made a k t es ws cs u fs xs ds e f =
    ap₂ (λ (x : counters.Changed) (y : nursery.Changed). box_of x.result.counters x.table y.result.nursery y.entries y.waiting y.cells) e f

-- a run from its start: the tables that it makes have the sizes of `run_box`
pub text-start : (input : List ℕ) (b : Box) (out : List ℕ) (p r : Output) → b ≡ made standard_settings 0 (zeros (2 * 1024)) (zeros (8 * 256)) (zeros (5 * 256)) (zeros 16384)
    → p ≡ append heading (nothing out) → r ≡ append (text_from b 0 input) p → r ≡ append (text input) (nothing out)
unfolding text lines run_box
text-start input b out p r e f g =
    append-then heading (flat line_text (lines input)) (nothing out) p r f (g ∙ ap (λ (x : Box). append (text_from x 0 input) p) e)
