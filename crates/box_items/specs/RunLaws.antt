-- An item by the tests that the code makes; the lines of a run, item by item: the bound on the items has no part in them.
-- Assumes nothing.
use Rattle.std.specs.Prelude.{◌≡◌, Bool, List, [], ◌∷◌, ℕ, zero, suc, ◌+◌, ◌-◌, ◌≤◌, ◌<◌, take, drop}
use Rattle.std.proofs.Math.Path.{refl, ap}
use Rattle.std.proofs.Common.{sym, ◌∙◌, arith}
use Rattle.std.proofs.Math.Bool.{true, false, true≢false}
use Rattle.std.proofs.Math.Option.{Option, none}
use Rattle.std.proofs.Math.ListN.{length, length-drop}
use Rattle.std.proofs.Math.Dec.{leb}
use borrow.Author.Tests.{le-leb, lt-leb, leb-true, leb-false}
use Rattle.base.specs.Logic.{pick}
use Rattle.base.specs.Bytes.{cut}
use Rattle.node_box.specs.Box.{Box, Call}
use Rattle.box_lines.specs.declared.Line.{Line}
use Rattle.box_lines.specs.Lines.{kind_of, body_len}
use Rattle.box_items.specs.Items.{RanAnswer, call_of, Ended, effect, ran, item_call, line_of, Turn, turn_effect, turn, lines_from}

-- ---- the item that bytes begin with

module _ (bs : List ℕ) where
  pub item-short : length bs < 6 → item_call bs ≡ none
  unfolding item_call
  item-short h = rw (lt-leb 6 (length bs) h)

  pub item-cut : 6 ≤ length bs → length bs - 6 < body_len bs → item_call bs ≡ none
  unfolding item_call cut
  item-cut h k = rw (le-leb 6 (length bs) h, length-drop 6 bs, lt-leb (body_len bs) (length bs - 6) k)

  pub item-there : 6 ≤ length bs → body_len bs ≤ length bs - 6 → item_call bs ≡ call_of (kind_of bs) (take (body_len bs) (drop 6 bs))
  unfolding item_call cut
  item-there h k = rw (le-leb 6 (length bs) h, length-drop 6 bs, le-leb (body_len bs) (length bs - 6) k)

  -- its body, as it is lent on
  pub item-lent : (b : Box) (kind len : ℕ) → kind ≡ kind_of bs → len ≡ body_len bs → 6 ≤ length bs → len ≤ length bs - 6
      → ran b (call_of kind (take (6 + len - 6) (drop 6 bs))) ≡ ran b (item_call bs)
  item-lent b kind len e f h k =
      let n : 6 + len - 6 ≡ body_len bs = omega arith in
      rw (e, n) (ap (λ (o : Option Call). ran b o) (sym (item-there h (omega arith))))

  -- with its line
  pub item-turn : (b : Box) (place kind : ℕ) (l : Line) (r : RanAnswer) (t es ws cs : List ℕ) → effect r t es ws cs ≡ ran b (item_call bs) → kind ≡ kind_of bs
      → l ≡ line_of place kind r.answer r.counters
      → turn_effect (record { line = l; good = r.good; counters = r.counters; nursery = r.nursery }) t es ws cs ≡ turn b place bs
  unfolding turn
  item-turn b place kind l r t es ws cs e k q =
      ap (λ (x : Line). turn_effect (record { line = x; good = r.good; counters = r.counters; nursery = r.nursery }) t es ws cs)
      (q ∙ ap (λ (n : ℕ). line_of place n r.answer r.counters) k)
      ∙ ap (λ (x : Ended). turn_of x) e
    where
      turn_of : Ended → Turn
      turn_of x = record { line = line_of place (kind_of bs) x.answer x.box.counters; good = x.good; box = x.box }

  -- a good item is all there
  pub good-there : (b : Box) (place : ℕ) → (turn b place bs).good ≡ true → 6 + body_len bs ≤ length bs
  unfolding turn ran
  good-there b place g = go (λ e. true≢false (sym g ∙ ap (λ (o : Option Call). (ran b o).good) e)) (leb 6 (length bs)) refl (leb (body_len bs) (length bs - 6)) refl
    where
      go : (item_call bs ≡ none → ⊥) → (x : Bool) → leb 6 (length bs) ≡ x → (y : Bool) → leb (body_len bs) (length bs - 6) ≡ y → 6 + body_len bs ≤ length bs
      go bad false e y f = absurd (bad (item-short (leb-false 6 (length bs) e)))
      go bad true e false f = absurd (bad (item-cut (leb-true 6 (length bs) e) (leb-false (body_len bs) (length bs - 6) f)))
      go bad true e true f = omega (arith, leb-true 6 (length bs) e, leb-true (body_len bs) (length bs - 6) f)

-- ---- the lines

-- the lines of the item that bytes begin with, where those of the items after it are known
abbrev item_lines : Box → ℕ → List ℕ → List Line → List Line
item_lines b place bs ls = (turn b place bs).line ∷ pick (turn b place bs).good ls []

-- any bound that is at least the input's length gives the same
pub bound-free : (f g : ℕ) (b : Box) (place : ℕ) (bs : List ℕ) → length bs ≤ f → length bs ≤ g → lines_from f b place bs ≡ lines_from g b place bs
unfolding lines_from
bound-free zero zero b place bs h k = refl
bound-free zero (suc g) b place [] h k = refl
bound-free zero (suc g) b place (x ∷ xs) h k = absurd (omega arith)
bound-free (suc f) zero b place [] h k = refl
bound-free (suc f) zero b place (x ∷ xs) h k = absurd (omega arith)
bound-free (suc f) (suc g) b place [] h k = refl
bound-free (suc f) (suc g) b place (x ∷ xs) h k =
    let bs : List ℕ = x ∷ xs in
    let n = 6 + body_len bs in
    let l = length-drop n bs in
    ap (λ (ls : List Line). item_lines b place bs ls) (bound-free f g (turn b place bs).box (suc place) (drop n bs) (omega arith) (omega arith))

-- what is printed for an input from a place on
abbrev pub lines_of : Box → ℕ → List ℕ → List Line
lines_of b place bs = lines_from (length bs) b place bs

pub lines_end : (b : Box) (place : ℕ) → lines_of b place [] ≡ []
unfolding lines_from
lines_end b place = refl

-- a line for the item, and after a good one the lines from where it ends
pub lines-item : (b : Box) (place : ℕ) (bs : List ℕ) → 0 < length bs
    → lines_of b place bs ≡ (turn b place bs).line ∷ pick (turn b place bs).good (lines_of (turn b place bs).box (suc place) (drop (6 + body_len bs) bs)) []
unfolding lines_from
lines-item b place [] h = absurd (omega arith)
lines-item b place (x ∷ xs) h =
    let bs : List ℕ = x ∷ xs in
    let n = 6 + body_len bs in
    let l = length-drop n bs in
    ap (λ (ls : List Line). item_lines b place bs ls)
    (bound-free (length xs) (length (drop n bs)) (turn b place bs).box (suc place) (drop n bs) (omega arith) (omega arith))
