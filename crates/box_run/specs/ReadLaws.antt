-- An item may be read alone: what follows it in an input has no part in its line, nor has a body that is too long. So the program, which reads item by
-- item, runs what `run` does.
-- Assumes nothing.
use Rattle.std.specs.Prelude.{◌≡◌, refl, Bool, true, false, List, ℕ, ◌+◌, ◌-◌, ◌≤◌, ◌<◌, leb, length, take, drop}
use Rattle.std.proofs.Common.{sym, ap, ap₂, ◌∙◌, arith, leb-true, leb-false, length-drop, take_all, take-take, length-take-le}
use Rattle.std.proofs.Math.Option.{Option, none}
use Rattle.base.specs.Bytes.{unle}
use Rattle.slices.specs.Laws.{part-front}
use Rattle.node_box.specs.Box.{Box, Call}
use Rattle.box_lines.specs.Lines.{kind_of, body_len}
use Rattle.box_lines.specs.LineLaws.{kind-there, len-there}
use Rattle.box_items.specs.Items.{call_of, ran, item_call, line_of, Turn, turn}
use Rattle.box_items.specs.ItemLaws.{call_long}
use Rattle.box_items.specs.RunLaws.{item-short, item-cut, item-there}

-- a body of more than 32,768 bytes is bad, whether it is there or not
item-long : (bs : List ℕ) → 32768 < body_len bs → item_call bs ≡ none
item-long bs long = go (leb 6 (length bs)) refl (leb (body_len bs) (length bs - 6)) refl
  where
    go : (x : Bool) → leb 6 (length bs) ≡ x → (y : Bool) → leb (body_len bs) (length bs - 6) ≡ y → item_call bs ≡ none
    go false e y f = item-short bs (leb-false 6 (length bs) e)
    go true e false f = item-cut bs (leb-true 6 (length bs) e) (leb-false (body_len bs) (length bs - 6) f)
    go true e true f =
        let h = leb-true 6 (length bs) e in
        let k = leb-true (body_len bs) (length bs - 6) f in
        let l : length (take (body_len bs) (drop 6 bs)) ≡ body_len bs = length-take-le (body_len bs) (drop 6 bs) (rw (length-drop 6 bs) k) in
        item-there bs h k ∙ call_long (kind_of bs) (take (body_len bs) (drop 6 bs)) (omega arith)

-- bytes follow that aren't read
module _ (bs : List ℕ) (n : ℕ) (six : 6 ≤ n) (more : n < length bs) where
  length-read : length (take n bs) ≡ n
  length-read = length-take-le n bs (omega arith)

  kind-read : kind_of (take n bs) ≡ kind_of bs
  kind-read = kind-there (take n bs) (omega (arith, length-read)) ∙ ap unle (part-front 2 4 n bs (omega arith)) ∙ sym (kind-there bs (omega arith))

  len_read : body_len (take n bs) ≡ body_len bs
  len_read = len-there (take n bs) (omega (arith, length-read)) ∙ ap unle (take-take 4 n bs (omega arith)) ∙ sym (len-there bs (omega arith))

  call-read : (body_len bs ≤ 32768 → 6 + body_len bs ≤ n) → item_call (take n bs) ≡ item_call bs
  call-read all = go (leb (body_len bs) 32768) refl
    where
      go : (x : Bool) → leb (body_len bs) 32768 ≡ x → item_call (take n bs) ≡ item_call bs
      go true e =
          let fits = all (leb-true (body_len bs) 32768 e) in
          item-there (take n bs) (omega (arith, length-read)) (omega (arith, length-read, len_read))
          ∙ ap₂ (λ (k l : ℕ). call_of k (take l (drop 6 (take n bs)))) kind-read len_read
          ∙ ap (λ (body : List ℕ). call_of (kind_of bs) body) (part-front (body_len bs) 6 n bs (omega arith))
          ∙ sym (item-there bs (omega arith) (omega arith))
      go false e =
          let long = leb-false (body_len bs) 32768 e in
          item-long (take n bs) (omega (arith, len_read)) ∙ sym (item-long bs long)

-- six bytes, and the body unless it is too long, are enough
pub item-alone : (b : Box) (place : ℕ) (bs : List ℕ) (n : ℕ) → 6 ≤ n → (body_len bs ≤ 32768 → 6 + body_len bs ≤ n) → turn b place (take n bs) ≡ turn b place bs
unfolding turn
item-alone b place bs n six all = go (leb (length bs) n) refl
  where
    turn_of : ℕ → Option Call → Turn
    turn_of kind o = record { line = line_of place kind (ran b o).answer (ran b o).box.counters; good = (ran b o).good; box = (ran b o).box }

    go : (x : Bool) → leb (length bs) n ≡ x → turn_of (kind_of (take n bs)) (item_call (take n bs)) ≡ turn_of (kind_of bs) (item_call bs)
    go true e = ap (λ (l : List ℕ). turn_of (kind_of l) (item_call l)) (take_all n bs (leb-true (length bs) n e))
    go false e =
        let more = leb-false (length bs) n e in
        ap₂ turn_of (kind-read bs n six more) (call-read bs n six more all)
