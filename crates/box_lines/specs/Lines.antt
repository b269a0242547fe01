-- An item's first six bytes, and the text of a run: a heading, and a line of decimal numbers for each item.
-- Assumes nothing.
use Rattle.std.specs.Prelude.{ℕ, zero, suc, ◌+◌, ◌-◌, ◌/◌, ◌%◌, min, true, ◌&&◌, List, [], ◌∷◌, ◌++◌, length, take, drop, leb, ltb, eqb}
use Rattle.std.proofs.Math.Seq.{paste}
use Rattle.base.specs.Logic.{pick}
use Rattle.base.specs.Bytes.{unle}
use Rattle.box_lines.specs.declared.Line.{Line}
use Rattle.box_lines.specs.declared.Printed.{Printed}

-- ---- the item that bytes begin with: a body length, a kind and the body. Its kind is 0 where the six bytes before the body aren't all there

unfoldable pub kind_of : List ℕ → ℕ
kind_of bs = pick (leb 6 (length bs)) (unle (take 2 (drop 4 bs))) 0

-- how long its body is to be
unfoldable pub body_len : List ℕ → ℕ
body_len bs = pick (leb 6 (length bs)) (unle (take 4 bs)) 0

-- ---- text

-- a number in decimal, the highest digit first, of no more digits than are given
unfoldable pub digits_of : ℕ → ℕ → List ℕ
digits_of zero n = []
digits_of (suc most) n = pick (ltb n 10) ((48 + n) ∷ []) (digits_of most (n / 10) ++ (48 + n % 10) ∷ [])

-- a number of 64 bits has 20 digits at most
unfoldable pub decimal : ℕ → List ℕ
decimal n = digits_of 20 n

-- a number and the character behind it
unfoldable pub field : ℕ → ℕ → List ℕ
field n end = decimal n ++ end ∷ []

-- fields with a space between them, and a line feed
unfoldable pub line_text : Line → List ℕ
line_text l = field l.place 32 ++ field l.kind 32 ++ field l.answer 32 ++ field l.next 32 ++ field l.live 10

-- "place kind answer next live", and a line feed
unfoldable pub heading : List ℕ
heading = 112 ∷ 108 ∷ 97 ∷ 99 ∷ 101 ∷ 32 ∷ 107 ∷ 105 ∷ 110 ∷ 100 ∷ 32 ∷ 97 ∷ 110 ∷ 115 ∷ 119 ∷ 101 ∷ 114 ∷ 32 ∷ 110 ∷ 101 ∷ 120 ∷ 116 ∷ 32 ∷ 108 ∷ 105 ∷ 118 ∷ 101 ∷ 10 ∷ []

-- ---- a lent output

-- how much of an output has text and whether all found room, and the output
pub record Output : Type 0 where
  pub printed : Printed
  pub out : List ℕ

abbrev pub output : Printed → List ℕ → Output
output p out = record { printed = p; out = out }

-- nothing is written yet
abbrev pub nothing : List ℕ → Output
nothing out = output (record { len = 0; whole = true }) out

-- text goes behind what is there, as far as there is room
unfoldable pub append : List ℕ → Output → Output
append text o =
    let at = o.printed.len in
    let n = min (length text) (length o.out - at) in
    output (record { len = at + n; whole = o.printed.whole && eqb n (length text) }) (paste o.out at text n)
