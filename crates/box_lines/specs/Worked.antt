-- Lines and other text that are evaluated, and items that break off.
-- Assumes nothing.
use Rattle.std.specs.Prelude.{◌≡◌, refl, true, false, List, [], ◌∷◌, ◌++◌, ℕ, length, take}
use Rattle.base.specs.Logic.{zeros}
use Rattle.base.specs.Bytes.{le16, le32}
use Rattle.box_lines.specs.declared.Line.{Line}
use Rattle.box_lines.specs.Lines.{kind_of, body_len, decimal, line_text, heading, Output, output, nothing, append}
use Rattle.box_lines.specs.Open.{evaluation}

-- ---- items

-- the six bytes of an item with a body of 7 bytes
abbrev header : List ℕ
header = le32 7 ++ le16 2

pub six-bytes : (kind_of header ≡ 2) × (body_len header ≡ 7)
unfolding evaluation
six-bytes = (refl, refl)

-- five of them say nothing
pub five-bytes : (kind_of (take 5 header) ≡ 0) × (body_len (take 5 header) ≡ 0)
unfolding evaluation
five-bytes = (refl, refl)

-- each byte counts, and none behind the six
pub all-bytes : (kind_of (1 ∷ 2 ∷ 3 ∷ 4 ∷ 5 ∷ 6 ∷ 7 ∷ []) ≡ 1541) × (body_len (1 ∷ 2 ∷ 3 ∷ 4 ∷ 5 ∷ 6 ∷ 7 ∷ []) ≡ 67305985)
unfolding evaluation
all-bytes = (refl, refl)

-- ---- text: 48 to 57 are the digits, 32 is a space, 10 a line feed

-- "0", "9", "10"
pub small-numbers : (decimal 0 ≡ 48 ∷ []) × (decimal 9 ≡ 57 ∷ []) × (decimal 10 ≡ 49 ∷ 48 ∷ [])
unfolding evaluation
small-numbers = (refl, refl, refl)

-- the largest number of 64 bits: "18446744073709551615"
pub largest-number : decimal 18446744073709551615
    ≡ 49 ∷ 56 ∷ 52 ∷ 52 ∷ 54 ∷ 55 ∷ 52 ∷ 52 ∷ 48 ∷ 55 ∷ 51 ∷ 55 ∷ 48 ∷ 57 ∷ 53 ∷ 53 ∷ 49 ∷ 54 ∷ 49 ∷ 53 ∷ []
unfolding evaluation
largest-number = refl

abbrev last_line : Line
last_line = record { place = 3; kind = 2; answer = 5; next = 2; live = 2 }

-- the last line of document 01's run: "3 2 5 2 2", and a line feed
pub document-01 : line_text last_line ≡ 51 ∷ 32 ∷ 50 ∷ 32 ∷ 53 ∷ 32 ∷ 50 ∷ 32 ∷ 50 ∷ 10 ∷ []
unfolding evaluation
document-01 = refl

-- the longest line
pub longest-line : length (line_text (record { place = 18446744073709551615; kind = 65535; answer = 255; next = 18446744073709551615; live = 18446744073709551615 })) ≡ 73
unfolding evaluation
longest-line = refl

-- "place", "kind", "answer", "next", "live"
pub heading-words : heading
    ≡ (112 ∷ 108 ∷ 97 ∷ 99 ∷ 101 ∷ []) ++ 32 ∷ (107 ∷ 105 ∷ 110 ∷ 100 ∷ []) ++ 32 ∷ (97 ∷ 110 ∷ 115 ∷ 119 ∷ 101 ∷ 114 ∷ []) ++ 32 ∷ (110 ∷ 101 ∷ 120 ∷ 116 ∷ []) ++ 32 ∷ (108 ∷ 105 ∷ 118 ∷ 101 ∷ []) ++ 10 ∷ []
unfolding evaluation
heading-words = refl

-- ---- an output

abbrev printed : ℕ → List ℕ → Output
printed n out = output (record { len = n; whole = true }) out

abbrev cut : ℕ → List ℕ → Output
cut n out = output (record { len = n; whole = false }) out

-- text goes behind what is there, and what is behind it stays
pub behind : append (65 ∷ 66 ∷ []) (printed 1 (49 ∷ 50 ∷ 51 ∷ 52 ∷ [])) ≡ printed 3 (49 ∷ 65 ∷ 66 ∷ 52 ∷ [])
unfolding evaluation
behind = refl

-- text that just finds room is whole; of a longer one the first bytes are there
pub just-fits : append (line_text last_line) (nothing (zeros 10)) ≡ printed 10 (line_text last_line)
unfolding evaluation
just-fits = refl

pub too-short : append (line_text last_line) (nothing (zeros 4)) ≡ cut 4 (51 ∷ 32 ∷ 50 ∷ 32 ∷ [])
unfolding evaluation
too-short = refl

-- what was once cut stays so
pub stays-cut : append [] (cut 1 (zeros 2)) ≡ cut 1 (zeros 2)
unfolding evaluation
stays-cut = refl
