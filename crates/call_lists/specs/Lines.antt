-- Where a line of text ends, and the bytes that it spells in hex.
-- Assumes nothing.
use Rattle.std.specs.Prelude.{ℕ, suc, ◌+◌, ◌-◌, ◌*◌, ◌%◌, Bool, ◌&&◌, List, [], ◌∷◌, length, drop, ◌==◌, nat_le, nat_lt}
use Rattle.base.specs.Logic.{pick, all, eqb_list}

-- how many characters stand before the first line feed, or before the end
unfoldable pub line_length : List ℕ → ℕ
line_length [] = 0
line_length (x ∷ xs) = pick (x == 10) 0 (suc (line_length xs))

-- the first place at or behind a given one that has a line feed, or the end
unfoldable pub line_end : List ℕ → ℕ → ℕ
line_end s at = at + line_length (drop at s)

-- where the line after the one that ends at a place begins: behind the line feed, if there is one
abbrev pub line_after : List ℕ → ℕ → ℕ
line_after s end = pick (nat_lt end (length s)) (end + 1) end

-- the value of a hex digit, 0 to 9 or a to f, and 16 for any other character
unfoldable pub digit_of : ℕ → ℕ
digit_of c = pick (nat_le 48 c && nat_le c 57) (c - 48) (pick (nat_le 97 c && nat_le c 102) (c - 97 + 10) 16)

-- the byte of two digits, the high one first, and 256 where one is none
unfoldable pub pair_of : ℕ → ℕ → ℕ
pair_of high low = pick (nat_le (digit_of high) 15 && nat_le (digit_of low) 15) (16 * digit_of high + digit_of low) 256

-- the bytes of a text's characters, two by two; one left over counts for nothing
unfoldable pub pairs_of : List ℕ → List ℕ
pairs_of [] = []
pairs_of (x ∷ []) = []
pairs_of (x ∷ (y ∷ t)) = pair_of x y ∷ pairs_of t

-- a number is a byte
abbrev pub is_byte : ℕ → Bool
is_byte b = nat_le b 255

-- a text is pairs of digits
unfoldable pub is_hex : List ℕ → Bool
is_hex text = all is_byte (pairs_of text) && length text % 2 == 0

-- the bytes that a text spells, if there is room for them; none where it isn't pairs of digits
unfoldable pub decoded : List ℕ → ℕ → List ℕ
decoded text room = pick (nat_le (length (pairs_of text)) room && is_hex text) (pairs_of text) []

-- a text is pairs of digits, and they are these bytes
unfoldable pub spells_bytes : List ℕ → List ℕ → Bool
spells_bytes text bytes = is_hex text && eqb_list (pairs_of text) bytes
