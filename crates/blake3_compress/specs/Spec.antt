-- The compression function of BLAKE3 (the BLAKE3 paper, section 2.2).
-- A word is a number below 2 ^ 32.
-- Assumes nothing.
use Rattle.std.specs.Prelude.{ℕ, ◌+◌, ◌-◌, ◌*◌, ◌/◌, ◌%◌, ◌^◌, List, [], ◌∷◌, ◌++◌, map, take, set, bit_or, bit_xor, slice_index, slice_index_or, slice_set}
use Rattle.base.specs.Logic.{from, fold}

-- the word at i
abbrev pub at : List ℕ → ℕ → ℕ
at ws i = slice_index ws i

-- the sum of two words, modulo 2 ^ 32
abbrev pub wrap_add : ℕ → ℕ → ℕ
wrap_add x y = (x + y) % 2 ^ 32

-- the word x rotated right by n bits: x >> n, or x << (32 - n)
abbrev pub rotr : ℕ → ℕ → ℕ
rotr x n = bit_or (x / 2 ^ n) (x * 2 ^ (32 - n) % 2 ^ 32)

-- half of the quarter round on the words at a, b, c and d of the state v, with a message word x and two rotations
unfoldable pub mix : ℕ → ℕ → ℕ → ℕ → ℕ → ℕ → ℕ → List ℕ → List ℕ
mix a b c d x n k v =
    let va = set v a (wrap_add (wrap_add (at v a) (at v b)) x) in
    let vd = set va d (rotr (bit_xor (at va d) (at va a)) n) in
    let vc = set vd c (wrap_add (at vd c) (at vd d)) in
    slice_set vc b (rotr (bit_xor (at vc b) (at vc c)) k)

-- the quarter round, G of the paper, with two message words
unfoldable pub g : ℕ → ℕ → ℕ → ℕ → ℕ → ℕ → List ℕ → List ℕ
g a b c d x y v = mix a b c d y 8 7 (mix a b c d x 16 12 v)

-- a round: G on the four columns of the state, then on its four diagonals; w gives the round's sixteen message words
unfoldable pub columns : (ℕ → ℕ) → List ℕ → List ℕ
columns w v =
    let v0 = g 0 4 8 12 (w 0) (w 1) v in
    let v1 = g 1 5 9 13 (w 2) (w 3) v0 in
    let v2 = g 2 6 10 14 (w 4) (w 5) v1 in
    g 3 7 11 15 (w 6) (w 7) v2

unfoldable pub diagonals : (ℕ → ℕ) → List ℕ → List ℕ
diagonals w v =
    let v0 = g 0 5 10 15 (w 8) (w 9) v in
    let v1 = g 1 6 11 12 (w 10) (w 11) v0 in
    let v2 = g 2 7 8 13 (w 12) (w 13) v1 in
    g 3 4 9 14 (w 14) (w 15) v2

unfoldable pub round : (ℕ → ℕ) → List ℕ → List ℕ
round w v = diagonals w (columns w v)

-- the message schedule: which word of the block stands where in each of the seven rounds
unfoldable pub schedule : List (List ℕ)
schedule =
    (0 ∷ 1 ∷ 2 ∷ 3 ∷ 4 ∷ 5 ∷ 6 ∷ 7 ∷ 8 ∷ 9 ∷ 10 ∷ 11 ∷ 12 ∷ 13 ∷ 14 ∷ 15 ∷ [])
    ∷ (2 ∷ 6 ∷ 3 ∷ 10 ∷ 7 ∷ 0 ∷ 4 ∷ 13 ∷ 1 ∷ 11 ∷ 12 ∷ 5 ∷ 9 ∷ 14 ∷ 15 ∷ 8 ∷ [])
    ∷ (3 ∷ 4 ∷ 10 ∷ 12 ∷ 13 ∷ 2 ∷ 7 ∷ 14 ∷ 6 ∷ 5 ∷ 9 ∷ 0 ∷ 11 ∷ 15 ∷ 8 ∷ 1 ∷ [])
    ∷ (10 ∷ 7 ∷ 12 ∷ 9 ∷ 14 ∷ 3 ∷ 13 ∷ 15 ∷ 4 ∷ 0 ∷ 11 ∷ 2 ∷ 5 ∷ 8 ∷ 1 ∷ 6 ∷ [])
    ∷ (12 ∷ 13 ∷ 9 ∷ 11 ∷ 15 ∷ 10 ∷ 14 ∷ 8 ∷ 7 ∷ 2 ∷ 5 ∷ 3 ∷ 0 ∷ 1 ∷ 6 ∷ 4 ∷ [])
    ∷ (9 ∷ 14 ∷ 11 ∷ 5 ∷ 8 ∷ 12 ∷ 15 ∷ 1 ∷ 13 ∷ 3 ∷ 0 ∷ 10 ∷ 2 ∷ 6 ∷ 4 ∷ 7 ∷ [])
    ∷ (11 ∷ 15 ∷ 5 ∷ 0 ∷ 1 ∷ 9 ∷ 8 ∷ 6 ∷ 14 ∷ 10 ∷ 2 ∷ 12 ∷ 3 ∷ 4 ∷ 7 ∷ 13 ∷ [])
    ∷ []

-- the word of the block m at place i of round r
unfoldable pub scheduled : List ℕ → ℕ → ℕ → ℕ
scheduled m r i = at m (at (slice_index_or schedule r []) i)

-- the seven rounds
unfoldable pub rounds : List ℕ → List ℕ → List ℕ
rounds m v = fold (λ r u. round (scheduled m r) u) (from 0 7) v

-- the eight constant words IV; they are also the starting words of hash mode
unfoldable pub iv : List ℕ
iv =
    0x6a09e667 ∷ 0xbb67ae85 ∷ 0x3c6ef372 ∷ 0xa54ff53a
    ∷ 0x510e527f ∷ 0x9b05688c ∷ 0x1f83d9ab ∷ 0x5be0cd19 ∷ []

-- the state that the rounds start from
unfoldable pub start : List ℕ → ℕ → ℕ → ℕ → List ℕ
start cv counter len flags = cv ++ take 4 iv ++ counter % 2 ^ 32 ∷ counter / 2 ^ 32 ∷ len ∷ flags ∷ []

-- the chaining value after the block of the words m, of len bytes, from the chaining value cv
unfoldable pub compress : List ℕ → List ℕ → ℕ → ℕ → ℕ → List ℕ
compress cv m counter len flags =
    let v = rounds m (start cv counter len flags) in
    map (λ i. bit_xor (at v i) (at v (i + 8))) (from 0 8)
