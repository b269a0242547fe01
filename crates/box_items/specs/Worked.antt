-- Runs that are evaluated: document 01's, and one for each way an item is bad. Small tables do for them.
-- Assumes nothing.
use Rattle.std.specs.Prelude.{◌≡◌, refl, ℕ, List, [], ◌∷◌, ◌++◌, length}
use Rattle.base.specs.Logic.{zeros}
use Rattle.base.specs.Bytes.{le16, le32, le64}
use Rattle.node_box.specs.Box.{standard_settings, made}
use Rattle.box_lines.specs.declared.Line.{Line}
use Rattle.box_items.specs.Items.{lines_from}
use Rattle.box_items.specs.Open.{evaluation}

abbrev run : List ℕ → List Line
run bs = lines_from (length bs) (made standard_settings 0 (zeros 4) (zeros 16) (zeros 10) (zeros 2)) 0 bs

abbrev item : ℕ → List ℕ → List ℕ
item kind body = le32 (length body) ++ le16 kind ++ body

abbrev three : ℕ → ℕ → ℕ → List ℕ
three i a b = le64 i ++ le64 a ++ le64 b

-- a payload of id 7
abbrev payload : ℕ → ℕ → List ℕ → List ℕ
payload inserts removes items = le64 7 ++ le32 inserts ++ le32 removes ++ items

-- a hash, and an insert of it with a cell of one byte
abbrev five : List ℕ
five = zeros 31 ++ 5 ∷ []

abbrev insert : List ℕ
insert = five ++ le64 0 ++ le32 0 ++ le16 1 ++ 9 ∷ []

abbrev line : ℕ → ℕ → ℕ → ℕ → ℕ → Line
line p k a n l = record { place = p; kind = k; answer = a; next = n; live = l }

pub document-01 : run (item 1 [] ++ item 1 [] ++ item 2 (three 1 0 3 ++ three 0 0 1) ++ item 2 (three 1 2 5))
    ≡ line 0 1 0 1 0 ∷ line 1 1 0 2 0 ∷ line 2 2 0 2 2 ∷ line 3 2 5 2 2 ∷ []
unfolding evaluation
document-01 = refl

-- 1 → 5 of an index that was never born is 25, which changes nothing; 0 → 5 is taken after it
pub never-born : run (item 1 [] ++ item 2 (three 0 1 5) ++ item 2 (three 0 0 5)) ≡ line 0 1 0 1 0 ∷ line 1 2 25 1 0 ∷ line 2 2 0 1 1 ∷ []
unfolding evaluation
never-born = refl

pub no-input : run [] ≡ []
unfolding evaluation
no-input = refl

-- a header that breaks off, a body that does, and one that is too long
pub header-cut : run (item 1 [] ++ 0 ∷ []) ≡ line 0 1 0 1 0 ∷ line 1 0 20 1 0 ∷ []
unfolding evaluation
header-cut = refl

pub body-cut : run (le32 4 ++ le16 4 ++ zeros 3) ≡ line 0 4 20 0 0 ∷ []
unfolding evaluation
body-cut = refl

-- nothing is read after a bad item
pub misfit : run (item 3 (zeros 15) ++ item 1 []) ≡ line 0 3 20 0 0 ∷ []
unfolding evaluation
misfit = refl

-- a payload ends with its last item: a remove, an insert's cell, or with none its lengths. One byte after it is too many
pub remove-last : run (item 3 (payload 0 1 five) ++ item 1 []) ≡ line 0 3 0 0 0 ∷ line 1 1 0 1 0 ∷ []
unfolding evaluation
remove-last = refl

pub after-remove : run (item 3 (payload 0 1 five ++ 7 ∷ []) ++ item 1 []) ≡ line 0 3 20 0 0 ∷ []
unfolding evaluation
after-remove = refl

pub insert-last : run (item 3 (payload 1 0 insert) ++ item 1 []) ≡ line 0 3 0 0 0 ∷ line 1 1 0 1 0 ∷ []
unfolding evaluation
insert-last = refl

pub after-insert : run (item 3 (payload 1 0 insert ++ 7 ∷ []) ++ item 1 []) ≡ line 0 3 20 0 0 ∷ []
unfolding evaluation
after-insert = refl

pub no-items : run (item 3 (payload 0 0 []) ++ item 1 []) ≡ line 0 3 0 0 0 ∷ line 1 1 0 1 0 ∷ []
unfolding evaluation
no-items = refl

pub after-lengths : run (item 3 (payload 0 0 [] ++ 7 ∷ []) ++ item 1 []) ≡ line 0 3 20 0 0 ∷ []
unfolding evaluation
after-lengths = refl

-- a whole remove that the lengths don't count
pub remove-too-many : run (item 3 (payload 0 1 (five ++ five))) ≡ line 0 3 20 0 0 ∷ []
unfolding evaluation
remove-too-many = refl

pub ragged : run (item 2 (zeros 16)) ≡ line 0 2 20 0 0 ∷ []
unfolding evaluation
ragged = refl

pub allocation-with-body : run (item 1 (zeros 1)) ≡ line 0 1 20 0 0 ∷ []
unfolding evaluation
allocation-with-body = refl

pub long-round : run (item 4 (zeros 8)) ≡ line 0 4 20 0 0 ∷ []
unfolding evaluation
long-round = refl

pub other-kinds : (run (item 0 []) ≡ line 0 0 20 0 0 ∷ []) × (run (item 5 []) ≡ line 0 5 20 0 0 ∷ [])
unfolding evaluation
other-kinds = (refl, refl)
