-- The entries that waiting rows name, marked one after the other, a window of them at a time.
-- Assumes nothing.
use Rattle.std.specs.Prelude.{ℕ, ◌+◌, ◌-◌, ◌*◌, ◌/◌, ◌%◌, ◌^◌, Bool, true, not, ◌&&◌, List, map, get_or, set, leb, ltb, eqb}
use Rattle.base.specs.Logic.{pick, all, keep, repeated}
use Rattle.rows.specs.Keys.{first_four, keys, place}
use Rattle.cell_nursery.specs.declared.Nursery.{Nursery}
use Rattle.cell_nursery.specs.Layout.{hash_of, WaitingRow}

-- entry i of the window is marked, a bit for each
unfoldable pub is_marked : List ℕ → ℕ → Bool
is_marked m i = eqb (get_or m (i / 64) 0 / 2 ^ (i % 64) % 2) 1

-- the marks with one more
unfoldable pub with_mark : List ℕ → ℕ → List ℕ
with_mark m i = set m (i / 64) (get_or m (i / 64) 0 + 2 ^ (i % 64))

-- a place in the window of 65,536 from lo on, and not behind it
unfoldable pub within : ℕ → ℕ → Bool
within lo k = leb lo k && not (leb (lo + 65536) k)

module _ {A : Type 0} (key : A → ℕ) (ok : A → Bool) where
  -- a row of another window passes; one of this window passes where it is right and its place isn't marked yet
  unfoldable pub passes : ℕ → List ℕ → A → Bool
  passes lo m x = pick (within lo (key x)) (ok x && not (is_marked m (key x - lo))) true

  -- and then it is
  unfoldable pub marks_with : ℕ → List ℕ → A → List ℕ
  marks_with lo m x = pick (within lo (key x) && passes lo m x) (with_mark m (key x - lo)) m

  -- each row is right, and no two have one place
  unfoldable pub clean : List A → Bool
  clean xs = all ok xs && not (repeated (map key xs))

  -- those of the window are
  unfoldable pub clean_within : ℕ → List A → Bool
  clean_within lo xs = clean (keep (λ x. within lo (key x)) xs)

module _ (r : Nursery) (es : List ℕ) where
  -- the place of a waiting row's hash among those of the entries
  abbrev pub place_of : WaitingRow → ℕ
  place_of w = place (hash_of w.hash) (keys first_four 8 r.entries es)

  -- the entry there has the row's hash and its born round
  unfoldable pub names_at : WaitingRow → Bool
  names_at w =
      ltb (place_of w) r.entries && eqb (get_or (keys first_four 8 r.entries es) (place_of w) 0) (hash_of w.hash)
      && eqb (get_or es (place_of w * 8 + 5) 0) w.born

  -- a waiting row passes, the marks that it leaves, and whether those of a window are clean
  abbrev pub row_passes : ℕ → List ℕ → WaitingRow → Bool
  row_passes lo m w = passes place_of names_at lo m w

  abbrev pub row_marks : ℕ → List ℕ → WaitingRow → List ℕ
  row_marks lo m w = marks_with place_of names_at lo m w

  abbrev pub window_clean : ℕ → List WaitingRow → Bool
  window_clean lo ws = clean_within place_of names_at lo ws
