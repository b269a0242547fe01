-- The record of a payload, and leftovers as they are listed: how long they are, and how they are put into an output.
-- Assumes nothing.
use Rattle.std.specs.Prelude.{◌≡◌, refl, List, [], ◌++◌, ℕ, ◌+◌, ◌-◌, ◌≤◌, ◌<◌, length, take, drop}
use Rattle.std.proofs.Common.{sym, ap, ◌∙◌, append-nil, arith, length-append, ne_eqb}
use Rattle.std.proofs.Math.Decide.{dec_lt}
use Rattle.std.proofs.Math.Seq.{paste, take-length}
use Rattle.base.specs.Logic.{flat}
use Rattle.base.specs.Bytes.{le64}
use Rattle.base.specs.Laws.{length_digits}
use Rattle.slices.specs.Laws.{part-lent, part-paste, paste-append}
use Rattle.slices.specs.Places.{put_at}
use Rattle.slices.specs.PlaceLaws.{put_at-prepend}
use Rattle.format.specs.Record.{hashed, sealed}
use Rattle.journal.specs.Convert.{dropped_bytes}
use Rattle.journal_convert.specs.Rewriting.{listed}

-- ---- leftovers
pub listed-none : (place count : ℕ) → count ≡ 0 → listed place count ≡ []
unfolding listed flat
listed-none place count e = rw e

listed-some : (place count : ℕ) → 0 < count → listed place count ≡ le64 place ++ le64 count
unfolding listed flat dropped_bytes
listed-some place count h = rw (ne_eqb count 0 (λ e. omega arith)) (append-nil (le64 place ++ le64 count))

pub length-listed : (place count : ℕ) → 0 < count → length (listed place count) ≡ 16
length-listed place count h = rw (listed-some place count h) (simp (length-append, length_digits))

pub listed-most : (place count : ℕ) → length (listed place count) ≤ 16
listed-most place count = elim (dec_lt 0 count) [ yes h ↦ omega (arith, length-listed place count h) | no h ↦ rw (listed-none place count (omega arith)) (omega arith) ]

-- by two numbers, one behind the other
pub listed-put : (t : List ℕ) (at place count : ℕ) → 0 < count → at ≤ length t → (one two : List ℕ) → one ≡ paste t at (le64 place) 8 → two ≡ paste one (at + 8) (le64 count) 8
    → two ≡ put_at t at (listed place count)
listed-put t at place count some room one two e f =
    let l : length (le64 place ++ le64 count) ≡ 16 = simp (length-append, length_digits) in
    rw (f, e, listed-some place count some, l) (paste-append t at (le64 place) (le64 count) 8 8 (length_digits 256 8 place) (length_digits 256 8 count) room)

-- ---- a record
pub length-sealed : (hash : List ℕ → List ℕ) → ((b : List ℕ) → length (hash b) ≡ 32) → (p : List ℕ) → length (sealed hash p) ≡ 40 + length p
unfolding sealed hashed
length-sealed hash long p = simp (length-append, long, length_digits) (omega arith)

-- length and payload stand behind the place of the hash; then comes the hash of what stands there
pub sealed-put : (hash : List ℕ → List ℕ) → ((b : List ℕ) → length (hash b) ≡ 32) → (p out : List ℕ) (at : ℕ) → at + (40 + length p) ≤ length out
    → (one two h : List ℕ) → one ≡ paste out (at + 32) (le64 (length p)) 8 → two ≡ put_at one (at + 40) p → h ≡ hash (take (at + 40 + length p - (at + 32)) (drop (at + 32) two))
    → put_at two at h ≡ put_at out at (sealed hash p)
unfolding sealed hashed
sealed-put hash long p out at room one two h e f g =
    let b : List ℕ = le64 (length p) ++ p in
    let l : length b ≡ 8 + length p = simp (length-append, length_digits) in
    let place : at + 40 ≡ at + 32 + 8 = omega arith in
    let both : two ≡ put_at out (at + 32) b = rw (f, e, place, l) (paste-append out (at + 32) (le64 (length p)) p 8 (length p) (length_digits 256 8 (length p)) refl (omega arith)) in
    let there : take (at + 40 + length p - (at + 32)) (drop (at + 32) two) ≡ b =
    part-lent two (at + 32) (at + 40 + length p) (length b) (omega arith)
    ∙ rw both (part-paste out (at + 32) b (length b) (omega arith) (omega arith) ∙ take-length b) in
    rw (g, there, both) (ap (λ (k : ℕ). put_at (put_at out (at + k) b) at (hash b)) (sym (long b)) ∙ put_at-prepend out at (hash b) b (omega (arith, long b)))
