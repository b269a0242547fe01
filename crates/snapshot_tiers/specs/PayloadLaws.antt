-- Reading the sets is finding their end and laying their members; the members of each ascend.
-- Assumes nothing.
use Rattle.std.specs.Prelude.{◌≡◌, refl, Bool, true, false, List, [], ℕ, zero, suc, length, take, drop, leb}
use Rattle.std.proofs.Math.Option.{Option, none, some}
use Rattle.std.proofs.Common.{arith}
use Rattle.base.specs.Logic.{all, from, ascending, ascending_from}
use Rattle.base.specs.Maybe as maybe
use Rattle.base.specs.Bytes.{unle, cut, read_le}
use Rattle.base.specs.Laws.{and_both}
use Rattle.base.specs.Answers.{Outcome, taken, ◌>>=◌, or_refuse}
use Rattle.base.specs.declared.Refusal.{Refusal}
use Rattle.base.specs.declared.Refusal.TheVariants.{TornSnapshot, BadBitmap}
use Rattle.roaring.specs.Read.{parse64}
use Rattle.roaring_cursor.specs.Cursor.{members_of}
use Rattle.roaring.specs.MemberLaws.{members-ascend}
use Rattle.counters.specs.Counts.{Entry}
use Rattle.snapshot.specs.Read.{lay_bit, read_sets}
use Rattle.snapshot_tiers.specs.Payloads.{size_of, payload_of, after_of, sets_of, lay_all, rest_after}

-- ---- reading the sets is finding their end, and laying their members
bind-later : {A B C : Type 0} (q : Refusal) (o : Option A) (f : A → Outcome C) (g : A → Outcome B) (h : B → Outcome C)
    → ((a : A) → o ≡ some a → f a ≡ (g a >>= h)) → (or_refuse q o >>= f) ≡ ((or_refuse q o >>= g) >>= h)
bind-later q none f g h e = refl
bind-later q (some a) f g h e = e a refl

cut-gives : (n : ℕ) (bs : List ℕ) (p : List ℕ × List ℕ) → cut n bs ≡ some p → (take n bs, drop n bs) ≡ p
unfolding cut
cut-gives n bs p = go (leb n (length bs))
  where
    go : (b : Bool) → maybe.◌>>◌ (maybe.ensure b) (some (take n bs, drop n bs)) ≡ some p → (take n bs, drop n bs) ≡ p
    go true e = cc
    go false e = let z : ◌≡◌ {A = ℕ} 0 1 = cc in absurd (omega arith)

read_le-gives : (n : ℕ) (bs : List ℕ) (p : ℕ × List ℕ) → read_le n bs ≡ some p → (unle (take n bs), drop n bs) ≡ p
unfolding read_le cut
read_le-gives n bs p = go (leb n (length bs))
  where
    go : (b : Bool) → maybe.◌>>=◌ {A = List ℕ × List ℕ} (maybe.◌>>◌ (maybe.ensure b) (some (take n bs, drop n bs))) (λ y. some (unle y.0, y.1)) ≡ some p → (unle (take n bs), drop n bs) ≡ p
    go true e = cc
    go false e = let z : ◌≡◌ {A = ℕ} 0 1 = cc in absurd (omega arith)

pub sets-read : (n k : ℕ) (es : List Entry) (bs : List ℕ) → read_sets (from k n) es bs ≡ (rest_after n bs >>= (λ r. taken (lay_all k (sets_of n bs) es, r)))
unfolding read_sets from rest_after sets_of lay_all
sets-read zero k es bs = refl
sets-read (suc n) k es bs =
    bind-later TornSnapshot (read_le 8 bs) _ _ _ (λ a p.
    rw (← read_le-gives 8 bs a p)
    (bind-later TornSnapshot (cut (size_of bs) (drop 8 bs)) _ _ _ (λ b q.
    rw (← cut-gives (size_of bs) (drop 8 bs) b q)
    (bind-later BadBitmap (parse64 (payload_of bs)) _ _ _ (λ xs r.
    rw r (sets-read n (suc k) (lay_bit k xs es) (after_of bs)))))))

-- ---- the members of each ascend
one-ascends : (bs : List ℕ) → ascending (members_of bs) ≡ true
unfolding ascending_from
one-ascends bs = go (parse64 bs) refl
  where
    go : (o : Option (List ℕ)) → parse64 bs ≡ o → ascending (maybe.maybe [] (λ xs. xs) o) ≡ true
    go none e = refl
    go (some xs) e = members-ascend bs xs e

pub sets-ascend : (n : ℕ) (bs : List ℕ) → all (ascending_from 0) (sets_of n bs) ≡ true
unfolding all sets_of
sets-ascend zero bs = refl
sets-ascend (suc n) bs = and_both (ascending (members_of (payload_of bs))) (all (ascending_from 0) (sets_of n (after_of bs))) (one-ascends (payload_of bs)) (sets-ascend n (after_of bs))
