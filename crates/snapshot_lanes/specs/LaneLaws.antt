-- What the lanes' functions find and leave, in terms of the members left.
-- Assumes nothing.
use Rattle.std.specs.Prelude.{◌≡◌, Bool, ◌&&◌, length, take, drop, get_or, set, replicate, Option, Some, None}
use Rattle.std.specs.Option.{is_some, option_map}
use Rattle.std.proofs.Math.Path.{refl, sym, ap}
use Rattle.std.proofs.Common.{◌∙◌, true≢false, length-drop, length-set, drop-cons, drop-drop, get_or-set_same, get_or-set_other, pow_mono, le-leb, eqb-true}
use Rattle.std.proofs.Math.Bool.{true, false}
use mathlib.Core.List.{List, [], ◌∷◌, ◌++◌, map, append-nil}
use Prim.Native.Nat.{ℕ, zero, suc, ◌+◌, ◌-◌, ◌*◌, ◌%◌, ◌^◌, ◌≤◌, ◌<◌}
use native.Mathlib.Omega.{arith}
use Rattle.std.proofs.Math.Seq.{drop-length, take-length}
use Rattle.std.proofs.Math.Dec.{eqb}
use Rattle.std.proofs.lemmas.Bool.{lt-leb, eqb-false}
use Rattle.base.specs.Logic.{pick, all, ascending_from}
use Rattle.roaring_cursor.specs.Cursor.{Good, members_from, Stepped}
use Rattle.roaring_cursor.specs.declared.Cursor.{Cursor}
use Rattle.snapshot_tiers.specs.declared.Head.{Head}
use Rattle.snapshot_lanes.specs.declared.lanes.Lane.{Lane}
use Rattle.snapshot_tiers.specs.Payloads.{size_of, payload_of, sets_of}
use Rattle.snapshot_tiers.specs.TierLaws.{bit_at, code_from}
use Rattle.snapshot_tiers.specs.Heads.{past, no_head, head_at, idx_of, lower_by, lowest}
use Rattle.snapshot_tiers.specs.JoinLaws.{Lowest, Small, lowest-of, code-most}
use Rattle.snapshot_lanes.specs.Lanes.{part_of, led_by, lane_list, leads, coded, Open, LaneOf, AllOpen, lists_of, lowest_lane, code_lanes, small_head}

-- ---- a step of the cursor
module _ (s : List ℕ) (at end : ℕ) (c : Cursor) (order : at ≤ end) (inside : end ≤ length s) where
  pub lane-member : (x : ℕ) (d : Cursor) → Stepped (take (end - at) (drop at s)) c (Some (x, d))
      → LaneOf s (members_from (take (end - at) (drop at s)) c) (record { head = Some x; at = at; end = end; cursor = d })
  lane-member x d p = record { list = sym p.members; opened = record { order = order; inside = inside; good = p.good } }

  pub lane_done : Good (take (end - at) (drop at s)) c → Stepped (take (end - at) (drop at s)) c None
      → LaneOf s (members_from (take (end - at) (drop at s)) c) (record { head = None; at = at; end = end; cursor = c })
  lane_done g p = record { list = sym p.members; opened = record { order = order; inside = inside; good = g } }

-- ---- where a lane starts
pub payload-part : (s : List ℕ) (p n : ℕ) → n ≡ size_of (drop p s) → take (p + 8 + n - (p + 8)) (drop (p + 8) s) ≡ payload_of (drop p s)
payload-part s p n e =
    let z : p + 8 + n - (p + 8) ≡ n = omega arith in
    rw (z, drop-drop 8 p s, e)

-- ---- a lane's first member
pub leads-dead : (live b : Bool) → live ≡ false → false ≡ (live && b)
leads-dead live b e = rw e

pub leads-live : (live b : Bool) → live ≡ true → b ≡ (live && b)
leads-live live b e = rw e

module _ (s : List ℕ) (l : Lane) (x : ℕ) where
  pub past-led : leads l.head x ≡ true → members_from (part_of s l) l.cursor ≡ past x (lane_list s l)
  unfolding past
  past-led e = go l.head e
    where
      go : (h : Option ℕ) → leads h x ≡ true → members_from (part_of s l) l.cursor ≡ past x (led_by h (members_from (part_of s l) l.cursor))
      go None q = absurd (true≢false (sym q))
      go (Some y) q = rw q

  pub past-other : leads l.head x ≡ false → lane_list s l ≡ past x (lane_list s l)
  unfolding past
  past-other e = go l.head e
    where
      go : (h : Option ℕ) → leads h x ≡ false → led_by h (members_from (part_of s l) l.cursor) ≡ past x (led_by h (members_from (part_of s l) l.cursor))
      go None q = refl
      go (Some y) q = rw q

-- ---- the lower first member
module _ (x : ℕ) (h : Option Head) where
  pub lower-dead : h ≡ lower_by None h
  lower-dead = refl

  pub lower-kept : is_some h ≡ true → idx_of h ≤ x → h ≡ lower_by (Some x) h
  lower-kept f g = rw (f, le-leb (idx_of h) x g)

  pub lower-less : x < idx_of h → head_at x 0 ≡ lower_by (Some x) h
  lower-less g = rw (lt-leb (idx_of h) x g) (go (is_some h))
    where
      go : (b : Bool) → head_at x 0 ≡ pick (b && false) h (head_at x 0)
      go true = refl
      go false = refl

  pub lower-first : is_some h ≡ false → head_at x 0 ≡ lower_by (Some x) h
  lower-first f = rw f

-- ---- lanes from the last to the first
before-step : (ls : List Lane) (d : Lane) (j k : ℕ) → k ≡ suc j → j < length ls → drop j ls ≡ get_or ls j d ∷ drop k ls
before-step ls d j k e h = rw e (drop-cons ls j d h)

module _ (ls : List Lane) (d : Lane) (k : ℕ) (p : 0 < k) (h : k ≤ length ls) where
  lane-before : drop (k - 1) ls ≡ get_or ls (k - 1) d ∷ drop k ls
  lane-before = before-step ls d (k - 1) k (omega arith) (omega arith)

  pub lowest-before : lower_by (get_or ls (k - 1) d).head (lowest_lane (drop k ls)) ≡ lowest_lane (drop (k - 1) ls)
  unfolding lowest_lane
  lowest-before = sym (ap lowest_lane lane-before)

  pub code-before : (x : ℕ) → pick (leads (get_or ls (k - 1) d).head x) (2 ^ (k - 1)) 0 + code_lanes k x (drop k ls) ≡ code_lanes (k - 1) x (drop (k - 1) ls)
  unfolding code_lanes
  code-before x =
      let e : suc (k - 1) ≡ k = omega arith in
      sym (ap (code_lanes (k - 1) x) lane-before
      ∙ ap (λ (i : ℕ). pick (leads (get_or ls (k - 1) d).head x) (2 ^ (k - 1)) 0 + code_lanes i x (drop k ls)) e)

pub bit-power : (q : Bool) (k : ℕ) → q ≡ true → k < 8 → 1 * 2 ^ k % 18446744073709551616 ≡ pick q (2 ^ k) 0
bit-power q k e h = rw e (omega (arith, pow_mono {i = k} {j = 7} (omega arith)))

pub no-bit-power : (q : Bool) (n : ℕ) → q ≡ false → 0 ≡ pick {A = ℕ} q n 0
no-bit-power q n e = rw e

-- ---- the members left
pub small-head : (s : List ℕ) (lo : ℕ) (ls : List Lane) (h : Option Head) → ((k x : ℕ) → code_lanes k x ls ≡ code_from k x (lists_of s ls)) → Lowest lo (lists_of s ls) h
    → Small lo (lists_of s ls) (option_map (coded ls) h)
small-head s lo ls None q l =
    record {
      none = l.none;
      blank = λ f. l.blank f 0 [];
      bound = λ f. absurd (true≢false (sym f));
      hit = λ f. absurd (true≢false (sym f));
      code = λ f. absurd (true≢false (sym f));
      from = l.from;
    }
small-head s lo ls (Some h) q l =
    record {
      none = λ f. absurd (true≢false f);
      blank = λ f. absurd (true≢false f);
      bound = l.bound;
      hit = λ f. l.hit f 0;
      code = λ f. omega (arith, q 0 h.idx);
      from = l.from;
    }

module _ (s : List ℕ) where
  pub lowest-lists : (ls : List Lane) → lowest_lane ls ≡ lowest (lists_of s ls)
  unfolding lowest_lane lowest
  lowest-lists [] = refl
  lowest-lists (l ∷ ls) = go l.head (lowest-lists ls)
    where
      go : (h : Option ℕ) → lowest_lane ls ≡ lowest (lists_of s ls)
          → lower_by h (lowest_lane ls) ≡ lowest (led_by h (members_from (part_of s l) l.cursor) ∷ lists_of s ls)
      go None e = e
      go (Some x) e = rw e

  pub code-lists : (k x : ℕ) (ls : List Lane) → code_lanes k x ls ≡ code_from k x (lists_of s ls)
  unfolding code_lanes code_from bit_at
  code-lists k x [] = refl
  code-lists k x (l ∷ ls) = rw (code-lists (suc k) x ls) (go l.head)
    where
      go : (h : Option ℕ) → pick (leads h x) (2 ^ k) 0 + code_from (suc k) x (lists_of s ls)
          ≡ bit_at k x (led_by h (members_from (part_of s l) l.cursor)) + code_from (suc k) x (lists_of s ls)
      go None = refl
      go (Some y) = refl

  pub small-of : (lo : ℕ) (ls : List Lane) → all (ascending_from lo) (lists_of s ls) ≡ true → Small lo (lists_of s ls) (small_head ls)
  unfolding small_head
  small-of lo ls a = go (lowest_lane ls) (lowest-lists ls)
    where
      go : (h : Option Head) → h ≡ lowest (lists_of s ls) → Small lo (lists_of s ls) (option_map (coded ls) h)
      go h e = small-head s lo ls h (λ k x. code-lists k x ls) (rw e (lowest-of lo (lists_of s ls) a))

length-lists : (s : List ℕ) (ls : List Lane) → length (lists_of s ls) ≡ length ls
length-lists s [] = refl
length-lists s (l ∷ ls) = ap suc (length-lists s ls)

pub code-room : (s : List ℕ) (k x : ℕ) (ls : List Lane) → code_lanes k x ls + 2 ^ k ≤ 2 ^ (k + length ls)
code-room s k x ls = rw (code-lists s k x ls, ← length-lists s ls) (code-most k x (lists_of s ls))

-- ---- eight lanes: before the last, and at the first
pub lowest-none : (ls : List Lane) → length ls ≡ 8 → no_head ≡ lowest_lane (drop 8 ls)
unfolding lowest_lane
lowest-none ls e = rw (← e, drop-length ls)

pub lowest-all : (ls : List Lane) (k : ℕ) → k ≡ 0 → lowest_lane (drop k ls) ≡ lowest_lane ls
lowest-all ls k e = rw e

pub code-end : (ls : List Lane) (x : ℕ) → length ls ≡ 8 → 0 ≡ code_lanes 8 x (drop 8 ls)
unfolding code_lanes
code-end ls x e = ap (code_lanes 8 x) (sym (drop-length ls) ∙ ap (λ (n : ℕ). drop n ls) e)

pub code-all : (ls : List Lane) (x k : ℕ) → k ≡ 0 → code_lanes k x (drop k ls) ≡ code_lanes 0 x ls
code-all ls x k e = rw e

pub code_below : (ls : List Lane) (x : ℕ) → length ls ≡ 8 → code_lanes 0 x ls < 256
code_below ls x e = let h : code_lanes 0 x ls + 2 ^ 0 ≤ 2 ^ (0 + 8) = rw e at (code-room [] 0 x ls) in omega arith

pub code_fits : (ls : List Lane) (d : Lane) (k x : ℕ) → 0 < k → k ≤ 8 → length ls ≡ 8 → (b sum : ℕ)
    → b ≡ pick (leads (get_or ls (k - 1) d).head x) (2 ^ (k - 1)) 0 → sum ≡ code_lanes k x (drop k ls) → b + sum < 2 ^ 64
code_fits ls d k x p h n b sum e f =
    let m : (k - 1) + (8 - (k - 1)) ≡ 8 = omega arith in
    let l : length (drop (k - 1) ls) ≡ 8 - (k - 1) = rw (length-drop (k - 1) ls, n) in
    let g : code_lanes (k - 1) x (drop (k - 1) ls) + 2 ^ (k - 1) ≤ 2 ^ 8 = rw (l, m) at (code-room [] (k - 1) x (drop (k - 1) ls)) in
    let q : b + sum ≡ code_lanes (k - 1) x (drop (k - 1) ls) = rw (e, f) (code-before ls d k p (omega arith) x) in
    omega arith

-- ---- the first count of the small tier
pub small-none : (ls : List Lane) → None ≡ lowest_lane ls → None ≡ small_head ls
unfolding small_head
small-none ls e = ap (option_map (coded ls)) e

pub small-some : (ls : List Lane) (h : Head) (n : ℕ) → Some h ≡ lowest_lane ls → n ≡ code_lanes 0 h.idx ls → head_at h.idx (1 + n) ≡ small_head ls
unfolding small_head
small-some ls h n e c = rw c (ap (option_map (coded ls)) e)

-- ---- lanes put in one after the other
module _ {A B : Type 0} (f g : A → B) where
  pub map-turn : (ls : List A) (k : ℕ) (d m : A) → k < length ls → f m ≡ g (get_or ls k d)
      → map f (take (suc k) (set ls k m)) ++ map g (drop (suc k) (set ls k m)) ≡ map f (take k ls) ++ map g (drop k ls)
  map-turn [] k d m h e = absurd (omega arith)
  map-turn (l ∷ ls) zero d m h e = rw e
  map-turn (l ∷ ls) (suc k) d m h e = ap (λ (x : List B). f l ∷ x) (map-turn ls k d m (omega arith) e)

  pub map_whole : (ls : List A) → map f (take (length ls) ls) ++ map g (drop (length ls) ls) ≡ map f ls
  map_whole [] = refl
  map_whole (l ∷ ls) = ap (λ (x : List B). f l ∷ x) (map_whole ls)

pub map-put : {A B : Type 0} (f : A → B) (ls : List A) (k : ℕ) (m : A) (xs : List B) → k < length ls
    → map f (take (suc k) (set ls k m)) ++ xs ≡ map f (take k ls) ++ (f m ∷ xs)
map-put f [] k m xs h = absurd (omega arith)
map-put f (l ∷ ls) zero m xs h = refl
map-put f (l ∷ ls) (suc k) m xs h = ap (λ (x : List _). f l ∷ x) (map-put f ls k m xs (omega arith))

pub map-past : (s : List ℕ) (x : ℕ) (ls : List Lane) → map (λ l. past x (lane_list s l)) ls ≡ map (past x) (lists_of s ls)
map-past s x [] = refl
map-past s x (l ∷ ls) = ap (λ (y : List (List ℕ)). past x (lane_list s l) ∷ y) (map-past s x ls)

pub open-set : (s : List ℕ) (ls : List Lane) (k : ℕ) (m : Lane) → AllOpen s ls → Open s m → AllOpen s (set ls k m)
open-set s ls k m a o d i h = go (eqb i k) refl
  where
    go : (b : Bool) → eqb i k ≡ b → Open s (get_or (set ls k m) i d)
    go true e = let q = eqb-true i k e in rw (q, get_or-set_same ls k m d (omega (arith, length-set ls k m))) o
    go false e = rw (get_or-set_other ls k i m d (eqb-false i k e)) (a d i (omega (arith, length-set ls k m)))

pub open-same : (s : List ℕ) (n : ℕ) (l : Lane) → Open s l → AllOpen s (replicate n l)
open-same s zero l o d k h = absurd (omega arith)
open-same s (suc n) l o d zero h = o
open-same s (suc n) l o d (suc k) h = open-same s n l o d k (omega arith)

-- ---- lanes of payloads, and lanes past an index, one after the other
pub open_turn : (s : List ℕ) (ls : List Lane) (k : ℕ) (l : Lane) (n m p q : ℕ) (xs : List ℕ) (all : List (List ℕ)) → k < length ls → lane_list s l ≡ xs → sets_of n (drop p s) ≡ xs ∷ sets_of m (drop q s)
    → map (lane_list s) (take k ls) ++ sets_of n (drop p s) ≡ all → map (lane_list s) (take (suc k) (set ls k l)) ++ sets_of m (drop q s) ≡ all
open_turn s ls k l n m p q xs all h e f g =
    map-put (lane_list s) ls k l (sets_of m (drop q s)) h ∙ rw e (ap (λ (r : List (List ℕ)). map (lane_list s) (take k ls) ++ r) (sym f) ∙ g)

pub open_done : (s : List ℕ) (ls : List Lane) (k n : ℕ) (bs : List ℕ) (all : List (List ℕ)) → k ≡ length ls → n ≡ 0
    → map (lane_list s) (take k ls) ++ sets_of n bs ≡ all → lists_of s ls ≡ all
unfolding sets_of
open_done s ls k n bs all e f g =
    sym (append-nil (lists_of s ls)) ∙ ap (λ (r : List Lane). map (lane_list s) r ++ []) (sym (take-length ls) ∙ ap (λ (i : ℕ). take i ls) (sym e))
    ∙ ap (λ (i : ℕ). map (lane_list s) (take k ls) ++ sets_of i bs) (sym f) ∙ g

pub past-done : (s : List ℕ) (x : ℕ) (ls : List Lane) (k : ℕ) (all : List (List ℕ)) → k ≡ length ls
    → map (lane_list s) (take k ls) ++ map (λ l. past x (lane_list s l)) (drop k ls) ≡ all → lists_of s ls ≡ all
past-done s x ls k all e g = sym (map_whole (lane_list s) (λ l. past x (lane_list s l)) ls) ∙ ap (λ (i : ℕ). map (lane_list s) (take i ls) ++ map (λ l. past x (lane_list s l)) (drop i ls)) (sym e) ∙ g
