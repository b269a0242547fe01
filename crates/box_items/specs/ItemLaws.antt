-- What an item of each kind stands for by the tests that the code makes, and what running it gives by what the call gave.
-- Assumes nothing.
use Rattle.std.specs.Prelude.{◌≡◌, Bool, ◌&&◌, ℕ, zero, suc, ◌+◌, ◌-◌, ◌*◌, ◌/◌, ◌%◌, ◌≤◌, ◌<◌, length, take, drop, get_or, eqb}
use Rattle.std.proofs.Math.Path.{refl, ap}
use Rattle.std.proofs.Common.{sym, ◌∙◌, mul-suc, arith, take_all, drop-drop}
use Rattle.std.proofs.Math.Bool.{true, false}
use Rattle.std.proofs.Math.Option.{Option, none, some}
use mathlib.Core.List.{List}
use Rattle.std.proofs.Math.ListN.{length-drop}
use Rattle.std.proofs.Math.Seq.{paste}
use borrow.Author.Tests.{le-leb, lt-leb, eq-eqb, ne_eqb, eqb-true, eqb-false}
use Rattle.base.specs.Logic.{zeros}
use Rattle.base.specs.Maybe.{◌>>◌, ensure}
use Rattle.base.specs.Bytes.{unle}
use Rattle.slices.specs.Laws.{part-paste}
use Rattle.counters.specs.declared.Counters.{Counters}
use Rattle.counters.specs.Returned.{Allocated, Applied}
use Rattle.counters.specs.Calls as counters
use Rattle.cell_nursery.specs.declared.Nursery.{Nursery}
use Rattle.cell_nursery.specs.Returned.{Committed, Drained}
use Rattle.cell_nursery.specs.Calls as nursery
use Rattle.delta_items.specs.Walk.{inserts_len, items_fit, delta_in, removes_at}
use Rattle.delta_items.specs.WalkLaws.{delta-whole, delta-none, length-inserts, length-hashes, inserts-cells, fit-inserts, fit-removes, removes-at, removes-past}
use Rattle.std.specs.Prelude.{Some, None}
use Rattle.format.specs.Record.{stats_of, leftover}
use Rattle.format.proofs.RefusalLaws.{payload-short, payload-past, payload-items}
use Rattle.node_box.specs.Box.{Call, delta, step, with_counters, with_nursery}
use Rattle.box_items.specs.Items.{RanAnswer, allocate_item, words_in, batch_item, delta_item, drain_room, drain_item, call_of, box_of, effect, bad_item, ran}

-- ---- the words of a body

pub length-words : (n : ℕ) (bs : List ℕ) → length (words_in n bs) ≡ n
unfolding words_in
length-words zero bs = refl
length-words (suc n) bs = ap suc (length-words n (drop 8 bs))

pub words-at : (n i : ℕ) (bs : List ℕ) → i < n → get_or (words_in n bs) i 0 ≡ unle (take 8 (drop (8 * i) bs))
unfolding words_in
words-at zero i bs h = absurd (omega arith)
words-at (suc n) zero bs h = refl
words-at (suc n) (suc i) bs h =
    let m = mul-suc 8 i in
    let e : 8 + 8 * i ≡ 8 * suc i = omega arith in
    words-at n i (drop 8 bs) (omega arith) ∙ rw (drop-drop (8 * i) 8 bs, e)

-- the words that were read to the start of a slice are lent on
pub words-lent : (w bs : List ℕ) (n : ℕ) → take (n - 0) (drop 0 (paste w 0 (words_in n bs) n)) ≡ words_in n bs
words-lent w bs n =
    let z : n - 0 ≡ n = omega arith in
    let l = length-words n bs in
    ap (λ (k : ℕ). take k (drop 0 (paste w 0 (words_in n bs) n))) z
    ∙ part-paste w 0 (words_in n bs) n (omega arith) (omega arith)
    ∙ take_all n (words_in n bs) (omega arith)

-- ---- what follows a payload's 16 bytes, as it is lent on

abbrev pub behind : List ℕ → List ℕ
behind body = take (length body - 16) (drop 16 body)

behind-all : (body : List ℕ) → behind body ≡ drop 16 body
behind-all body = take_all (length body - 16) (drop 16 body) (omega (arith, length-drop 16 body))

-- ---- whether so many items fill it: they stand there whole, with nothing after them
unfoldable pub items_fill : ℕ → ℕ → List ℕ → Bool
items_fill inserts removes items = items_fit 2 inserts removes items && eqb (inserts_len 2 inserts items + 32 * removes) (length items)

-- by where the removes begin
module _ (x y : ℕ) (items : List ℕ) where
  pub fill-past : removes_at 2 x y items ≡ None → items_fill x y items ≡ false
  unfolding items_fill
  fill-past e = rw (removes-past 2 x y items e)

  module _ (at : ℕ) (e : removes_at 2 x y items ≡ Some at) where
    pub fill-at : items_fill x y items ≡ eqb (at + 32 * y) (length items)
    unfolding items_fill
    fill-at =
        let f = removes-at 2 x y items at e in
        rw (f.0, f.1)

    pub end-at : at + 32 * y ≤ length items
    end-at =
        let f = removes-at 2 x y items at e in
        omega (arith, fit-removes 2 x y items f.0)

-- ---- a payload of n bytes: 16, its items, and what they leave

-- nothing is left of b bytes exactly where the first a are all
none_after : (a b : ℕ) → a ≤ b → eqb (b - a) 0 ≡ eqb a b
none_after a b h = go (eqb a b) refl
  where
    go : (r : Bool) → eqb a b ≡ r → eqb (b - a) 0 ≡ r
    go true e = let q = eqb-true a b e in eq-eqb (b - a) 0 (omega arith)
    go false e = ne_eqb (b - a) 0 (λ z. eqb-false a b e (omega arith))

module _ (n x y : ℕ) (items : List ℕ) (whole : n ≡ 16 + length items) (fit : items_fit 2 x y items ≡ true) where
  items-leave : leftover (stats_of n (delta_in 2 x y items)) ≡ length items - (inserts_len 2 x items + 32 * y)
  unfolding leftover stats_of delta_in
  items-leave =
      rw (length-inserts 2 x items, length-hashes y (drop (inserts_len 2 x items) items)) (omega (arith, inserts-cells 2 x items (fit-inserts 2 x y items fit)))

  nothing-left : eqb (leftover (stats_of n (delta_in 2 x y items))) 0 ≡ items_fill x y items
  unfolding items_fill
  nothing-left = rw (items-leave, fit) (none_after (inserts_len 2 x items + 32 * y) (length items) (fit-removes 2 x y items fit))

-- the call that a payload states
abbrev stated : List ℕ → ℕ → ℕ → Call
stated body x y = delta (unle (take 8 body)) false x y (drop 16 body)

-- ---- bad items

module _ (body : List ℕ) where
  pub allocate-bad : (length body ≡ 0 → ⊥) → allocate_item body ≡ none
  unfolding allocate_item
  allocate-bad h = rw (ne_eqb (length body) 0 h)

  pub batch-bad : (length body % 24 ≡ 0 → ⊥) → batch_item body ≡ none
  unfolding batch_item
  batch-bad h = rw (ne_eqb (length body % 24) 0 h)

  pub drain-bad : (length body ≡ 4 → ⊥) → drain_item body ≡ none
  unfolding drain_item
  drain-bad h = rw (ne_eqb (length body) 4 h)

  pub delta-short : length body < 16 → delta_item body ≡ none
  unfolding delta_item
  delta-short h = rw (payload-short body h)

  -- x inserts and y removes are stated
  module _ (long : 16 ≤ length body) (x y : ℕ) (inserts : x ≡ unle (take 4 (drop 8 body))) (removes : y ≡ unle (take 4 (drop 12 body))) where
    -- the items that follow decide
    delta-fill : delta_item body ≡ (ensure (items_fill x y (drop 16 body)) >> some (stated body x y))
    unfolding delta_item items_fill delta_in
    delta-fill = go (items_fit 2 x y (drop 16 body)) refl
      where
        go : (b : Bool) → items_fit 2 x y (drop 16 body) ≡ b → delta_item body ≡ (ensure (items_fill x y (drop 16 body)) >> some (stated body x y))
        go false f = rw (payload-past body long (rw (← inserts, ← removes) (delta-none 2 x y (drop 16 body) (omega arith) f)), f)
        go true f =
            let l = length-drop 16 body in
            rw (
              payload-items body long (delta_in 2 x y (drop 16 body)) (rw (← inserts, ← removes) (delta-whole 2 x y (drop 16 body) f)),
              length-inserts 2 x (drop 16 body),
              length-hashes y (drop (inserts_len 2 x (drop 16 body)) (drop 16 body)),
            )
            (ap (λ (t : Bool). ensure t >> some (stated body x y)) (nothing-left (length body) x y (drop 16 body) (omega arith) f))

    same-fill : items_fill x y (drop 16 body) ≡ items_fill x y (behind body)
    same-fill = ap (λ (l : List ℕ). items_fill x y l) (sym (behind-all body))

    pub delta-past : items_fill x y (behind body) ≡ false → delta_item body ≡ none
    delta-past e = delta-fill ∙ rw (same-fill ∙ e)

    pub delta-good : items_fill x y (behind body) ≡ true → delta_item body ≡ some (stated body x y)
    delta-good e = delta-fill ∙ rw (same-fill ∙ e)

-- ---- the call of each kind

module _ (kind : ℕ) (body : List ℕ) where
  pub call_long : 32768 < length body → call_of kind body ≡ none
  unfolding call_of
  call_long h = rw (lt-leb (length body) 32768 h)

  module _ (fits : length body ≤ 32768) where
    pub call-allocate : kind ≡ 1 → call_of kind body ≡ allocate_item body
    unfolding call_of
    call-allocate e = rw (le-leb (length body) 32768 fits, e)

    pub call-batch : kind ≡ 2 → call_of kind body ≡ batch_item body
    unfolding call_of
    call-batch e = rw (le-leb (length body) 32768 fits, e)

    pub call-delta : kind ≡ 3 → call_of kind body ≡ delta_item body
    unfolding call_of
    call-delta e = rw (le-leb (length body) 32768 fits, e)

    pub call-drain : kind ≡ 4 → call_of kind body ≡ drain_item body
    unfolding call_of
    call-drain e = rw (le-leb (length body) 32768 fits, e)

    pub call-other : (kind ≡ 1 → ⊥) → (kind ≡ 2 → ⊥) → (kind ≡ 3 → ⊥) → (kind ≡ 4 → ⊥) → call_of kind body ≡ none
    unfolding call_of
    call-other a b c d = rw (le-leb (length body) 32768 fits, ne_eqb kind 1 a, ne_eqb kind 2 b, ne_eqb kind 3 c, ne_eqb kind 4 d)

-- ---- what running an item gives

module _ (c : Counters) (n : Nursery) (t es ws cs : List ℕ) where
  pub bad-ran : (r : RanAnswer) (item : Option Call) → r ≡ bad_item c n → item ≡ none → effect r t es ws cs ≡ ran (box_of c t n es ws cs) item
  unfolding ran
  bad-ran r item e f = ap (λ (x : RanAnswer). effect x t es ws cs) e ∙ ap (λ (o : Option Call). ran (box_of c t n es ws cs) o) (sym f)

  module _ (body : List ℕ) where
    pub allocate-ran : (a : Allocated) → a ≡ counters.alloc_call c → length body ≡ 0
        → effect (record { good = true; answer = a.answer; counters = a.counters; nursery = n }) t es ws cs ≡ ran (box_of c t n es ws cs) (allocate_item body)
    unfolding allocate_item ran step with_counters
    allocate-ran a e h = rw (eq-eqb (length body) 0 h, e)

    pub batch-ran : (a : Applied) (u : List ℕ) → counters.effect a u ≡ counters.batch_call c t (words_in (length body / 8) body) → length body % 24 ≡ 0
        → effect (record { good = true; answer = a.answer; counters = a.counters; nursery = n }) u es ws cs ≡ ran (box_of c t n es ws cs) (batch_item body)
    unfolding batch_item ran step with_counters
    batch-ran a u e h =
        rw (eq-eqb (length body % 24) 0 h)
        (ap (λ (x : counters.Changed). effect (record { good = true; answer = x.result.answer; counters = x.result.counters; nursery = n }) x.table es ws cs) e)

    pub delta-ran : (x y : ℕ) (a : Committed) (e w s : List ℕ) → nursery.effect a e w s ≡ nursery.delta_call n es ws cs false x y (behind body)
        → 16 ≤ length body → x ≡ unle (take 4 (drop 8 body)) → y ≡ unle (take 4 (drop 12 body)) → items_fill x y (behind body) ≡ true
        → effect (record { good = true; answer = a.answer; counters = c; nursery = a.nursery }) t e w s ≡ ran (box_of c t n es ws cs) (delta_item body)
    unfolding ran step with_nursery
    delta-ran x y a e w s q long p r fit =
        rw (delta-good body long x y p r fit)
        (ap (λ (z : nursery.Changed). effect (record { good = true; answer = z.result.answer; counters = c; nursery = z.result.nursery }) t z.entries z.waiting z.cells) (q ∙ ap (λ (l : List ℕ). nursery.delta_call n es ws cs false x y l) (behind-all body)))

    -- the output has room for a drain's
    pub drain-ran : (round : ℕ) (a : Drained) (o w : List ℕ) → nursery.drain_effect a o w ≡ nursery.drain_call n es ws cs round (zeros 27136)
        → length body ≡ 4 → round ≡ unle (take 4 body)
        → effect (record { good = true; answer = a.answer; counters = c; nursery = a.nursery }) t es w cs ≡ ran (box_of c t n es ws cs) (drain_item body)
    unfolding drain_item drain_room ran step with_nursery
    drain-ran round a o w q h e =
        let f : round ≡ unle body = e ∙ ap (λ (l : List ℕ). unle l) (take_all 4 body (omega arith)) in
        let r = q ∙ ap (λ (k : ℕ). nursery.drain_call n es ws cs k (zeros 27136)) f in
        rw (eq-eqb (length body) 4 h)
        (ap (λ (z : nursery.DrainedOut). effect (record { good = true; answer = z.result.answer; counters = c; nursery = z.result.nursery }) t es z.waiting cs) r)
