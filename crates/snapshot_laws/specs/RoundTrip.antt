-- Reading a snapshot gives back the counters that it was written from, so its bytes determine them.
-- Assumes nothing.
use Rattle.std.specs.Prelude.{◌≡◌, ◌↔◌, Bool, ◌&&◌, List, [], ◌∷◌, ◌++◌, map, length, eqb}
use Rattle.std.proofs.Math.Path.{refl}
use Rattle.std.proofs.Common.{sym, ap, ◌∙◌, append_assoc}
use Rattle.std.proofs.Math.Bool.{true, false}
use Prim.Native.Nat.{ℕ, suc, ◌+◌, ◌/◌, ◌%◌, ◌^◌, ◌≤◌, ◌<◌, max}
use native.Mathlib.Omega.{arith}
use Rattle.std.proofs.Math.Decide.{dec_le}
use Rattle.std.proofs.Math.Dec.{leb, ltb}
use borrow.Author.Tests.{lt-leb, le-ltb, lt-ltb, leb-true, leb-false, ltb-true, eqb-true, eq-eqb}
use Rattle.base.specs.Logic.{pick, all, any, fold, flat, from, ascending_from}
use Rattle.base.specs.Laws.{and_left, and_right, read_le-append, ascending-tail}
use Rattle.base.specs.ListLaws.{all_weaker, all_keep, all-kept}
use Rattle.base.specs.Bytes.{le64}
use Rattle.base.specs.Answers.{taken}
use Rattle.base.specs.OutcomeLaws.{taken-same}
use Rattle.counters.specs.declared.CounterMaintenance.{CounterMaintenance}
use Rattle.counters.specs.Counts.{Entry, State, stored_at, count_at, small_code, large, fresh_maintenance}
use Rattle.counters.specs.Layout.{sound, ordered}
use Rattle.counters.proofs.CountLaws.{stored-two, same-counts}
use Rattle.counters.proofs.BoundLaws.{bound-taken}
use Rattle.snapshot.specs.Write.{set_bytes, large_bytes, snapshot_bytes}
use Rattle.snapshot.specs.Read.{joined, parse_snapshot, read_snapshot}
use Rattle.snapshot_laws.specs.SetLaws.{index, set_row, ascends, sounds, all-below, all_two, ordered-keep, stored-before, stored-keep, stored-rows, ordered-rows, rows-again}
use Rattle.snapshot_laws.specs.SmallLaws.{code-small, code-low, code-large, lay_sets, small, ordered-small, count_small}
use Rattle.snapshot_laws.specs.ByteLaws.{read-sets, is_large, length-large, read-large}

-- the numbers are u64, and the counts in order
pub record Spelled (s : State) : Type 0 where
  pub next_fits : s.next < 2 ^ 64
  pub live_fits : s.live < 2 ^ 64
  pub sorted : ordered s.next s.counts ≡ true
  pub counts_fit : all (λ e. ltb e.count (2 ^ 64)) s.counts ≡ true

-- and there are no more counts than cells
pub record WellFormed (s : State) : Type 0 where
  pub spelled : Spelled s
  pub bounded : length s.counts ≤ s.live

-- whatever its maintenance
pub well-maintained : (s : State) (m : CounterMaintenance) → WellFormed s → WellFormed (record { next = s.next; live = s.live; counts = s.counts; maintenance = m })
well-maintained s m w =
    let p = w.spelled in
    record {
      spelled = record { next_fits = p.next_fits; live_fits = p.live_fits; sorted = p.sorted; counts_fit = p.counts_fit };
      bounded = w.bounded;
    }

-- the state with the maintenance of a new box
abbrev pub renewed : ℕ → State → State
renewed base s = record { next = s.next; live = s.live; counts = s.counts; maintenance = fresh_maintenance base }

-- ---- tests that no item passes
any-never : {A : Type 0} (p q : A → Bool) → ((x : A) → q x ≡ true → p x ≡ false) → (xs : List A) → all q xs ≡ true → any p xs ≡ false
unfolding any all
any-never p q h [] a = refl
any-never p q h (x ∷ xs) a = rw (h x (and_left (q x) (all q xs) a)) (any-never p q h xs (and_right (q x) (all q xs) a))

all-and : {A : Type 0} (p q : A → Bool) (xs : List A) → all p xs ≡ true → all q xs ≡ true → all (λ x. p x && q x) xs ≡ true
unfolding all
all-and p q [] a b = refl
all-and p q (x ∷ xs) a b =
    rw (and_left (p x) (all p xs) a, and_left (q x) (all q xs) b) (all-and p q xs (and_right (p x) (all p xs) a) (and_right (q x) (all q xs) b))

-- rows at whose indices other rows store nothing
no-clash : (next lo : ℕ) (zs xs : List Entry) → ascending_from lo (map index xs) ≡ true → all (sound next) xs ≡ true
    → ((j : ℕ) → 0 < stored_at j xs → stored_at j zs ≡ 0) → any (λ e. ltb 0 (stored_at e.idx zs)) xs ≡ false
unfolding any all stored_at
no-clash next lo zs [] a s h = refl
no-clash next lo zs (x ∷ xs) a s h =
    rw (h x.idx here) (no-clash next (suc x.idx) zs xs tail (and_right (sound next x) (all (sound next) xs) s) (λ j g. h j (later j g)))
  where
    tail : ascending_from (suc x.idx) (map index xs) ≡ true
    tail = ascending-tail lo x.idx (map index xs) a

    here : 0 < pick (eqb x.idx x.idx) x.count (stored_at x.idx xs)
    here =
        rw (eq-eqb x.idx x.idx refl)
        (omega (arith, leb-true 2 x.count (and_right (ltb x.idx next) (leb 2 x.count) (and_left (sound next x) (all (sound next) xs) s))))

    later : (j : ℕ) → 0 < stored_at j xs → 0 < pick (eqb x.idx j) x.count (stored_at j xs)
    later j g = go (eqb x.idx j) refl
      where
        go : (b : Bool) → eqb x.idx j ≡ b → 0 < pick b x.count (stored_at j xs)
        go true q = absurd (omega (arith, eqb-true x.idx j q, stored-before (suc x.idx) xs j tail (omega (arith, eqb-true x.idx j q))))
        go false q = g

-- ---- the two tiers
module _ (next : ℕ) (es : List Entry) (o : ordered next es ≡ true) where
  pub ordered-large : ordered next (large es) ≡ true
  unfolding large
  ordered-large = ordered-keep next es o (λ e. leb 257 e.count)

  stored-large : (j : ℕ) → stored_at j (large es) ≡ pick (leb 257 (stored_at j es)) (stored_at j es) 0
  unfolding large
  stored-large j = stored-keep (leb 257) j 0 es (ascends next es o)

  -- the large tier laid over the small one gives the counts back
  count-both : (j : ℕ) → count_at j (fold set_row (large es) (small es)) ≡ count_at j es
  unfolding count_at
  count-both j =
      rw (stored-rows 0 j (large es) (small es) (ascends next (large es) ordered-large) (all_two next (large es) ordered-large), stored-large j)
      (go (stored_at j es) (leb 257 (stored_at j es)) refl (count_small next es o j))
    where
      go : (n : ℕ) (b : Bool) → leb 257 n ≡ b → max (stored_at j (small es)) 1 ≡ 1 + small_code n
          → max (pick (ltb 0 (pick b n 0)) (pick b n 0) (stored_at j (small es))) 1 ≡ max n 1
      go n true q c = rw (lt-ltb 0 n (omega (arith, leb-true 257 n q)))
      go n false q c =
          elim (dec_le 2 n) [
            | yes h ↦ omega (arith, code-small n h (omega (arith, leb-false 257 n q)))
            | no h ↦ omega (arith, code-low n (omega arith))
          ]

  pub tiers-joined : fold set_row (large es) (small es) ≡ es
  tiers-joined =
      same-counts next (fold set_row (large es) (small es)) es
      (ordered-rows next (large es) (small es) (all-below next (large es) ordered-large) (ordered-small next es o)) o (λ j h. count-both j)

  -- no index is in both
  pub tiers-apart : any (λ e. ltb 0 (stored_at e.idx (small es))) (large es) ≡ false
  unfolding count_at
  tiers-apart =
      no-clash next 0 (small es) (large es) (ascends next (large es) ordered-large) (sounds next (large es) ordered-large)
      (λ j g. go j (leb 257 (stored_at j es)) refl (rw (stored-large j) at g) (count_small next es o j))
    where
      go : (j : ℕ) (b : Bool) → leb 257 (stored_at j es) ≡ b → 0 < pick b (stored_at j es) 0 → max (stored_at j (small es)) 1 ≡ 1 + small_code (stored_at j es) → stored_at j (small es) ≡ 0
      go j true q g c =
          elim (dec_le (stored_at j (small es)) 0) [
            | yes h ↦ omega arith
            | no h ↦ absurd
                (omega (arith, code-large (stored_at j es) (leb-true 257 (stored_at j es) q), stored-two next (small es) (ordered-small next es o) j (omega arith)))
          ]
      go j false q g c = absurd (omega arith)

  pub joined-tiers : (base room live : ℕ) → length es ≤ room
      → joined base room next live (small es) (large es) ≡ taken (record { next = next; live = live; counts = es; maintenance = fresh_maintenance base })
  unfolding joined
  joined-tiers base room live r =
      rw (
        tiers-joined,
        tiers-apart,
        any-never (λ e. leb next e.idx) (λ e. ltb e.idx next) (λ e h. lt-leb next e.idx (ltb-true e.idx next h)) es (all-below next es o),
        le-ltb room (length es) r,
      )

  -- every row of the large tier takes its 16 bytes
  large-fits : next < 2 ^ 64 → all (λ e. ltb e.count (2 ^ 64)) es ≡ true → all is_large (large es) ≡ true
  unfolding large
  large-fits h c =
      all-and (λ e. ltb e.idx (2 ^ 64)) (λ e. leb 257 e.count && ltb e.count (2 ^ 64)) (large es)
      (all_weaker (λ e. ltb e.idx (2 ^ 64)) (λ e. ltb e.idx next) (λ e l. lt-ltb e.idx (2 ^ 64) (omega (arith, ltb-true e.idx next l))) (large es)
      (all-below next (large es) ordered-large))
      (all-and (λ e. leb 257 e.count) (λ e. ltb e.count (2 ^ 64)) (large es) (all-kept (λ e. leb 257 e.count) es)
      (all_keep (λ e. ltb e.count (2 ^ 64)) (λ e. leb 257 e.count) es c))

-- ---- the snapshot
small-read : (base room : ℕ) (s : State) → Spelled s → length s.counts ≤ room
    → joined base room s.next s.live (lay_sets s.counts 8 0 []) (large s.counts) ≡ taken (renewed base s)
unfolding small
small-read base room s w r = joined-tiers s.next s.counts w.sorted base room s.live r

-- a snapshot says the state that it was written from, whatever the live total, with the maintenance of a new box
pub parse-snapshot : (base room : ℕ) (s : State) → Spelled s → length s.counts ≤ room → parse_snapshot base room (snapshot_bytes s) ≡ taken (renewed base s)
unfolding parse_snapshot snapshot_bytes
parse-snapshot base room s w r =
    let es : List Entry = s.counts in
    let sets : List ℕ = flat (set_bytes es) (from 0 8) in
    let rest : List ℕ = flat large_bytes (large es) in
    let i : s.next < 256 ^ 8 = w.next_fits in
    let l : s.live < 256 ^ 8 = w.live_fits in
    let whole : length rest % 16 ≡ 0 = omega (arith, length-large (large es)) in
    let many : length rest / 16 ≡ length (large es) = omega (arith, length-large (large es)) in
    rw (
      append_assoc (le64 s.next ++ le64 s.live) sets rest,
      append_assoc (le64 s.next) (le64 s.live) (sets ++ rest),
      read_le-append 8 s.next (le64 s.live ++ (sets ++ rest)) i,
      read_le-append 8 s.live (sets ++ rest) l,
      read-sets s.next es w.sorted w.next_fits 8 0 [] rest,
      whole,
      many,
      read-large (large es) [] (large-fits s.next es w.sorted w.next_fits w.counts_fit),
      rows-again s.next (large es) (ordered-large s.next es w.sorted),
    ) (small-read base room s w r)

-- so reading what was written gives it back
pub read-snapshot : (base room : ℕ) (s : State) → WellFormed s → length s.counts ≤ room → read_snapshot base room (snapshot_bytes s) ≡ taken (renewed base s)
unfolding read_snapshot
read-snapshot base room s w r =
    (bound-taken (parse_snapshot base room (snapshot_bytes s)) (renewed base s)).1 (parse-snapshot base room s w.spelled r, w.bounded)

-- the bytes are those of the next index, the live total and the counts alone
pub snapshot-same : (s t : State) → s.next ≡ t.next → s.live ≡ t.live → s.counts ≡ t.counts → snapshot_bytes s ≡ snapshot_bytes t
unfolding snapshot_bytes
snapshot-same s t n l c = rw (n, l, c)

module _ (s t : State) (v : WellFormed s) (w : WellFormed t) where
  read-both : snapshot_bytes s ≡ snapshot_bytes t → renewed 0 s ≡ renewed 0 t
  read-both e =
      let room : ℕ = length s.counts + length t.counts in
      let p : taken (renewed 0 t) ≡ taken (renewed 0 s) =
      sym (read-snapshot 0 room t w (omega arith)) ∙ ap (read_snapshot 0 room) (sym e) ∙ read-snapshot 0 room s v (omega arith) in
      (taken-same (renewed 0 t) (renewed 0 s)).0 p

  -- and they determine these
  pub snapshot-determines : (snapshot_bytes s ≡ snapshot_bytes t) ↔ ((s.next ≡ t.next) × (s.live ≡ t.live) × (s.counts ≡ t.counts))
  snapshot-determines = (
    (λ e. let r = read-both e in (ap (λ (u : State). u.next) r, ap (λ (u : State). u.live) r, ap (λ (u : State). u.counts) r)),
    λ p. snapshot-same s t p.0 p.1 p.2,
  )

  -- that is, the next index, the live total and the count at each allocated index
  pub snapshot-counts : (snapshot_bytes s ≡ snapshot_bytes t)
      ↔ ((s.next ≡ t.next) × (s.live ≡ t.live) × ((i : ℕ) → i < s.next → count_at i s.counts ≡ count_at i t.counts))
  snapshot-counts = (
    (λ e. let d = snapshot-determines.0 e in (d.0, d.1, λ i h. ap (count_at i) d.2)),
    λ p. snapshot-determines.1 (p.0, p.1, same-counts s.next s.counts t.counts v.spelled.sorted (rw p.0 w.spelled.sorted) p.2),
  )
