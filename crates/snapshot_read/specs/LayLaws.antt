-- Counts laid into a table one behind the other, and the ways of both calls.
-- Assumes nothing.
use Rattle.std.specs.Prelude.{◌≡◌, refl, Bool, true, List, [], ◌∷◌, ◌++◌, ℕ, zero, suc, ◌+◌, ◌-◌, ◌*◌, ◌/◌, ◌≤◌, ◌<◌, max, length, take, drop, get_or, set, leb, Option, Ok, Err}
use Rattle.std.specs.Option.{is_some}
use Rattle.std.proofs.Common.{sym, ap, subst, ◌∙◌, append-nil, arith, add-one, length-drop, take-suc, drop-cons, length-take-le}
use Rattle.std.proofs.Math.Bool.{false}
use Rattle.std.proofs.lemmas.List.{length-replicate}
use Rattle.std.proofs.Math.Seq.{paste, drop-length, take-length}
use borrow.Author.Tests.{leb-false, le-ltb, lt-ltb}
use Rattle.base.specs.Logic.{any, flat, zeros, overlay}
use Rattle.base.specs.ListLaws.{or-false}
use Rattle.base.specs.declared.Refusal.{Refusal}
use Rattle.base.specs.declared.Refusal.TheVariants.{FewCells, BadSetting}
use Rattle.base.specs.Answers.{Taken, Refused}
use Rattle.slices.specs.Laws.{paste-start, paste-right, paste-two}
use Rattle.rows.specs.Table.{table_of}
use Rattle.rows.proofs.TableLaws.{rows_of-table, length-table, laid_table, inserted}
use Rattle.counters.specs.declared.ShrinkSettings.{ShrinkSettings}
use Rattle.counters.specs.declared.Counters.{Counters}
use Rattle.counters.specs.Counts.{Entry, fresh_maintenance, fresh}
use Rattle.counters.specs.Layout as layout
use Rattle.counters.specs.Layout.{count_row, room_of, record_of}
use Rattle.counters.proofs.CodingLaws.{count-lawful}
use Rattle.counters.specs.Batch.{bound}
use Rattle.counters.specs.Calls.{Changed, laid, laid_out, effect, record_effect, no_counters, laid_in}
use Rattle.counters.proofs.CallLaws.{with-ranged, with-bad}
use Rattle.counters.specs.Maintenance.{in_range}
use Rattle.snapshot.specs.Read.{parse_snapshot, read_snapshot, raised}
use Rattle.snapshot.specs.Calls.{deserialize_call, load_effect, load_call}
use Rattle.snapshot_tiers.specs.declared.Head.{Head}
use Rattle.snapshot_judge.specs.declared.decide.Plan.{Plan}
use Rattle.snapshot_tiers.specs.TierLaws.{from_idx}
use Rattle.snapshot_tiers.specs.Heads.{entry, idx_of, count_of, tier_of, set_all}
use Rattle.snapshot_tiers.specs.JoinLaws.{Front, rest_of}
use Rattle.snapshot_judge.specs.Judge.{far}
use Rattle.snapshot_judge.specs.Decide.{counts_of, Planned}
use Rattle.snapshot_judge.specs.DecideLaws.{Decided, decided-as}
use Rattle.snapshot_read.specs.Fresh.{fresh_record, planned_state, plan_under}

-- ---- a row behind the others
module _ (len : ℕ) (es : List Entry) (i n : ℕ) (room : length es * 2 + 2 ≤ len) where
  put-row : set (set (table_of count_row len es) (length es * 2) i) (length es * 2 + 1) n ≡ table_of count_row len (es ++ (entry i n ∷ []))
  put-row =
      let t = table_of count_row len es in
      let k = length es in
      let l : length t ≡ len = length-table count-lawful len es (omega arith) in
      let z : k * 2 - k * 2 ≡ 0 = omega arith in
      let g = inserted count-lawful k t (laid_table count-lawful len es (omega arith)) k (entry i n) (omega arith) (omega arith) in
      paste-two t (k * 2) i n (omega arith)
      ∙ paste-right t (k * 2) (i ∷ n ∷ []) 2
      ∙ (rw (z, rows_of-table count-lawful len es, take-length es, drop-length es, append-nil (entry i n ∷ []), l) at g)

-- ---- a step of laying
module _ (len k : ℕ) (both rest : List Entry) (x n : ℕ) (here : drop k both ≡ entry x n ∷ rest) where
  more_left : k < length both
  more_left = let e = ap length here in omega (arith, length-drop k both)

  first-left : get_or both k (entry x n) ≡ entry x n
  first-left = let e : get_or both k (entry x n) ∷ drop (suc k) both ≡ entry x n ∷ rest = sym (drop-cons both k (entry x n) more_left) ∙ here in cc

  pub rest-left : drop (k + 1) both ≡ rest
  rest-left =
      let e : get_or both k (entry x n) ∷ drop (suc k) both ≡ entry x n ∷ rest = sym (drop-cons both k (entry x n) more_left) ∙ here in
      let f : drop (suc k) both ≡ rest = cc in
      rw (add-one k) f

  pub lay-turn : (t : List ℕ) → length both * 2 ≤ len → t ≡ table_of count_row len (take k both)
      → set (set t (k * 2) x) (k * 2 + 1) n ≡ table_of count_row len (take (k + 1) both)
  lay-turn t room e =
      let l : length (take k both) ≡ k = length-take-le k both (omega (arith, more_left)) in
      let p : length (take k both) * 2 + 2 ≤ len = omega (arith, more_left) in
      rw (e, add-one k, take-suc both k (entry x n) more_left, first-left) (rw l at (put-row len (take k both) x n p))

pub lay-start : (len : ℕ) (t : List ℕ) (both : List Entry) → t ≡ zeros (length t) → t ≡ table_of count_row (length t) (take 0 both)
unfolding table_of flat
lay-start len t both e = let z : length t - 0 * 2 ≡ length t = omega arith in rw z e

pub lay-end : (len k : ℕ) (both : List Entry) → k ≡ length both → table_of count_row len (take k both) ≡ table_of count_row len both
lay-end len k both e = rw (e, take-length both)

-- where counts are left, the first is found, and its index is below the next one
any-drop : (next k : ℕ) (es : List Entry) → any (far next) es ≡ false → any (far next) (drop k es) ≡ false
unfolding any
any-drop next zero es a = a
any-drop next (suc k) [] a = refl
any-drop next (suc k) (e ∷ es) a = any-drop next k es (or-false (far next e) (any (far next) es) a).1

module _ (lo : ℕ) (xss : List (List ℕ)) (big both : List Entry) (a b f : Option Head) (p : Front lo xss big a b f) (k : ℕ) (left : k < length both)
    (here : drop k both ≡ set_all (from_idx lo big) (tier_of xss)) where
  pub found_left : is_some f ≡ true
  found_left = go (is_some f) refl
    where
      go : (q : Bool) → is_some f ≡ q → q ≡ true
      go true e = refl
      go false e = let z = ap length (here ∙ p.ended e) in absurd (omega (arith, length-drop k both))

  pub row-left : drop k both ≡ entry (idx_of f) (count_of f) ∷ set_all (from_idx (idx_of f + 1) big) (tier_of (rest_of (idx_of f) xss))
  row-left = here ∙ rw (add-one (idx_of f)) (p.rows found_left)

  pub row_below : (next : ℕ) → any (far next) both ≡ false → idx_of f < next
  unfolding any
  row_below next g =
      let q : any (far next) (entry (idx_of f) (count_of f) ∷ set_all (from_idx (idx_of f + 1) big) (tier_of (rest_of (idx_of f) xss))) ≡ false = rw row-left at (any-drop next k both g) in
      leb-false next (idx_of f) (or-false (leb next (idx_of f)) (any (far next) (set_all (from_idx (idx_of f + 1) big) (tier_of (rest_of (idx_of f) xss)))) q).0

-- ---- a table of any content
pub zeros-filled : (t : List ℕ) → paste t 0 (zeros (length t)) (length t) ≡ zeros (length t)
unfolding overlay
zeros-filled t =
    paste-start t (zeros (length t)) (length t) (length-replicate {A = ℕ} (length t) 0)
    ∙ rw (length-replicate {A = ℕ} (length t) 0, drop-length t, append-nil (zeros (length t)))

-- a table that is filled with zeros, and then laid
module _ (s t u : List ℕ) (p : Plan) (e : u ≡ paste t 0 (zeros (length t)) (length t)) where
  filled : u ≡ zeros (length t)
  filled = e ∙ zeros-filled t

  length-filled : length u ≡ length t
  length-filled = ap length filled ∙ length-replicate {A = ℕ} (length t) 0

  pub lay-filled : Planned s (length t / 2) p → (u ≡ zeros (length u)) × Planned s (length u / 2) p
  lay-filled q = (filled ∙ ap zeros (sym length-filled), rw length-filled q)

  pub lay-laid : (g : ShrinkSettings) (live : ℕ) {w : List ℕ} {c : Counters} → Planned s (length t / 2) p → w ≡ table_of count_row (length u) (counts_of s p.end p.large)
      → c ≡ fresh_record g p.next live p.rows → record_effect c w ≡ laid g (length t) (planned_state g.base s p live)
  unfolding laid record_of layout.table_of fresh_maintenance
  lay-laid g live q f h = rw (f, length-filled, h, q.rows)

-- ---- the ways of both calls
pub no-counters : (g : ShrinkSettings) → g ≡ record { base = 0; max = 0; good_save = 0 } → fresh_record g 0 0 0 ≡ no_counters
unfolding no_counters record_of fresh fresh_maintenance
no-counters g e = rw e

module _ (g : ShrinkSettings) (s t : List ℕ) (bad : in_range g ≡ false) where
  pub call-bad : effect (record { answer = Refused BadSetting; counters = no_counters }) t ≡ deserialize_call g s t
  unfolding deserialize_call laid_in laid_out
  call-bad = rw (with-bad g (read_snapshot g.base (room_of t) s) bad)

  pub load-bad : load_effect (record { answer = Refused BadSetting; counters = no_counters; old_total = 0 }) t ≡ load_call g s t
  unfolding load_call laid_in laid_out
  load-bad = rw (with-bad g (parse_snapshot g.base (room_of t) s) bad)

module _ (g : ShrinkSettings) (s t : List ℕ) (ranged : in_range g ≡ true) where
  module _ (q : Refusal) (d : Decided s (length t / 2) (Err q)) where
    pub call-refused : effect (record { answer = Refused q; counters = no_counters }) t ≡ deserialize_call g s t
    unfolding deserialize_call read_snapshot laid_in laid_out
    call-refused = rw (with-ranged g (read_snapshot g.base (room_of t) s) ranged, ← d.outcome g.base)

    pub load-refused : load_effect (record { answer = Refused q; counters = no_counters; old_total = 0 }) t ≡ load_call g s t
    unfolding load_call laid_in laid_out
    load-refused = rw (with-ranged g (parse_snapshot g.base (room_of t) s) ranged, ← d.outcome g.base)

  module _ (p : Plan) (d : Decided s (length t / 2) (Ok p)) where
    pub call-few : p.live < p.rows → effect (record { answer = Refused FewCells; counters = no_counters }) t ≡ deserialize_call g s t
    unfolding deserialize_call read_snapshot bound laid_in laid_out
    call-few h =
        rw (with-ranged g (read_snapshot g.base (room_of t) s) ranged, ← d.outcome g.base, ← d.plan.rows, lt-ltb p.live p.rows h)

    pub call-laid : {w : List ℕ} {c : Counters} → p.rows ≤ p.live → record_effect c w ≡ laid g (length t) (planned_state g.base s p p.live)
        → record_effect c w ≡ deserialize_call g s t
    unfolding deserialize_call read_snapshot bound laid_in laid_out
    call-laid h e =
        rw (with-ranged g (read_snapshot g.base (room_of t) s) ranged, ← d.outcome g.base, ← d.plan.rows, le-ltb p.live p.rows h) e

    pub load-laid : {live : ℕ} {w : List ℕ} {c : Counters} → live ≡ max p.live p.rows → record_effect c w ≡ laid g (length t) (planned_state g.base s p live)
        → load_effect (record { answer = Taken; counters = c; old_total = p.live }) w ≡ load_call g s t
    unfolding load_call raised laid_in laid_out
    load-laid h e =
        rw (with-ranged g (parse_snapshot g.base (room_of t) s) ranged, ← d.outcome g.base, ← d.plan.rows, ← h)
        (ap (λ (x : Changed). load_effect (record { answer = x.result.answer; counters = x.result.counters; old_total = p.live }) x.table) e)

-- ---- what is planned under some settings
module _ (g : ShrinkSettings) (s t : List ℕ) where
  module _ (q : Refusal) (e : plan_under g (length t / 2) s ≡ Err q) where
    refused-as : (b : Bool) → in_range g ≡ b → (A : Refusal → Type 0) → (in_range g ≡ false → A BadSetting)
        → (in_range g ≡ true → Decided s (length t / 2) (Err q) → A q) → A q
    refused-as true r A f h = h r (decided-as (length t / 2) s refl (rw r at e))
    refused-as false r A f h = let x : BadSetting ≡ q = (let y = rw r at e in cc) in subst A x (f r)

    pub plan_under-refused : effect (record { answer = Refused q; counters = no_counters }) t ≡ deserialize_call g s t
    plan_under-refused =
        refused-as (in_range g) refl (λ x. effect (record { answer = Refused x; counters = no_counters }) t ≡ deserialize_call g s t) (call-bad g s t) (λ r d. call-refused g s t r q d)

    pub load-plan_under-refused : load_effect (record { answer = Refused q; counters = no_counters; old_total = 0 }) t ≡ load_call g s t
    load-plan_under-refused =
        refused-as (in_range g) refl (λ x. load_effect (record { answer = Refused x; counters = no_counters; old_total = 0 }) t ≡ load_call g s t) (load-bad g s t) (λ r d. load-refused g s t r q d)

  module _ (p : Plan) (e : plan_under g (length t / 2) s ≡ Ok p) where
    pub plan_under-fits : (in_range g ≡ true) × Decided s (length t / 2) (Ok p)
    plan_under-fits = go (in_range g) refl
      where
        go : (b : Bool) → in_range g ≡ b → (in_range g ≡ true) × Decided s (length t / 2) (Ok p)
        go true r = (r, decided-as (length t / 2) s refl (rw r at e))
        go false r = let y = rw r at e in absurd cc
