-- The tests at the end of a walk's looks: each refuses as the batch of words is refused, and behind the last one the records are applied.
-- Assumes nothing.
use Rattle.std.specs.Prelude.{◌≡◌, Bool, ◌||◌, ℕ, ◌+◌, ◌-◌, ◌*◌, ◌/◌, ◌≤◌, ◌<◌, ltb}
use Rattle.std.proofs.Math.Path.{refl, sym, ap}
use Rattle.std.proofs.Common.{◌∙◌}
use Rattle.std.proofs.Math.Bool.{true, false}
use mathlib.Core.List.{List, []}
use Rattle.std.proofs.Math.Nat.{zero-add}
use native.Mathlib.Omega.{arith}
use Rattle.std.proofs.Math.Decide.{dec_lt}
use borrow.Author.Tests.{le-ltb, lt-ltb, eqb-true, eqb-false}
use Rattle.std.proofs.Math.Dec.{eqb}
use Rattle.std.proofs.Math.ListN.{length, drop_of_length-le}
use Rattle.base.specs.Logic.{pick, any, keep, repeated, max64}
use Rattle.base.specs.declared.Refusal.{Refusal}
use Rattle.base.specs.declared.Refusal.TheVariants.{Unallocated, Repeated, FalseOld, OffTotal, TableFull, FewCells}
use Rattle.base.specs.Answers.{Taken, Refused}
use Rattle.counters.specs.declared.Counters.{Counters}
use Rattle.counters.specs.declared.CounterTransition.{CounterTransition}
use Rattle.counters.specs.Counts.{Entry}
use Rattle.counters.specs.Maintenance.{falls, rises, maintained}
use Rattle.counters.specs.Batch.{birth, death, kept, named, unallocated, false_old, births, deaths, off_total, counts_after, state_after}
use Rattle.counters.specs.Layout.{room_of, record_of, table_of, state_of, words_of}
use Rattle.counters.proofs.WordLaws.{words-whole, words-transitions}
use Rattle.counters.specs.Calls.{effect, batch_call}
use Rattle.counters.specs.Steps.{transitions}
use Rattle.counter_steps.specs.Steps.{pass_of}
use Rattle.counters.proofs.JudgeLaws as judge
use Rattle.counters.proofs.JudgeLaws.{judge-unallocated, judge-repeated, judge-false-old, judge-off-total, rows-after, judge-full, few-test, judge-few, judge-taken, total_of}
use Rattle.counters.proofs.RowLaws.{in_order}
use Rattle.counter_walk.specs.Held.{Phase, Free, End, Sums, Walk}
use Rattle.counter_walk.specs.SomeLaws.{Seen, seen_all}
use Rattle.counter_walk.specs.SumsWalkLaws.{sums_of}
use Rattle.counter_walk.specs.Walk as walk
use Rattle.counter_walk.specs.Walk.{moved, ended, accepted, finished}
use Rattle.counter_walk.specs.InvWalkLaws.{entries, all_sums, SummedTo, Passed, almost_after, goal, applying, over, goal-fits, left_in, Lands}

-- as many rows more on both sides
same-room : (r n f : ℕ) → ltb (r + f) (n + f) ≡ ltb r n
same-room r n f =
    elim (dec_lt r n) [
      | yes h ↦ lt-ltb (r + f) (n + f) (omega arith) ∙ sym (lt-ltb r n h)
      | no h ↦ le-ltb (r + f) (n + f) (omega arith) ∙ sym (le-ltb r n (omega arith))
    ]

-- a walk before its first record, in a phase
abbrev starts_in : Phase → Walk → Walk
starts_in p s = moved s p 0

-- ---- the tests, once every record is in the sums
module _ (c : Counters) (t₀ : List ℕ) (bs : List CounterTransition) where
  -- a batch that passed is over once its second pass is
  pub taken-over : (s : Walk) (t : List ℕ) (i : ℕ) → Passed c t₀ bs → s.answer ≡ Taken → s.counters ≡ almost_after c bs
      → Seen true bs (length t₀) (goal true c t₀ bs) i s.rows t → length bs ≤ i → effect (finished s) t ≡ batch_call c t₀ (words_of bs)
  unfolding record_of state_after state_of table_of
  taken-over s t i p a e seen h =
      let q = seen_all true bs (length t₀) (goal true c t₀ bs) (goal-fits true c t₀ bs p.judged) i s.rows t seen h in
      rw (a, e, q.0, q.1) p.gives

  -- the first pass, before its first record
  seen_start : Passed c t₀ bs → Seen false bs (length t₀) (goal false c t₀ bs) 0 c.stored t₀
  seen_start p = record { within = omega arith; long = refl; order = in_order c t₀ p.judged.holding; leads = refl }

  -- of an empty batch both are over
  seen_none : Passed c t₀ bs → length bs ≤ 0 → Seen true bs (length t₀) (goal true c t₀ bs) 0 c.stored t₀
  unfolding pass_of kept keep
  seen_none p h =
      let e : bs ≡ [] = drop_of_length-le bs h in
      record { within = omega arith; long = refl; order = in_order c t₀ p.judged.holding; leads = rw e (none (entries c t₀)) }
    where
      none : (es : List Entry) → counts_after (pass_of true []) es ≡ counts_after (kept []) es
      none es = refl

  module _ (s : Walk) (u : SummedTo c t₀ bs (length bs) s) (sums-are : s.sums ≡ all_sums c t₀ bs) (twice-is : s.repeated ≡ repeated (named (kept bs)))
      (k : ℕ) (far : 2 * length bs + 1 < k) where
    abbrev ws : List ℕ
    ws = words_of bs

    abbrev es : List Entry
    es = entries c t₀

    abbrev next : ℕ
    next = c.next_idx.0

    -- a refusal ends the walk
    refuses : (r : Refusal) → effect (record { answer = Refused r; counters = c }) t₀ ≡ batch_call c t₀ ws → Lands c t₀ bs k (ended s r) t₀
    unfolding left_in
    refuses r e = record { at_phase = over (record { phase = refl; at_end = u.len; long = refl; gives = rw (u.same, u.rows) e }); nearer = omega arith }

    -- the sums, one by one
    unallocated-is : s.sums.unallocated ≡ any (unallocated next) (kept bs)
    unfolding sums_of
    unallocated-is = ap (λ (a : Sums). a.unallocated) sums-are

    false-old-is : s.sums.false_old ≡ any (false_old es) (kept bs)
    unfolding sums_of
    false-old-is = ap (λ (a : Sums). a.false_old) sums-are

    births-are : s.sums.births ≡ length (keep birth (kept bs))
    unfolding sums_of
    births-are = ap (λ (a : Sums). a.births) sums-are ∙ zero-add (length (keep birth (kept bs)))

    deaths-are : s.sums.deaths ≡ length (keep death (kept bs))
    unfolding sums_of
    deaths-are = ap (λ (a : Sums). a.deaths) sums-are ∙ zero-add (length (keep death (kept bs)))

    rises-are : s.sums.rises ≡ length (keep rises (kept bs))
    unfolding sums_of
    rises-are = ap (λ (a : Sums). a.rises) sums-are ∙ zero-add (length (keep rises (kept bs)))

    falls-are : s.sums.falls ≡ length (keep falls (kept bs))
    unfolding sums_of
    falls-are = ap (λ (a : Sums). a.falls) sums-are ∙ zero-add (length (keep falls (kept bs)))

    maintenance-is : s.sums.maintenance ≡ maintained (kept bs) c.maintenance
    unfolding sums_of
    maintenance-is = ap (λ (a : Sums). a.maintenance) sums-are

    -- the words spell the same records
    same-batch : kept (transitions ws) ≡ kept bs
    same-batch = ap kept (words-transitions bs)

    births-all : s.sums.births ≡ length (keep birth (kept (transitions ws)))
    births-all = rw same-batch births-are

    deaths-all : s.sums.deaths ≡ length (keep death (kept (transitions ws)))
    deaths-all = rw same-batch deaths-are

    rises-all : s.sums.rises ≡ length (keep rises (kept (transitions ws)))
    rises-all = rw same-batch rises-are

    falls-all : s.sums.falls ≡ length (keep falls (kept (transitions ws)))
    falls-all = rw same-batch falls-are

    -- every test is passed
    after_is : (accepted s).counters ≡ almost_after c bs
    unfolding births deaths
    after_is = rw (u.same, births-are, deaths-are, maintenance-is)

    takes : Passed c t₀ bs → Lands c t₀ bs k (accepted s) t₀
    unfolding left_in
    takes p = go (eqb s.len 0) refl
      where
        go : (b : Bool) → eqb s.len 0 ≡ b → Lands c t₀ bs k (starts_in (pick b End Free) (accepted s)) t₀
        go true e =
            let none : length bs ≤ 0 = omega (arith, u.len, eqb-true s.len 0 e) in
            record {
              at_phase = over (record {
                phase = refl;
                at_end = omega arith;
                long = refl;
                gives = taken-over (starts_in End (accepted s)) t₀ 0 p refl after_is (rw u.rows (seen_none p none)) none;
              });
              nearer = omega arith;
            }
        go false e =
            record {
              at_phase = applying false (record {
                phase = refl;
                here = omega (arith, u.len, eqb-false s.len 0 e);
                len = u.len;
                passed = p;
                answer = refl;
                after = after_is;
                seen = rw u.rows (seen_start p);
              });
              nearer = omega arith;
            }

    -- the tests from the last to the first
    abbrev room : ℕ
    room = length t₀ / 2

    abbrev total : Bool
    total = ltb max64 (s.counters.live_cells + s.sums.births) || ltb (s.counters.live_cells + s.sums.births) s.sums.deaths

    abbrev full : Bool
    full = ltb (room + s.sums.falls) (s.counters.stored + s.sums.rises)

    abbrev few : Bool
    few = ltb (s.counters.live_cells + s.sums.births - s.sums.deaths) (s.counters.stored + s.sums.rises - s.sums.falls)

    abbrev from-25 : Walk
    from-25 = pick few (ended s FewCells) (accepted s)

    abbrev from-6 : Walk
    from-6 = pick full (ended s TableFull) from-25

    abbrev from-4 : Walk
    from-4 = pick total (ended s OffTotal) from-6

    abbrev from-5 : Walk
    from-5 = pick s.sums.false_old (ended s FalseOld) from-4

    abbrev from-3 : Walk
    from-3 = pick s.repeated (ended s Repeated) from-5

    module _ (e₂ : any (unallocated next) (kept (transitions ws)) ≡ false) (e₃ : repeated (named (kept (transitions ws))) ≡ false)
        (e₅ : any (false_old es) (kept (transitions ws)) ≡ false) where
      -- rows that come and go give the number of rows after the batch
      full_is : full ≡ ltb (room_of t₀) (length (counts_after (kept (transitions ws)) es))
      full_is =
          let e : c.stored + s.sums.rises ≡ length (counts_after (kept (transitions ws)) es) + s.sums.falls =
          omega (arith, rises-all, falls-all, rows-after c t₀ ws u.holding (words-whole bs) e₂ e₃ e₅) in
          rw (u.same, e) (same-room room (length (counts_after (kept (transitions ws)) es)) s.sums.falls)

      module _ (e₄ : off_total c.live_cells (kept (transitions ws)) ≡ false) where
        few-is : few ≡ ltb (c.live_cells + births (kept (transitions ws)) - deaths (kept (transitions ws))) (length (counts_after (kept (transitions ws)) es))
        few-is =
            rw u.same
            (few-test c t₀ ws u.holding (words-whole bs) e₂ e₃ e₅ e₄ s.sums.births s.sums.deaths s.sums.rises s.sums.falls births-all deaths-all rises-all falls-all)

        lands-25 : full ≡ false → (b : Bool) → few ≡ b → Lands c t₀ bs k (pick b (ended s FewCells) (accepted s)) t₀
        lands-25 e₆ true e = refuses FewCells (judge-few c t₀ ws u.holding (words-whole bs) e₂ e₃ e₅ e₄ (sym full_is ∙ e₆) (sym few-is ∙ e))
        lands-25 e₆ false e =
            takes
            (record {
              judged = judge.judged c t₀ ws u.holding (words-whole bs) e₂ e₃ e₅ e₄ (sym full_is ∙ e₆);
              gives = rw same-batch at (judge-taken c t₀ ws u.holding (words-whole bs) e₂ e₃ e₅ e₄ (sym full_is ∙ e₆) (sym few-is ∙ e));
            })

        lands-6 : (b : Bool) → full ≡ b → Lands c t₀ bs k (pick b (ended s TableFull) from-25) t₀
        lands-6 true e = refuses TableFull (judge-full c t₀ ws u.holding (words-whole bs) e₂ e₃ e₅ e₄ (sym full_is ∙ e))
        lands-6 false e = lands-25 e few refl

      total-is : total ≡ off_total c.live_cells (kept (transitions ws))
      total-is = rw u.same (total_of c.live_cells (kept (transitions ws)) s.sums.births s.sums.deaths births-all deaths-all)

      lands-4 : (b : Bool) → total ≡ b → Lands c t₀ bs k (pick b (ended s OffTotal) from-6) t₀
      lands-4 true e = refuses OffTotal (judge-off-total c t₀ ws u.holding (words-whole bs) e₂ e₃ e₅ (sym total-is ∙ e))
      lands-4 false e = lands-6 (sym total-is ∙ e) full refl

    module _ (e₂ : any (unallocated next) (kept (transitions ws)) ≡ false) where
      lands-5 : (e₃ : repeated (named (kept (transitions ws))) ≡ false) (b : Bool) → any (false_old es) (kept (transitions ws)) ≡ b → Lands c t₀ bs k (pick b (ended s FalseOld) from-4) t₀
      lands-5 e₃ true e = refuses FalseOld (judge-false-old c t₀ ws u.holding (words-whole bs) e₂ e₃ e)
      lands-5 e₃ false e = lands-4 e₂ e₃ e total refl

      lands-3 : (b : Bool) → repeated (named (kept (transitions ws))) ≡ b → Lands c t₀ bs k (pick b (ended s Repeated) from-5) t₀
      lands-3 true e = refuses Repeated (judge-repeated c t₀ ws u.holding (words-whole bs) e₂ e)
      lands-3 false e = lands-5 e s.sums.false_old (ap (λ (ts : List CounterTransition). any (false_old es) ts) same-batch ∙ sym false-old-is)

    lands-2 : (b : Bool) → any (unallocated next) (kept (transitions ws)) ≡ b → Lands c t₀ bs k (pick b (ended s Unallocated) from-3) t₀
    lands-2 true e = refuses Unallocated (judge-unallocated c t₀ ws u.holding (words-whole bs) e)
    lands-2 false e = lands-3 e s.repeated (ap (λ (ts : List CounterTransition). repeated (named ts)) same-batch ∙ sym twice-is)

    pub judge-lands : Lands c t₀ bs k (walk.judged room s) t₀
    unfolding walk.judged
    judge-lands = lands-2 s.sums.unallocated (ap (λ (ts : List CounterTransition). any (unallocated next) ts) same-batch ∙ sym unallocated-is)
