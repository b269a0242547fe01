-- A walk applies a record: what it keeps, from the first record of the first pass to the last one of the second.
-- Assumes nothing.
use Rattle.std.specs.Prelude.{◌≡◌, Bool, List, ℕ, ◌+◌, ◌≤◌, ◌<◌, length, get_or}
use Rattle.std.proofs.Math.Path.{refl, subst}
use Rattle.std.proofs.Common.{sym}
use Rattle.std.proofs.Math.Bool.{true, false}
use native.Mathlib.Omega.{arith}
use borrow.Author.Tests.{ltb-true, ltb-false}
use Rattle.std.proofs.Math.Dec.{ltb}
use Rattle.base.specs.Logic.{pick}
use Rattle.rows.specs.Table as rows
use Rattle.rows.specs.Table.{rows_of}
use Rattle.rows.proofs.TableLaws.{rows_of-table}
use Rattle.counters.specs.declared.Counters.{Counters}
use Rattle.counters.specs.declared.CounterTransition.{CounterTransition}
use Rattle.counters.specs.Counts.{Entry}
use Rattle.counters.specs.Layout.{count_row}
use Rattle.counters.proofs.CodingLaws.{count-lawful}
use Rattle.counters.proofs.WordLaws.{words-transitions}
use Rattle.counters.specs.Steps.{transition}
use Rattle.counter_steps.specs.Steps.{apply_one}
use Rattle.counter_steps.specs.PassLaws.{two-passes}
use Rattle.counter_walk.specs.Held.{Phase, Free, Store, End, Walk}
use Rattle.counter_walk.specs.SomeLaws.{Seen, seen_one, seen_all}
use Rattle.counter_walk.specs.Walk.{moved, applied, applied_table, with_rows}
use Rattle.counter_walk.specs.InvWalkLaws.{entries, goal, Applying, applying, over, goal-fits, left_in, Lands}
use Rattle.counter_walk.specs.JudgeWalkLaws.{taken-over}

-- ---- a record is applied
module _ (c : Counters) (t₀ : List ℕ) (bs : List CounterTransition) (s : Walk) (t : List ℕ) (h : s.at < length bs) where
  abbrev record-here : CounterTransition
  record-here = get_or bs s.at (transition 0 0 0)

  -- the counts after it, the walk with their number, and the table
  abbrev one : Bool → List Entry
  one many = apply_one many record-here (rows_of count_row s.rows t)

  abbrev counted-rows : Bool → Walk
  counted-rows many = with_rows s (length (one many))

  abbrev table-with : Bool → List ℕ
  table-with many = rows.table_of count_row (length t) (one many)

  one_seen : (many : Bool) → Applying many c t₀ bs s t → Seen many bs (length t₀) (goal many c t₀ bs) (s.at + 1) (length (one many)) (table-with many)
  one_seen many a =
      seen_one many bs (length t₀) (goal many c t₀ bs) (goal-fits many c t₀ bs a.passed.judged) s.at s.rows t a.seen h (length (one many)) (table-with many) refl refl

  -- one record nearer to the end of a pass
  one-nearer : (many : Bool) (n : ℕ) → left_in (pick many Store Free) (length bs) (moved (with_rows s n) (pick many Store Free) (s.at + 1)) < left_in (pick many Store Free) (length bs) s
  unfolding left_in
  one-nearer true n = omega arith
  one-nearer false n = omega arith

  -- the second pass begins where the first ends
  second-seen : Applying false c t₀ bs s t → length bs ≤ s.at + 1 → Seen true bs (length t₀) (goal true c t₀ bs) 0 (length (one false)) (table-with false)
  second-seen a last =
      let fits = goal-fits false c t₀ bs a.passed.judged in
      let seen = one_seen false a in
      let q = seen_all false bs (length t₀) (goal false c t₀ bs) fits (s.at + 1) (length (one false)) (table-with false) seen last in
      record {
        within = omega arith;
        long = seen.long;
        order = seen.order;
        leads = rw (q.0, q.1, rows_of-table count-lawful (length t₀) (goal false c t₀ bs)) (two-passes bs (entries c t₀) (rw (words-transitions bs) at a.passed.judged.once));
      }

  -- the last record of a pass
  last-lands : (many : Bool) → Applying many c t₀ bs s t → length bs ≤ s.at + 1
      → Lands c t₀ bs (left_in (pick many Store Free) (length bs) s) (pick many (moved (counted-rows many) End (s.at + 1)) (moved (counted-rows many) Store 0)) (table-with many)
  unfolding left_in
  last-lands true a last =
      record {
        at_phase = over (record {
          phase = refl;
          at_end = omega arith;
          long = (one_seen true a).long;
          gives = taken-over c t₀ bs (moved (counted-rows true) End (s.at + 1)) (table-with true) (s.at + 1) a.passed a.answer a.after (one_seen true a) last;
        });
        nearer = omega arith;
      }
  last-lands false a last =
      record {
        at_phase = applying true (record {
          phase = refl;
          here = omega arith;
          len = a.len;
          passed = a.passed;
          answer = a.answer;
          after = a.after;
          seen = second-seen a last;
        });
        nearer = omega arith;
      }

  pub apply-lands : (many : Bool) → Applying many c t₀ bs s t → Lands c t₀ bs (left_in (pick many Store Free) (length bs) s) (applied many t record-here s) (applied_table many t record-here s)
  unfolding applied applied_table
  apply-lands many a = go (ltb (s.at + 1) s.len) refl
    where
      go : (b : Bool) → ltb (s.at + 1) s.len ≡ b
          → Lands c t₀ bs (left_in (pick many Store Free) (length bs) s)
          (pick b (moved (counted-rows many) s.phase (s.at + 1)) (pick many (moved (counted-rows many) End (s.at + 1)) (moved (counted-rows many) Store 0))) (table-with many)
      go true e =
          record {
            at_phase = applying many (record {
              phase = a.phase;
              here = omega (arith, a.len, ltb-true (s.at + 1) s.len e);
              len = a.len;
              passed = a.passed;
              answer = a.answer;
              after = a.after;
              seen = one_seen many a;
            });
            nearer = subst (λ (p : Phase). left_in p (length bs) (moved (counted-rows many) p (s.at + 1)) < left_in (pick many Store Free) (length bs) s) (sym a.phase) (one-nearer many (length (one many)));
          }
      go false e = last-lands many a (omega (arith, a.len, ltb-false (s.at + 1) s.len e))
