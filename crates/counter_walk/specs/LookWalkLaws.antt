-- A walk looks at a record, and asks the later ones for its index: what it keeps.
-- Assumes nothing.
use Rattle.std.specs.Prelude.{◌≡◌, Bool, ◌&&◌, ◌||◌, ℕ, ◌+◌, ◌-◌, ◌*◌, ◌/◌, ◌≤◌, ◌<◌, eqb, get_or}
use Rattle.std.proofs.Math.Path.{refl, sym}
use Rattle.std.proofs.Common.{◌∙◌, arith, add-one, drop-cons, drop_of_length-le}
use Rattle.std.proofs.Math.Bool.{true, false}
use mathlib.Core.List.{List, [], ◌∷◌}
use borrow.Author.Tests.{ltb-true, ltb-false}
use Rattle.std.proofs.Math.Dec.{ltb}
use Rattle.std.proofs.Math.ListN.{length, drop}
use Rattle.base.specs.Logic.{pick, elem, repeated}
use Rattle.rows.specs.Table.{rows_of}
use Rattle.counters.specs.declared.Counters.{Counters}
use Rattle.counters.specs.declared.CounterTransition.{CounterTransition}
use Rattle.counters.specs.Batch.{changes, kept, named}
use Rattle.counters.specs.Layout.{count_row}
use Rattle.counters.specs.Steps.{transition}
use Rattle.counters.proofs.StepLaws.{once-none}
use Rattle.counter_walk.specs.Held.{Look, Again, Walk}
use Rattle.counter_walk.specs.SumsWalkLaws.{or_assoc, or-none, elem-cons, twice-cons, sums-cons, settled-with, tallies-with, sums_none, elem-none}
use Rattle.counter_walk.specs.Walk as walk
use Rattle.counter_walk.specs.Walk.{sums_with, moved, on_to, looked, asked_again}
use Rattle.counter_walk.specs.InvWalkLaws.{entries, all_sums, SummedTo, Looking, Asking, looking, asking, pairs, left_in, Lands, pairs_next}
use Rattle.counter_walk.specs.JudgeWalkLaws.{judge-lands}

-- ---- from record to record, while nothing is written
module _ (c : Counters) (t₀ : List ℕ) (bs : List CounterTransition) where
  abbrev twice : List CounterTransition → Bool
  twice ts = repeated (named (kept ts))

  here_on : (i : ℕ) → i < length bs → drop i bs ≡ get_or bs i (transition 0 0 0) ∷ drop (i + 1) bs
  here_on i h = rw (add-one i) (drop-cons bs i (transition 0 0 0) h)

  none_left : (i : ℕ) → length bs ≤ i → drop i bs ≡ []
  none_left i h = drop_of_length-le bs h

  -- on to record i, or to the tests
  pub on-lands : (s : Walk) (i : ℕ) (k : ℕ) → SummedTo c t₀ bs i s → (s.repeated || twice (drop i bs)) ≡ twice bs
      → 2 * length bs + 2 + pairs (length bs - i) < k → Lands c t₀ bs k (on_to (length t₀ / 2) s i) t₀
  unfolding on_to left_in
  on-lands s i k u tw far = go (ltb i s.len) refl
    where
      go : (b : Bool) → ltb i s.len ≡ b → Lands c t₀ bs k (pick b (moved s Look i) (walk.judged (length t₀ / 2) s)) t₀
      go true e =
          record {
            at_phase = looking (record { phase = refl; here = omega (arith, u.len, ltb-true i s.len e); table = refl; summed = u; twice = tw });
            nearer = far;
          }
      go false e =
          let q : i ≡ length bs = omega (arith, u.len, u.within, ltb-false i s.len e) in
          let d : drop i bs ≡ [] = none_left i (omega (arith, u.len, ltb-false i s.len e)) in
          let all : s.sums ≡ all_sums c t₀ bs = sym (sums_none c.next_idx.0 (entries c t₀) s.sums u.settled) ∙ rw d at u.leads in
          judge-lands c t₀ bs s (rw q at u) all (sym (or-none s.repeated) ∙ rw (d, once-none) at tw) k (omega arith)

  module _ (s : Walk) (h : s.at < length bs) where
    abbrev x : CounterTransition
    x = get_or bs s.at (transition 0 0 0)

    abbrev later : List CounterTransition
    later = drop (s.at + 1) bs

    -- ---- a look
    module _ (l : Looking c t₀ bs s t₀) where
      abbrev looks : Walk
      looks =
          record {
            phase = Again;
            at = s.at + 1;
            len = s.len;
            «of» = s.at;
            seek = x.idx.0;
            repeated = s.repeated;
            sums = sums_with s.counters.next_idx.0 (rows_of count_row s.counters.stored t₀) x s.sums;
            rows = s.rows;
            answer = s.answer;
            counters = s.counters;
          }

      look-summed : SummedTo c t₀ bs (s.at + 1) looks
      look-summed =
          record {
            len = l.summed.len;
            same = l.summed.same;
            rows = l.summed.rows;
            holding = l.summed.holding;
            within = omega arith;
            tallies = tallies-with s.counters.next_idx.0 (rows_of count_row s.counters.stored t₀) x s.sums s.at l.summed.tallies;
            settled = settled-with s.counters.next_idx.0 (rows_of count_row s.counters.stored t₀) x s.sums;
            leads = rw l.summed.same (sums-cons x later c.next_idx.0 (entries c t₀) s.sums ∙ rw (here_on s.at h) at l.summed.leads);
          }

      -- an index stands twice: by what is known, by this record, or later
      split : (s.repeated || ((changes x && elem x.idx.0 (named (kept later))) || twice later)) ≡ twice bs
      split = rw (here_on s.at h, twice-cons x later) at l.twice

      pub look-lands : Lands c t₀ bs (2 * length bs + 2 + pairs (length bs - s.at)) (looked t₀ x s) t₀
      unfolding looked left_in
      look-lands = go (changes x) refl (ltb (s.at + 1) s.len) refl
        where
          passes : (changes x && elem x.idx.0 (named (kept later))) ≡ false → Lands c t₀ bs (2 * length bs + 2 + pairs (length bs - s.at)) (on_to (length t₀ / 2) looks (s.at + 1)) t₀
          passes e = on-lands looks (s.at + 1) _ look-summed (rw e at split) (omega (arith, pairs_next (length bs) s.at h))

          go : (a : Bool) → changes x ≡ a → (b : Bool) → ltb (s.at + 1) s.len ≡ b
              → Lands c t₀ bs (2 * length bs + 2 + pairs (length bs - s.at)) (pick (a && b) looks (on_to (length t₀ / 2) looks (s.at + 1))) t₀
          go true e true f =
              record {
                at_phase = asking (record {
                  phase = refl;
                  here = omega (arith, l.summed.len, ltb-true (s.at + 1) s.len f);
                  table = refl;
                  summed = look-summed;
                  twice = sym (or_assoc s.repeated (elem x.idx.0 (named (kept later))) (twice later)) ∙ rw e at split;
                });
                nearer = omega (arith, pairs_next (length bs) s.at h);
              }
          go true e false f =
              let d : later ≡ [] = none_left (s.at + 1) (omega (arith, l.summed.len, ltb-false (s.at + 1) s.len f)) in
              passes (rw (e, d) (elem-none x.idx.0))
          go false e b f = passes (rw e)

    -- ---- a later record is asked
    module _ (l : Asking c t₀ bs s t₀) where
      abbrev asks : Walk
      asks =
          record {
            phase = Again;
            at = s.at + 1;
            len = s.len;
            «of» = s.«of»;
            seek = s.seek;
            repeated = s.repeated || (changes x && eqb s.seek x.idx.0);
            sums = s.sums;
            rows = s.rows;
            answer = s.answer;
            counters = s.counters;
          }

      named-on : (s.repeated || elem s.seek (named (kept (drop s.at bs)))) ≡ (asks.repeated || elem s.seek (named (kept later)))
      named-on = rw (here_on s.at h, elem-cons x later s.seek) (or_assoc s.repeated (changes x && eqb s.seek x.idx.0) (elem s.seek (named (kept later))))

      asked_twice : ((asks.repeated || elem s.seek (named (kept later))) || twice (drop (s.«of» + 1) bs)) ≡ twice bs
      asked_twice = rw named-on at l.twice

      pub ask-lands : Lands c t₀ bs (2 * length bs + 3 + (length bs - s.at) + pairs (length bs - (s.«of» + 1))) (asked_again t₀ x s) t₀
      unfolding asked_again left_in
      ask-lands = go (ltb (s.at + 1) s.len) refl
        where
          go : (b : Bool) → ltb (s.at + 1) s.len ≡ b
              → Lands c t₀ bs (2 * length bs + 3 + (length bs - s.at) + pairs (length bs - (s.«of» + 1))) (pick b asks (on_to (length t₀ / 2) asks (s.«of» + 1))) t₀
          go true f =
              record {
                at_phase = asking (record { phase = refl; here = omega (arith, l.summed.len, ltb-true (s.at + 1) s.len f); table = refl; summed = l.summed; twice = asked_twice });
                nearer = omega arith;
              }
          go false f =
              let d : later ≡ [] = none_left (s.at + 1) (omega (arith, l.summed.len, ltb-false (s.at + 1) s.len f)) in
              on-lands asks (s.«of» + 1) _ l.summed (rw (d, elem-none s.seek, or-none asks.repeated) at asked_twice) (omega arith)
