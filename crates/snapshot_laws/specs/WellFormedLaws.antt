-- Every call on the counters leaves a well-formed state, where its arguments are u64: so a box that started fresh always has one.
-- Assumes nothing.
use Rattle.std.specs.Prelude.{◌≡◌, Bool, true, false, List, [], ◌∷◌, ℕ, zero, suc, ◌+◌, ◌/◌, ◌%◌, ◌^◌, ◌<◌, length, drop, leb, ltb, eqb}
use Rattle.std.proofs.Math.Path.{refl}
use Rattle.std.proofs.Common.{sym, ap, ◌∙◌, arith}
use Rattle.std.proofs.Math.Option.{Option, none, some}
use Rattle.base.specs.Logic.{pick, all, fold, max64}
use Rattle.base.specs.Laws.{and_left, and_right}
use Rattle.base.specs.ListLaws.{all_keep, all_drop}
use Rattle.base.specs.Answers.{taken, Answer, Taken, Refused}
use Rattle.base.specs.AnswerLaws.{not-refused}
use Rattle.base.specs.declared.Refusal.TheVariants.{Spent, Broken}
use Rattle.rows.specs.Table.{rows_of}
use Rattle.rows.proofs.RowLaws.{all-put}
use Rattle.rows.proofs.KeyLaws.{put_rows}
use Rattle.counters.specs.declared.ShrinkSettings.{ShrinkSettings}
use Rattle.counters.specs.declared.Counters.{Counters}
use Rattle.counters.specs.declared.CounterTransition.{CounterTransition}
use Rattle.counters.specs.declared.NextIdx.{NextIdx}
use Rattle.counters.specs.Counts.{Entry, State, row_of, set_count, fresh}
use Rattle.counters.specs.Batch.{changes, kept, counts_after, state_after, apply_batch}
use Rattle.counters.specs.Maintenance.{in_range, decide, shrunk}
use Rattle.counters.specs.Layout.{count_row, transition_row, room_of, with_next, state_of, holds, batch_of}
use Rattle.counters.specs.Calls.{new_call, alloc_call, batch_call, shrink_call}
use Rattle.counters.proofs.RefusalLaws.{allocate-spent, taken-state, taken_next, taken-ordered, taken_live, bounded-after}
use Rattle.counters.proofs.CallLaws.{new-state, alloc-answer, alloc-taken, alloc-refused, batch-refused, batch-accepted, shrink-state, shrink-broken, shrink-refused}
use Rattle.counters.proofs.CountLaws.{ordered-more}
use Rattle.snapshot_laws.specs.SetLaws.{ordered-none}
use Rattle.snapshot_laws.specs.RoundTrip.{WellFormed, well-maintained}
use Rattle.snapshot_laws.specs.CallLaws.{word-passes}

-- ---- counts of 8 bytes
abbrev fits : Entry → Bool
fits e = ltb e.count (2 ^ 64)

row_fits : (i n : ℕ) → ltb n (2 ^ 64) ≡ true → all fits (row_of i n) ≡ true
unfolding row_of all
row_fits i n h = go (leb 2 n)
  where
    go : (b : Bool) → all fits (pick b (record { idx = i; count = n } ∷ []) []) ≡ true
    go true = rw h
    go false = refl

counts-fit-after : (ts : List CounterTransition) (es : List Entry) → all (λ t. ltb t.new_raw (2 ^ 64)) ts ≡ true → all fits es ≡ true → all fits (counts_after ts es) ≡ true
unfolding counts_after fold all set_count put_rows
counts-fit-after [] es a f = f
counts-fit-after (t ∷ ts) es a f =
    let small : Bool = all (λ u. ltb u.new_raw (2 ^ 64)) ts in
    counts-fit-after ts (set_count t.idx.0 t.new_raw es) (and_right (ltb t.new_raw (2 ^ 64)) small a)
    (all-put (λ e. e.idx) t.idx.0 (suc t.idx.0) (row_of t.idx.0 t.new_raw) es fits f
    (row_fits t.idx.0 t.new_raw (and_left (ltb t.new_raw (2 ^ 64)) small a)))

-- ---- a batch that is taken
pub applied-well-formed : (room : ℕ) (s : State) (ts : List CounterTransition) (s' : State) → apply_batch room s ts ≡ taken s' → WellFormed s
    → all (λ t. ltb t.new_raw (2 ^ 64)) ts ≡ true → WellFormed s'
unfolding state_after kept
applied-well-formed room s ts s' ok w a =
    let p = w.spelled in
    let left : s'.counts ≡ counts_after (kept ts) s.counts = ap (λ (r : State). r.counts) (taken-state room s ts s' ok) in
    record {
      spelled =
          record {
            next_fits = omega (arith, taken_next room s ts s' ok, p.next_fits);
            live_fits = omega (arith, (taken_live room s ts s' ok).1);
            sorted = taken-ordered room s ts s' ok p.sorted;
            counts_fit = rw left (counts-fit-after (kept ts) s.counts (all_keep (λ t. ltb t.new_raw (2 ^ 64)) changes ts a) p.counts_fit);
          };
      bounded = bounded-after room s ts s' ok;
    }

-- the transitions that words of 8 bytes spell
words-fit : (n : ℕ) (ws : List ℕ) → all (λ w. ltb w (2 ^ 64)) ws ≡ true → all (λ t. ltb t.new_raw (2 ^ 64)) (rows_of transition_row n ws) ≡ true
unfolding all rows_of
words-fit zero ws a = refl
words-fit (suc n) ws a = rw (word-passes (λ w. ltb w (2 ^ 64)) ws 2 refl a) (words-fit n (drop 3 ws) (all_drop (λ w. ltb w (2 ^ 64)) 3 ws a))

batch-fits : (ws : List ℕ) (ts : List CounterTransition) → all (λ w. ltb w (2 ^ 64)) ws ≡ true → batch_of ws ≡ some ts → all (λ t. ltb t.new_raw (2 ^ 64)) ts ≡ true
unfolding batch_of
batch-fits ws ts a e = go (eqb (length ws % 3) 0) e
  where
    rows : List CounterTransition
    rows = rows_of transition_row (length ws / 3) ws

    go : (b : Bool) → ◌≡◌ {A = Option (List CounterTransition)} (pick b (some rows) none) (some ts) → all (λ t. ltb t.new_raw (2 ^ 64)) ts ≡ true
    go true q = let same : ts ≡ rows = cc in rw same (words-fit (length ws / 3) ws a)
    go false q = let z : ◌≡◌ {A = ℕ} 0 1 = cc in absurd (omega arith)

-- ---- the calls
pub new-well-formed : (g : ShrinkSettings) (next : NextIdx) (t : List ℕ) → in_range g ≡ true → next.0 < 2 ^ 64
    → WellFormed (state_of (new_call g next t).result.counters (new_call g next t).table)
unfolding fresh all
new-well-formed g next t r h =
    rw (new-state g next t r) (record { spelled = record { next_fits = h; live_fits = omega arith; sorted = ordered-none next.0; counts_fit = refl }; bounded = omega arith })

module _ (c : Counters) (t : List ℕ) (w : WellFormed (state_of c t)) where
  pub alloc-well-formed : WellFormed (state_of (alloc_call c).counters t)
  unfolding state_of with_next
  alloc-well-formed = go (alloc_call c).answer refl
    where
      go : (a : Answer) → (alloc_call c).answer ≡ a → WellFormed (state_of (alloc_call c).counters t)
      go (Refused r) e = rw (alloc-refused c r e).1 w
      go Taken e =
          let p = w.spelled in
          let below : c.next_idx.0 + 1 < 2 ^ 64 = omega (arith, p.next_fits, unspent e) in
          rw (alloc-taken c e).1 (record {
            spelled =
                record {
                  next_fits = below;
                  live_fits = p.live_fits;
                  sorted = ordered-more c.next_idx.0 (rows_of count_row c.stored t) p.sorted (c.next_idx.0 + 1) (omega arith);
                  counts_fit = p.counts_fit;
                };
            bounded = w.bounded;
          })
        where
          unspent : (alloc_call c).answer ≡ Taken → ¬ (c.next_idx.0 ≡ max64)
          unspent e q = not-refused (sym e ∙ (alloc-answer c Spent).1 ((allocate-spent c.next_idx.0).1 q))

  pub batch-well-formed : (ws : List ℕ) → all (λ x. ltb x (2 ^ 64)) ws ≡ true → WellFormed (state_of (batch_call c t ws).result.counters (batch_call c t ws).table)
  batch-well-formed ws a = go (batch_call c t ws).result.answer refl
    where
      go : (b : Answer) → (batch_call c t ws).result.answer ≡ b → WellFormed (state_of (batch_call c t ws).result.counters (batch_call c t ws).table)
      go (Refused r) e = let same = batch-refused c t ws r e in rw (same.0, same.1) w
      go Taken e =
          let b = batch-accepted c t ws e in
          let x = b.1 in
          rw b.2 (applied-well-formed (room_of t) (state_of c t) x.transitions b.0 x.applied w (batch-fits ws x.transitions a x.words))

  pub shrink-well-formed : (saved : ℕ) → WellFormed (state_of (shrink_call c t saved).counters t)
  shrink-well-formed saved = go (holds c t) refl
    where
      go : (b : Bool) → holds c t ≡ b → WellFormed (state_of (shrink_call c t saved).counters t)
      go true h = rw (shrink-state c t saved h) (well-maintained (state_of c t) (shrunk c.settings saved (decide (state_of c t)) (state_of c t).maintenance) w)
      go false h = rw (shrink-refused c t saved Broken ((shrink-broken c t saved).1 h)) w
