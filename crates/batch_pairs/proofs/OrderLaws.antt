-- Kept transitions of two batches, each taken before and after the other, come to the same in either order.
-- Assumes nothing.
use Rattle.std.specs.Prelude.{◌≡◌, refl, Bool, true, false, List, ℕ, ◌+◌, ◌-◌, length, get_or}
use Rattle.std.proofs.Common.{sym, ap, ◌∙◌}
use native.Mathlib.Omega.{arith}
use Rattle.base.specs.Logic.{any, keep, elem, repeated}
use Rattle.base.specs.ListLaws.{some_one, elem-some, none_passes}
use Rattle.counters.specs.declared.CounterTransition.{CounterTransition}
use Rattle.counters.specs.declared.CounterMaintenance.{CounterMaintenance}
use Rattle.counters.specs.Counts.{Entry, State, stored_at}
use Rattle.counters.specs.Maintenance.{grown, grown_sets, maintained, falls, clears}
use Rattle.counters.specs.Batch.{named, births, deaths, false_old, counts_after, state_after}
use Rattle.counters.specs.Layout.{ordered}
use Rattle.counters.proofs.EachLaws.{each_same}
use Rattle.counters.proofs.MaintenanceLaws.{grown-at}
use Rattle.counters.proofs.CountLaws.{same-stored}
use Rattle.counters.proofs.BatchLaws.{stored-unnamed, old-stored, ordered-counts_after}
use Rattle.counters.proofs.JudgeLaws.{total-within}
use Rattle.batch_pairs.proofs.InverseLaws.{Passes, stored-among}

-- ---- the removal counters
grown-either : (r a b : ℕ) → grown (grown r a) b ≡ grown (grown r b) a
unfolding grown
grown-either r a b = omega arith

sets-either : (ks ls : List CounterTransition) (rs : List ℕ) → grown_sets ls (grown_sets ks rs) ≡ grown_sets ks (grown_sets ls rs)
unfolding grown_sets
sets-either ks ls rs =
    each_same (λ k. grown (get_or (grown_sets ks rs) k 0) (length (keep (clears k) ls))) (λ k. grown (get_or (grown_sets ls rs) k 0) (length (keep (clears k) ks))) 0 8 (λ k a b.
    ap (λ (n : ℕ). grown n (length (keep (clears k) ls))) (grown-at ks rs k (omega arith))
    ∙ grown-either (get_or rs k 0) (length (keep (clears k) ks)) (length (keep (clears k) ls))
    ∙ sym (ap (λ (n : ℕ). grown n (length (keep (clears k) ks))) (grown-at ls rs k (omega arith))))

maintained-either : (ks ls : List CounterTransition) (m : CounterMaintenance) → maintained ls (maintained ks m) ≡ maintained ks (maintained ls m)
unfolding maintained
maintained-either ks ls m =
    rw (grown-either m.alive_removed_since_shrink (length (keep falls ks)) (length (keep falls ls)), sets-either ks ls m.small_removed_since_shrink)

-- ---- the counts
-- transitions leave at an index that they name what they leave there on other counts
same-named : (i : ℕ) (ks : List CounterTransition) → repeated (named ks) ≡ false → elem i (named ks) ≡ true → (es fs : List Entry)
    → stored_at i (counts_after ks es) ≡ stored_at i (counts_after ks fs)
same-named i ks once q es fs =
    let (t, n, m) = some_one ((elem-some (λ t. t.idx.0) i ks).0 q) in
    rw n (stored-among m once es ∙ sym (stored-among m once fs))

-- an index whose old count is true on two lists of counts has the same in both
same_old : (next : ℕ) (es fs : List Entry) → ordered next es ≡ true → ordered next fs ≡ true → (ks : List CounterTransition)
    → any (false_old es) ks ≡ false → any (false_old fs) ks ≡ false → (i : ℕ) → elem i (named ks) ≡ true → stored_at i fs ≡ stored_at i es
same_old next es fs o p ks e f i q =
    let (t, n, m) = some_one ((elem-some (λ t. t.idx.0) i ks).0 q) in
    rw n ((old-stored next fs p t).0 ((none_passes (false_old fs) ks).0 f t m) ∙ sym ((old-stored next es o t).0 ((none_passes (false_old es) ks).0 e t m)))

module _ (room : ℕ) (s : State) (ks ls : List CounterTransition) (o : ordered s.next s.counts ≡ true)
    (p : Passes room s ks) (q : Passes room (state_after ks s) ls) (r : Passes room s ls) (u : Passes room (state_after ls s) ks) where
  abbrev es : List Entry
  es = s.counts

  abbrev after-ks : List Entry
  after-ks = counts_after ks es

  abbrev after-ls : List Entry
  after-ls = counts_after ls es

  ks-order : ordered s.next after-ks ≡ true
  ks-order = ordered-counts_after s.next ks es o p.allocated

  ls-order : ordered s.next after-ls ≡ true
  ls-order = ordered-counts_after s.next ls es o r.allocated

  -- where ls names an index, ks leaves it as it was, and the other way round
  ks-leaves : (i : ℕ) → elem i (named ls) ≡ true → stored_at i after-ks ≡ stored_at i es
  unfolding state_after
  ks-leaves i e = same_old s.next es after-ks o ks-order ls r.old q.old i e

  ls-leaves : (i : ℕ) → elem i (named ks) ≡ true → stored_at i after-ls ≡ stored_at i es
  unfolding state_after
  ls-leaves i e = same_old s.next es after-ls o ls-order ks p.old u.old i e

  stored-either : (i : ℕ) → stored_at i (counts_after ls after-ks) ≡ stored_at i (counts_after ks after-ls)
  stored-either i = go (elem i (named ks)) refl (elem i (named ls)) refl
    where
      go : (a : Bool) → elem i (named ks) ≡ a → (b : Bool) → elem i (named ls) ≡ b → stored_at i (counts_after ls after-ks) ≡ stored_at i (counts_after ks after-ls)
      go true e true f = same-named i ls r.once f after-ks es ∙ ls-leaves i e ∙ sym (ks-leaves i f) ∙ same-named i ks p.once e es after-ls
      go true e false f = stored-unnamed i ls after-ks f ∙ same-named i ks p.once e es after-ls
      go false e true f = same-named i ls r.once f after-ks es ∙ sym (stored-unnamed i ks after-ls e)
      go false e false f = stored-unnamed i ls after-ks f ∙ stored-unnamed i ks es e ∙ sym (stored-unnamed i ls es f) ∙ sym (stored-unnamed i ks after-ls e)

  counts-either : counts_after ls after-ks ≡ counts_after ks after-ls
  counts-either =
      same-stored s.next (counts_after ls after-ks) (counts_after ks after-ls)
      (ordered-counts_after s.next ls after-ks ks-order r.allocated) (ordered-counts_after s.next ks after-ls ls-order p.allocated) stored-either

  live-either : s.live + births ks - deaths ks + births ls - deaths ls ≡ s.live + births ls - deaths ls + births ks - deaths ks
  unfolding state_after births deaths
  live-either =
      omega (
        arith,
        total-within s.live ks p.total,
        total-within (s.live + births ks - deaths ks) ls q.total,
        total-within s.live ls r.total,
        total-within (s.live + births ls - deaths ls) ks u.total,
      )

  pub states-either : state_after ls (state_after ks s) ≡ state_after ks (state_after ls s)
  unfolding state_after
  states-either = rw (live-either, counts-either, maintained-either ks ls s.maintenance)
