-- One entry followed through deltas and drains: while it isn't removed it stays, and its waiting row stays until a drain takes it.
-- Assumes nothing.
use Rattle.std.specs.Prelude.{◌≡◌, Bool, ◌&&◌, ◌||◌, ℕ, suc, ◌+◌, ltb}
use Rattle.std.proofs.Math.Path.{refl, ap}
use Rattle.std.proofs.Common.{sym, ◌∙◌, arith}
use Rattle.std.proofs.Math.Bool.{true, false, not, true≢false}
use Rattle.std.proofs.Math.Option.{some}
use mathlib.Core.List.{List, [], ◌∷◌, ◌++◌, map}
use Rattle.std.proofs.Math.Decide.{dec_le}
use Rattle.std.proofs.Math.Dec.{leb, eqb}
use borrow.Author.Tests.{lt-ltb, le-ltb, le-leb, lt-leb, eq-eqb, ne_eqb, eqb-true, eqb-false}
use Rattle.base.specs.Logic.{pick, any, elem, fold, flat, keep, repeated, ascending}
use Rattle.base.specs.ListLaws.{or-false, fails-not, Among, here, there, some_one, some-weaker, elem-some, none_passes}
use Rattle.base.specs.ListLaws.{keep_append, keep-swap, keep-narrow}
use Rattle.rows.proofs.KeyLaws.{put_rows}
use Rattle.cell_nursery.specs.Entries.{Entry, Waiting, State, tied, put_waiting, insert, remove}
use Rattle.cell_nursery.specs.Items.{Delta}
use Rattle.cell_nursery.specs.Delta.{present, state_after}
use Rattle.cell_nursery.specs.Drain.{due, named, promoted, drained}
use Rattle.cell_nursery.proofs.DrainLaws.{named-entry_at, named-rows}
use Rattle.cell_nursery.proofs.PutLaws.{put_waiting-rows}
use Rattle.cell_nursery.proofs.EntryLaws.{entry_at, elem-entry_at, entry_at-put, entry_at-removed}
use Rattle.cell_nursery.proofs.WaitLaws.{waiter_for, tied-absent}
use Rattle.promotion.specs.Promotion.{with_hash}

-- the waiting rows of a hash
abbrev rows_at : ℕ → List Waiting → List Waiting
rows_at h ws = keep (λ w. eqb w.hash h) ws

abbrev hashes_of : List Entry → List ℕ
hashes_of es = map (λ e. e.hash) es

-- the entry is there, and waits unless it was handed out
pub record Tracked (e : Entry) (out : Bool) (s : State) : Type 0 where
  there_is : entry_at e.hash s.entries ≡ some e
  rows : rows_at e.hash s.waiting ≡ pick out [] (waiter_for e ∷ [])

-- ---- another hash put in or taken out
-- at most one row falls into its rows below a round and the others
at_most_one : (lo : ℕ) (out : Bool) (w : Waiting)
    → keep (λ x. ltb x.born lo) (pick out [] (w ∷ [])) ++ keep (λ x. leb lo x.born) (pick out [] (w ∷ [])) ≡ pick out [] (w ∷ [])
unfolding keep
at_most_one lo true w = refl
at_most_one lo false w =
    elim (dec_le lo w.born) [
      | yes g ↦ rw (le-ltb w.born lo g, le-leb lo w.born g)
      | no g ↦ rw (lt-ltb w.born lo (omega arith), lt-leb lo w.born (omega arith))
    ]

-- the rows of a hash after a row is put
rows-put : (h : ℕ) (w : Waiting) (ws : List Waiting)
    → rows_at h (put_waiting w ws) ≡ keep (λ x. ltb x.born (suc w.born)) (rows_at h ws) ++ (rows_at h (w ∷ []) ++ keep (λ x. leb (suc w.born) x.born) (rows_at h ws))
unfolding put_rows
rows-put h w ws =
    let q : Waiting → Bool = λ x. eqb x.hash h in
    let low : Waiting → Bool = λ x. ltb x.born (suc w.born) in
    let high : Waiting → Bool = λ x. leb (suc w.born) x.born in
    ap (keep q) (put_waiting-rows w ws)
    ∙ rw (keep_append q (keep low ws) ((w ∷ []) ++ keep high ws), keep_append q (w ∷ []) (keep high ws), keep-swap q low ws, keep-swap q high ws)

module _ (e : Entry) (out : Bool) (s : State) (t : Tracked e out s) where
  track-insert : (i : Entry) → (e.hash ≡ i.hash → ⊥) → Tracked e out (insert i s)
  unfolding insert keep
  track-insert i ne =
      record {
        there_is = entry_at-put e.hash i s.entries ∙ rw (ne_eqb e.hash i.hash ne) t.there_is;
        rows = rows-put e.hash (waiter_for i) s.waiting ∙ rw (t.rows, ne_eqb i.hash e.hash (λ q. ne (sym q))) (at_most_one (suc i.born) out (waiter_for e));
      }

  track-remove : (g : ℕ) → (e.hash ≡ g → ⊥) → Tracked e out (remove g s)
  unfolding remove
  track-remove g ne =
      record {
        there_is = entry_at-removed e.hash g s.entries ∙ rw (ne_eqb e.hash g ne) t.there_is;
        rows =
            keep-narrow (λ w. eqb w.hash e.hash) (λ w. not (eqb w.hash g))
            (λ w h. ap not (ne_eqb w.hash g (λ q. ne (sym (eqb-true w.hash e.hash h) ∙ q)))) s.waiting ∙ t.rows;
      }

track-inserts : (e : Entry) (out : Bool) (is : List Entry) (s : State) → elem e.hash (hashes_of is) ≡ false → Tracked e out s → Tracked e out (fold insert is s)
unfolding fold any
track-inserts e out [] s n t = t
track-inserts e out (i ∷ is) s n t =
    let f = or-false (eqb e.hash i.hash) (elem e.hash (hashes_of is)) n in
    track-inserts e out is (insert i s) f.1 (track-insert e out s t i (eqb-false e.hash i.hash f.0))

track-removes : (e : Entry) (out : Bool) (gs : List ℕ) (s : State) → elem e.hash gs ≡ false → Tracked e out s → Tracked e out (fold remove gs s)
unfolding fold any
track-removes e out [] s n t = t
track-removes e out (g ∷ gs) s n t =
    let f = or-false (eqb e.hash g) (elem e.hash gs) n in
    track-removes e out gs (remove g s) f.1 (track-remove e out s t g (eqb-false e.hash g f.0))

-- the entry put in, among others, where no row of its hash waits
inserted : (e : Entry) {is : List Entry} (t : State) → Among e is → repeated (hashes_of is) ≡ false → rows_at e.hash t.waiting ≡ [] → Tracked e false (fold insert is t)
unfolding fold repeated insert keep
inserted e t (here {x = x} {xs = xs} p) n r =
    let f = or-false (elem x.hash (hashes_of xs)) (repeated (hashes_of xs)) n in
    rw p (track-inserts e false xs (insert e t) (rw p at f.0) new-one)
  where
    new-one : Tracked e false (insert e t)
    new-one =
        record {
          there_is = entry_at-put e.hash e t.entries ∙ rw (eq-eqb e.hash e.hash refl);
          rows = rows-put e.hash (waiter_for e) t.waiting ∙ rw (r, eq-eqb e.hash e.hash refl);
        }
inserted e t (there {x = x} {xs = xs} m) n r =
    let f = or-false (elem x.hash (hashes_of xs)) (repeated (hashes_of xs)) n in
    let among = (elem-some (λ i. i.hash) e.hash xs).1 (some-weaker (λ i q. ap (λ (j : Entry). j.hash) (sym q)) m) in
    inserted e (insert x t) m f.1 (other (λ q. true≢false (sym among ∙ ap (λ (k : ℕ). elem k (hashes_of xs)) (sym q) ∙ f.0)))
  where
    other : (x.hash ≡ e.hash → ⊥) → rows_at e.hash (insert x t).waiting ≡ []
    other ne = rows-put e.hash (waiter_for x) t.waiting ∙ rw (r, ne_eqb x.hash e.hash ne)

-- ---- a delta that is accepted and doesn't remove the entry
module _ (e : Entry) (d : Delta) (s : State) (new : present s d ≡ false) (stays : elem e.hash d.removes ≡ false) where
  absent : any (λ i. elem i.hash (hashes_of s.entries)) d.inserts ≡ false
  unfolding present
  absent = (or-false (any (λ i. elem i.hash (hashes_of s.entries)) d.inserts) (repeated (hashes_of d.inserts)) new).0

  -- it inserts no hash that has an entry
  pub track-delta : (out : Bool) → Tracked e out s → Tracked e out (state_after d s)
  unfolding state_after
  track-delta out t = track-removes e out d.removes (fold insert d.inserts s) stays (track-inserts e out d.inserts s others t)
    where
      others : elem e.hash (hashes_of d.inserts) ≡ false
      others =
          (fails-not (elem e.hash (hashes_of d.inserts)) (elem-some (λ i. i.hash) e.hash d.inserts)).1 (λ m.
          let (i, same, among) = some_one m in
          let there = elem-entry_at e.hash s.entries ∙ rw t.there_is in
          let not_there = (none_passes (λ j. elem j.hash (hashes_of s.entries)) d.inserts).0 absent i among in
          true≢false (sym there ∙ ap (λ (k : ℕ). elem k (hashes_of s.entries)) same ∙ not_there))

  -- the one that inserts it
  pub track-new : ascending (hashes_of s.entries) ≡ true → tied s ≡ true → Among e d.inserts → Tracked e false (state_after d s)
  unfolding state_after present
  track-new o w m =
      let twice = (or-false (any (λ i. elem i.hash (hashes_of s.entries)) d.inserts) (repeated (hashes_of d.inserts)) new).1 in
      let alone = (none_passes (λ i. elem i.hash (hashes_of s.entries)) d.inserts).0 absent e m in
      track-removes e false d.removes (fold insert d.inserts s) stays (inserted e s m twice (tied-absent s o w e.hash alone))

-- ---- a drain
module _ (delay round : ℕ) (e : Entry) (out : Bool) (s : State) (t : Tracked e out s) where
  -- it takes the row where it is due
  pub track-drain : Tracked e (out || leb (e.born + delay) round) (drained delay round s)
  unfolding drained due keep
  track-drain =
      record {
        there_is = t.there_is;
        rows = keep-swap (λ w. eqb w.hash e.hash) (λ w. not (due delay round w)) s.waiting ∙ rw t.rows (go out (leb (e.born + delay) round) refl);
      }
    where
      go : (o l : Bool) → leb (e.born + delay) round ≡ l → keep (λ w. not (due delay round w)) (pick o [] (waiter_for e ∷ [])) ≡ pick (o || l) [] (waiter_for e ∷ [])
      go true l q = refl
      go false true q = rw q
      go false false q = rw q

  pub track-promoted : ascending (hashes_of s.entries) ≡ true → with_hash e.hash (promoted delay round s) ≡ pick (leb (e.born + delay) round && not out) (e ∷ []) []
  unfolding promoted due keep flat
  track-promoted o =
      named-rows e.hash s.entries (keep (due delay round) s.waiting)
      ∙ rw (keep-swap (λ w. eqb w.hash e.hash) (due delay round) s.waiting, t.rows) (go out (leb (e.born + delay) round) refl)
    where
      alone : named s.entries (waiter_for e) ≡ e ∷ []
      alone = named-entry_at (waiter_for e) 0 s.entries o ∙ rw (t.there_is, eq-eqb e.born e.born refl)

      go : (p l : Bool) → leb (e.born + delay) round ≡ l → flat (named s.entries) (keep (due delay round) (pick p [] (waiter_for e ∷ []))) ≡ pick (l && not p) (e ∷ []) []
      go true true q = refl
      go true false q = refl
      go false true q = rw (q, alone)
      go false false q = rw q
