-- Claim 2: two boxes have one listing exactly when their plain boxes agree at every hash. A listing's bytes are read in one way only, and
-- entries by ascending hash are fixed by the entry at each hash.
-- Assumes nothing.
use Rattle.std.specs.Prelude.{◌≡◌, refl, ◌↔◌, Bool, true, false, List, [], ◌∷◌, map, ℕ, suc, ◌^◌, ◌<◌, length, ltb, eqb}
use Rattle.std.proofs.Common.{sym, ap, ap₂, ◌∙◌, arith, length-append, eq-eqb, ne_eqb, eqb-true, ltb-true, lt-ltb, le-leb}
use Rattle.std.proofs.Math.Option.{Option, none, some}
use Rattle.std.proofs.Math.Decide.{dec_lt}
use Rattle.base.specs.Logic.{pick, all, flat, ascending_from}
use Rattle.base.specs.Laws.{and_left, and_right, ascending-head, ascending-tail}
use Rattle.base.specs.ListLaws.{all_weaker}
use Rattle.base.specs.Maybe.{maybe}
use Rattle.cell_nursery.specs.Entries.{Entry, insert_bytes}
use Rattle.cell_nursery.specs.Drain.{listing_bytes}
use Rattle.cell_nursery.proofs.ItemLaws.{item-fits, read_insert-append, length-insert}
use Rattle.cell_nursery.specs.Held.{fits_item}
use Rattle.cell_nursery.specs.Items.{read_insert}
use Rattle.cell_nursery.proofs.EntryLaws.{entry_at}
use Rattle.node_box.specs.Box.{listing_of}
use Rattle.node_box.specs.Plain.{Cell}
use Rattle.node_box.specs.Demand.{History, Typed, end, plain, SameEntries}
use Rattle.demand3.specs.Agreement.{cell_of, cell_at, in_step}
use Rattle.demand3.specs.Outputs.{listing-is}

-- ---- a listing's bytes are read in one way
one-reading : (es fs : List Entry) → all fits_item es ≡ true → all fits_item fs ≡ true → flat insert_bytes es ≡ flat insert_bytes fs → es ≡ fs
unfolding flat all
one-reading [] [] a b q = refl
one-reading [] (f ∷ fs) a b q = absurd (omega (arith, length-insert f, ap length q, length-append (insert_bytes f) (flat insert_bytes fs)))
one-reading (e ∷ es) [] a b q = absurd (omega (arith, length-insert e, ap length q, length-append (insert_bytes e) (flat insert_bytes es)))
one-reading (e ∷ es) (f ∷ fs) a b q =
    let here = read_insert-append e (flat insert_bytes es) (and_left (fits_item e) _ a) in
    let there = read_insert-append f (flat insert_bytes fs) (and_left (fits_item f) _ b) in
    let same : ◌≡◌ {A = Option (Entry × List ℕ)} (some (e, flat insert_bytes es)) (some (f, flat insert_bytes fs)) = sym here ∙ ap (read_insert 2) q ∙ there in
    let pair : ◌≡◌ {A = Entry × List ℕ} (e, flat insert_bytes es) (f, flat insert_bytes fs) = cc in
    let first : e ≡ f = ap (λ (x : Entry × List ℕ). x.0) pair in
    let rest : flat insert_bytes es ≡ flat insert_bytes fs = ap (λ (x : Entry × List ℕ). x.1) pair in
    ap₂ (λ (x : Entry) (xs : List Entry). x ∷ xs) first (one-reading es fs (and_right (fits_item e) _ a) (and_right (fits_item f) _ b) rest)

-- ---- entries by ascending hash are fixed by the entry at each hash
-- none below the first
at-below : (h lo : ℕ) (es : List Entry) → h < lo → ascending_from lo (map (λ e. e.hash) es) ≡ true → entry_at h es ≡ none
unfolding entry_at
at-below h lo [] l o = refl
at-below h lo (e ∷ es) l o =
    let m = ascending-head lo e.hash (map (λ x. x.hash) es) o in
    rw (ne_eqb e.hash h (omega arith)) (at-below h (suc e.hash) es (omega arith) (ascending-tail lo e.hash (map (λ x. x.hash) es) o))

-- ascending from the first
from-head : (e : Entry) (es : List Entry) → ascending_from (suc e.hash) (map (λ x. x.hash) es) ≡ true → ascending_from e.hash (map (λ x. x.hash) (e ∷ es)) ≡ true
unfolding ascending_from
from-head e es o = rw (le-leb e.hash e.hash (omega arith)) o

at_first : (e : Entry) (es : List Entry) → entry_at e.hash (e ∷ es) ≡ some e
unfolding entry_at
at_first e es = rw (eq-eqb e.hash e.hash refl)

at_rest : (h : ℕ) (e : Entry) (es : List Entry) → e.hash < h → entry_at h (e ∷ es) ≡ entry_at h es
unfolding entry_at
at_rest h e es l = rw (ne_eqb e.hash h (omega arith))

not_some : {A : Type 0} {x : A} → none ≡ some x → ⊥
not_some e = let z : ◌≡◌ {A = ℕ} 0 1 = cc in omega arith

same_entries : (top lo : ℕ) (es fs : List Entry) → ascending_from lo (map (λ e. e.hash) es) ≡ true → ascending_from lo (map (λ e. e.hash) fs) ≡ true
    → all (λ e. ltb e.hash top) es ≡ true → all (λ e. ltb e.hash top) fs ≡ true → ((h : ℕ) → h < top → entry_at h es ≡ entry_at h fs) → es ≡ fs
unfolding all entry_at
same_entries top lo [] [] o r a b same = refl
same_entries top lo [] (f ∷ fs) o r a b same = absurd (not_some (same f.hash (ltb-true f.hash top (and_left _ _ b)) ∙ at_first f fs))
same_entries top lo (e ∷ es) [] o r a b same = absurd (not_some (sym (same e.hash (ltb-true e.hash top (and_left _ _ a))) ∙ at_first e es))
same_entries top lo (e ∷ es) (f ∷ fs) o r a b same =
    let es' = ascending-tail lo e.hash (map (λ x. x.hash) es) o in
    let fs' = ascending-tail lo f.hash (map (λ x. x.hash) fs) r in
    let le = ltb-true e.hash top (and_left _ _ a) in
    let lf = ltb-true f.hash top (and_left _ _ b) in
    let hash : e.hash ≡ f.hash =
    elim (dec_lt e.hash f.hash) [
      | yes l ↦ absurd (not_some (sym (at-below e.hash f.hash (f ∷ fs) l (from-head f fs fs')) ∙ sym (same e.hash le) ∙ at_first e es))
      | no l ↦ elim (dec_lt f.hash e.hash) [
        | yes m ↦ absurd (not_some (sym (at-below f.hash e.hash (e ∷ es) m (from-head e es es')) ∙ same f.hash lf ∙ at_first f fs))
        | no m ↦ omega arith
      ]
    ] in
    let both : some e ≡ some f = sym (at_first e es) ∙ same e.hash le ∙ ap (λ (h : ℕ). entry_at h (f ∷ fs)) hash ∙ at_first f fs in
    let first : e ≡ f = cc in
    let later : (h : ℕ) → h < top → entry_at h es ≡ entry_at h fs =
    λ h l. elim (dec_lt e.hash h) [
      | yes m ↦ sym (at_rest h e es m) ∙ same h l ∙ at_rest h f fs (omega arith)
      | no m ↦ at-below h (suc e.hash) es (omega arith) es' ∙ sym (at-below h (suc f.hash) fs (omega arith) fs')
    ] in
    ap₂ (λ (x : Entry) (xs : List Entry). x ∷ xs) first (same_entries top (suc e.hash) es fs es' (rw hash fs') (and_right (ltb e.hash top) _ a) (and_right (ltb f.hash top) _ b) later)

-- the hash of the entry at a hash is that hash, so the cell there fixes it
at-hash : (h : ℕ) (es : List Entry) (e : Entry) → entry_at h es ≡ some e → e.hash ≡ h
unfolding entry_at
at-hash h [] e q = absurd (not_some q)
at-hash h (x ∷ es) e q = go (at-hash h es e) (eqb x.hash h) refl q
  where
    go : (entry_at h es ≡ some e → e.hash ≡ h) → (b : Bool) → eqb x.hash h ≡ b → pick b (some x) (entry_at h es) ≡ some e → e.hash ≡ h
    go r true p m = let same : x ≡ e = cc in ap (λ (y : Entry). y.hash) (sym same) ∙ eqb-true x.hash h p
    go r false p m = r m

same-cell : (h : ℕ) (es fs : List Entry) → cell_at h es ≡ cell_at h fs → entry_at h es ≡ entry_at h fs
same-cell h es fs q = go (entry_at h es) (entry_at h fs) (λ e. at-hash h es e) (λ e. at-hash h fs e) q
  where
    go : (o p : Option Entry) → ((e : Entry) → o ≡ some e → e.hash ≡ h) → ((e : Entry) → p ≡ some e → e.hash ≡ h)
        → maybe none (λ e. some (cell_of e)) o ≡ maybe none (λ e. some (cell_of e)) p → o ≡ p
    go none none u v m = refl
    go none (some f) u v m = absurd (not_some m)
    go (some e) none u v m = absurd (not_some (sym m))
    go (some e) (some f) u v m =
        let c : cell_of e ≡ cell_of f = cc in
        let k : e.hash ≡ f.hash = u e refl ∙ sym (v f refl) in
        let i : e.idx ≡ f.idx = ap (λ (x : Cell). x.idx) c in
        let b : e.born ≡ f.born = ap (λ (x : Cell). x.born) c in
        let l : e.cell ≡ f.cell = ap (λ (x : Cell). x.cell) c in
        ap some (λ t. record { hash = k t; idx = i t; born = b t; cell = l t })

-- ---- the claim
fitting-hashes : (es : List Entry) → all fits_item es ≡ true → all (λ e. ltb e.hash (2 ^ 256)) es ≡ true
fitting-hashes es a = all_weaker (λ e. ltb e.hash (2 ^ 256)) fits_item (λ e f. lt-ltb e.hash (2 ^ 256) (item-fits e f).hash) es a

pub listings : (a b : History) → Typed a → Typed b → (listing_of (end a) ≡ listing_of (end b)) ↔ SameEntries (plain a) (plain b)
unfolding SameEntries listing_bytes
listings a b ta tb =
    let p = in_step a ta in
    let q = in_step b tb in
    let u = p.holds.nursery in
    let v = q.holds.nursery in
    let la = listing-is (end a) u in
    let lb = listing-is (end b) v in (
      (λ same h l.
          let es = one-reading p.nursery.entries q.nursery.entries u.well.entries v.well.entries (sym la ∙ same ∙ lb) in
          p.agrees.entry h ∙ ap (λ (xs : List Entry). cell_at h xs) es ∙ sym (q.agrees.entry h)),
      λ same.
          let es =
          same_entries (2 ^ 256) 0 p.nursery.entries q.nursery.entries u.well.hashes v.well.hashes
          (fitting-hashes p.nursery.entries u.well.entries) (fitting-hashes q.nursery.entries v.well.entries)
          (λ h l. same-cell h p.nursery.entries q.nursery.entries (sym (p.agrees.entry h) ∙ same h l ∙ q.agrees.entry h)) in
          la ∙ ap (λ (xs : List Entry). flat insert_bytes xs) es ∙ sym lb,
    )
