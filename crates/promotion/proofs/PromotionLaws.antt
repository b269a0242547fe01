-- An entry that isn't removed is handed out exactly once.
-- Assumes nothing.
use Rattle.std.specs.Prelude.{◌≡◌, Bool, ◌&&◌, ◌||◌, ℕ, ◌+◌, ◌^◌, ◌<◌, ltb, eqb}
use Rattle.std.proofs.Math.Path.{refl, ap, ap₂}
use Rattle.std.proofs.Common.{sym, subst, ◌∙◌, arith}
use Rattle.std.proofs.Math.Bool.{true, false, not, and-false, or_assoc, or-false as or-none}
use Rattle.std.proofs.Math.Option.{Option, none, some}
use mathlib.Core.List.{List, [], ◌∷◌, ◌++◌, map}
use Rattle.std.proofs.Math.ListN.{length}
use Rattle.std.proofs.lemmas.List.{length-replicate}
use Rattle.std.proofs.Math.Dec.{leb}
use borrow.Author.Tests.{le-leb, lt-leb}
use Rattle.base.specs.Logic.{pick, all, elem, flat, keep, zeros, overlay}
use Rattle.base.specs.ListLaws.{or-false, Among, keep_append, all_append, all_head, all_tail, all_left, all_right}
use Rattle.base.specs.Maybe.{maybe}
use Rattle.base.specs.Answers.{taken, ◌>>◌, refuse_if, Answer, Taken, Refused}
use Rattle.base.specs.AnswerLaws.{not-refused}
use Rattle.base.specs.Output.{fitting}
use Rattle.base.specs.declared.Refusal.TheVariants.{OutputFull}
use Rattle.blake3.specs.Mode.{Mode, hash_by}
use Rattle.cell_nursery.specs.Entries.{Entry, State, empty}
use Rattle.cell_nursery.specs.Drain.{due, promoted, promoted_bytes, drained, drain_bytes}
use Rattle.cell_nursery.proofs.DrainLaws.{named-absent}
use Rattle.cell_nursery.specs.Layout.{entries_table, waiting_table, room_of, delay_in_range}
use Rattle.cell_nursery.specs.Calls.{DrainedOut, drained_out}
use Rattle.snapshot.specs.Calls.{deserialize_call}
use Rattle.journal.specs.Journal.{read_journal, ReadIn, read_out, read_under}
use Rattle.journal.proofs.ReadLaws.{read_taken}
use Rattle.journal.proofs.ModeLaws.{read-taken-under}
use Rattle.journal_laws.specs.LoadLaws.{journal-loaded}
use Rattle.node_box.specs.Box.{Settings, Box, Call, allocate, batch, batch_records, delta, drain, get, shrink, adjust, measure, serialize, lookup, locate, listing, made, accepted, drain_into, step, run, nursery_of}
use Rattle.node_box.specs.Journal.{both_taken, rebuild}
use Rattle.node_box.specs.Demand.{typed}
use Rattle.demand3.specs.States.{nursery_after}
use Rattle.demand3.specs.NurseryHeld.{NurseryHeld, held-nursery, laid-held, new-nursery, nursery-holds, nursery-state, delay-same, delta-taken, drain-outcome}
use Rattle.demand3.specs.Holding.{answer-taken, nursery-taken, refused-same}
use Rattle.demand3.specs.TableWords.{all_words, entries-table, waiting-table}
use Rattle.promotion.specs.Promotion.{HoldsState, lent_delta, inserts_of, removes_of, round_of, promoted_by, promoted_in, any_accepted, drains_from, removes_hash, with_hash, due_from, promotes, Inserted, PromotedOnce, Promotion}
use Rattle.promotion.proofs.TrackLaws.{Tracked, track-delta, track-new, track-drain, track-promoted}

-- ---- a box that holds a nursery's state
record Held (delay : ℕ) (b : Box) : Type 0 where
  le : ℕ
  lw : ℕ
  lc : ℕ
  state : State
  held : NurseryHeld delay le lw lc b.nursery b.entries b.waiting b.cells state

abbrev held-taken : {delay : ℕ} {b : Box} (h : Held delay b) (x : Call) → typed x ≡ true → accepted (step b x).0 ≡ true → Held delay (step b x).1
held-taken {delay} {b} h x t e = record { le = h.le; lw = h.lw; lc = h.lc; state = nursery_after delay x h.state; held = nursery-taken b h.held x t e }

-- one that holds a state, and the other way round where the cells are a slice
state-held : {b : Box} → HoldsState b → Held b.nursery.delay b
state-held {b} h =
    let u64 : ℕ → Bool = λ w. ltb w (2 ^ 64) in
    let u = all_words b.entries (all_left u64 b.entries b.waiting h.words) in
    let v = all_words b.waiting (all_right u64 b.entries b.waiting h.words) in
    record { le = length b.entries; lw = length b.waiting; lc = length b.cells; state = nursery_of b; held = held-nursery b.nursery b.entries b.waiting b.cells u v h.held }

held-state : {delay : ℕ} {b : Box} (h : Held delay b) → h.lc < 2 ^ 64 → HoldsState b
held-state {delay} {b} h l =
    let n = h.held in
    record {
      held = nursery-holds n;
      words =
          rw (n.same_entries, n.same_waiting)
          (all_append (λ w. ltb w (2 ^ 64)) (entries_table h.le h.state) (waiting_table h.lw h.state)
          (entries-table h.le h.state n.well (omega (arith, n.cells_fit, l))) (waiting-table h.lw h.state n.well));
    }

made_holds : (g : Settings) (next : ℕ) (t es ws cs : List ℕ) → delay_in_range g.delay ≡ true → length cs < 2 ^ 64 → HoldsState (made g next t es ws cs)
unfolding made
made_holds g next t es ws cs r l = held-state (record { le = length es; lw = length ws; lc = length cs; state = empty; held = new-nursery g.delay es ws cs r }) l

-- both readings were taken
second-taken : (a b : Answer) → both_taken a b ≡ Taken → b ≡ Taken
second-taken Taken b e = e
second-taken (Refused r) b e = absurd (not-refused (sym e))

rebuilt-holds : (m : Mode) (g : Settings) (snapshot journal t es ws cs : List ℕ) → all (λ b. ltb b 256) journal ≡ true → length cs < 2 ^ 64
    → (rebuild m g snapshot journal t es ws cs).answer ≡ Taken → HoldsState (rebuild m g snapshot journal t es ws cs).box
unfolding rebuild read_out room_of
rebuilt-holds m g snapshot journal t es ws cs b l e =
    let c = deserialize_call g.shrink snapshot t in
    let r = journal-loaded (hash_by m) (room_of es ws cs) journal b in
    let s = (read_journal (hash_by m) (room_of es ws cs) journal).state in
    let answered = second-taken c.result.answer (read_under m g.delay journal es ws cs).result.answer e in
    let (good, under) = read-taken-under m g.delay journal es ws cs answered in
    let (undamaged, read, ranged) = read_taken (hash_by m) g.delay journal es ws cs (rw under at answered) in
    subst (λ (x : ReadIn).
    HoldsState (record { counters = c.result.counters; counts = c.table; nursery = x.result.nursery; entries = x.entries; waiting = x.waiting; cells = x.cells })) (sym (under ∙ read))
    (held-state (record { le = length es; lw = length ws; lc = length cs; state = s; held = laid-held g.delay es ws cs s ranged r.well r.room }) l)

called-holds : (b : Box) (x : Call) → HoldsState b → typed x ≡ true → length b.cells < 2 ^ 64 → HoldsState (step b x).1
unfolding state-held
called-holds b x h t l = go (accepted (step b x).0) refl
  where
    go : (ok : Bool) → accepted (step b x).0 ≡ ok → HoldsState (step b x).1
    go true e = held-state (held-taken (state-held h) x t e) l
    go false e = rw (refused-same b (state-held h).held x e) h

-- ---- the box follows the entry
record Follows (delay : ℕ) (e : Entry) (out : Bool) (b : Box) : Type 0 where
  held : Held delay b
  tracked : Tracked e out held.state

-- a call that drains at a round at which the entry is due, and one that removes it
abbrev drains : ℕ → Entry → Call → Bool
drains delay e x = maybe false (leb (e.born + delay)) (round_of x)

abbrev removes : Entry → Call → Bool
removes e x = elem e.hash (removes_of x)

module _ {delay : ℕ} {e : Entry} {out : Bool} {b : Box} (f : Follows delay e out b) where
  track-taken : (x : Call) → accepted (step b x).0 ≡ true → removes e x ≡ false → Tracked e (out || drains delay e x) (nursery_after delay x f.held.state)
  unfolding nursery_after round_of lent_delta step
  track-taken allocate a n = rw (or-none out) f.tracked
  track-taken (batch words) a n = rw (or-none out) f.tracked
  track-taken (batch_records ts) a n = rw (or-none out) f.tracked
  track-taken (delta id wide inserts removes items) a n =
      let d = delta-taken f.held.held wide inserts removes items (answer-taken _ a) in
      rw (or-none out, d.spelled) (track-delta e d.change f.held.state d.accepted.new (rw d.spelled at n) out f.tracked)
  track-taken (drain round o) a n = track-drain delay round e out f.held.state f.tracked
  track-taken (get idx) a n = rw (or-none out) f.tracked
  track-taken (shrink saved) a n = rw (or-none out) f.tracked
  track-taken (adjust saved) a n = rw (or-none out) f.tracked
  track-taken measure a n = rw (or-none out) f.tracked
  track-taken (serialize o) a n = rw (or-none out) f.tracked
  track-taken (lookup k) a n = rw (or-none out) f.tracked
  track-taken (locate k) a n = rw (or-none out) f.tracked
  track-taken (listing o) a n = rw (or-none out) f.tracked

  follow-step : (x : Call) → typed x ≡ true → (accepted (step b x).0 && removes e x) ≡ false → Follows delay e (out || (accepted (step b x).0 && drains delay e x)) (step b x).1
  follow-step x t n = go (accepted (step b x).0) refl n
    where
      go : (ok : Bool) → accepted (step b x).0 ≡ ok → (ok && removes e x) ≡ false → Follows delay e (out || (ok && drains delay e x)) (step b x).1
      go true a m = record { held = held-taken f.held x t a; tracked = track-taken x a m }
      go false a m = rw (refused-same b f.held.held x a, or-none out) f

  -- what a call hands out under its hash
  call-promotes : (x : Call) → with_hash e.hash (promoted_by b x) ≡ pick (accepted (step b x).0 && drains delay e x && not out) (e ∷ []) []
  unfolding promoted_by keep
  call-promotes x = go (round_of x) (accepted (step b x).0)
    where
      go : (o : Option ℕ) (ok : Bool)
          → with_hash e.hash (maybe [] (λ round. pick ok (promoted b.nursery.delay round (nursery_of b)) []) o) ≡ pick (ok && maybe false (leb (e.born + delay)) o && not out) (e ∷ []) []
      go none true = refl
      go none false = refl
      go (some round) true = rw (nursery-state f.held.held, delay-same f.held.held) (track-promoted delay round e out f.held.state f.tracked f.held.held.well.hashes)
      go (some round) false = refl

follow-run : {delay : ℕ} {e : Entry} {out : Bool} {b : Box} (xs : List Call) → all typed xs ≡ true → removes_hash e.hash b xs ≡ false
    → Follows delay e out b → Follows delay e (out || drains_from (e.born + delay) b xs) (run b xs)
unfolding run any_accepted
follow-run {delay} {e} {out} {b} [] t n f = rw (or-none out) f
follow-run {delay} {e} {out} {b} (x ∷ xs) t n f =
    let m = or-false (accepted (step b x).0 && removes e x) (removes_hash e.hash (step b x).1 xs) n in
    rw (← or_assoc out (accepted (step b x).0 && drains delay e x) (drains_from (e.born + delay) (step b x).1 xs))
    (follow-run {out = out || (accepted (step b x).0 && drains delay e x)} {b = (step b x).1} xs (all_tail typed x xs t) m.1 (follow-step f x (all_head typed x xs t) m.0))

-- what calls hand out under its hash
promote-run : {delay : ℕ} {e : Entry} {out : Bool} {b : Box} (xs : List Call) → all typed xs ≡ true → removes_hash e.hash b xs ≡ false
    → Follows delay e out b → with_hash e.hash (promoted_in b xs) ≡ pick (not out && drains_from (e.born + delay) b xs) (e ∷ []) []
unfolding promoted_in any_accepted keep
promote-run {delay} {e} {out} {b} [] t n f = rw (and-false (not out))
promote-run {delay} {e} {out} {b} (x ∷ xs) t n f =
    let m = or-false (accepted (step b x).0 && removes e x) (removes_hash e.hash (step b x).1 xs) n in
    let rest = promote-run {out = out || (accepted (step b x).0 && drains delay e x)} {b = (step b x).1} xs (all_tail typed x xs t) m.1 (follow-step f x (all_head typed x xs t) m.0) in
    keep_append (λ y. eqb y.hash e.hash) (promoted_by b x) (promoted_in (step b x).1 xs)
    ∙ rw (call-promotes f x, rest) (go (accepted (step b x).0) (drains delay e x) out (drains_from (e.born + delay) (step b x).1 xs))
  where
    go : (ok d o r : Bool) → pick (ok && d && not o) (e ∷ []) [] ++ pick (not (o || (ok && d)) && r) (e ∷ []) [] ≡ pick (not o && ((ok && d) || r)) (e ∷ []) []
    go true true true r = refl
    go true true false r = refl
    go true false true r = refl
    go true false false r = refl
    go false d true r = refl
    go false d false r = refl

-- ---- from the insert on
-- a call that inserts is a delta, and no drain
undrained : {e : Entry} (x : Call) → Among e (inserts_of x) → round_of x ≡ none
unfolding round_of lent_delta
undrained allocate m = refl
undrained (batch words) m = refl
undrained (batch_records ts) m = refl
undrained (delta id wide inserts removes items) m = refl
undrained (drain round out) m = elim m [ ]
undrained (get idx) m = refl
undrained (shrink saved) m = refl
undrained (adjust saved) m = refl
undrained measure m = refl
undrained (serialize out) m = refl
undrained (lookup key) m = refl
undrained (locate key) m = refl
undrained (listing out) m = refl

module _ {delay : ℕ} {e : Entry} {b : Box} (h : Held delay b) where
  track-inserted : (x : Call) → (step b x).0 ≡ Taken → Among e (inserts_of x) → removes e x ≡ false → Tracked e false (nursery_after delay x h.state)
  unfolding lent_delta step nursery_after
  track-inserted allocate a m n = elim m [ ]
  track-inserted (batch words) a m n = elim m [ ]
  track-inserted (batch_records ts) a m n = elim m [ ]
  track-inserted (delta id wide inserts removes items) a m n =
      let d = delta-taken h.held wide inserts removes items a in
      rw d.spelled (track-new e d.change h.state d.accepted.new (rw d.spelled at n) h.held.well.hashes h.held.well.ties (rw d.spelled at m))
  track-inserted (drain round out) a m n = elim m [ ]
  track-inserted (get idx) a m n = elim m [ ]
  track-inserted (shrink saved) a m n = elim m [ ]
  track-inserted (adjust saved) a m n = elim m [ ]
  track-inserted measure a m n = elim m [ ]
  track-inserted (serialize out) a m n = elim m [ ]
  track-inserted (lookup key) a m n = elim m [ ]
  track-inserted (locate key) a m n = elim m [ ]
  track-inserted (listing out) a m n = elim m [ ]

  follow-insert : (x : Call) → typed x ≡ true → (step b x).0 ≡ Taken → Among e (inserts_of x) → removes e x ≡ false → Follows delay e false (step b x).1
  unfolding accepted
  follow-insert x t a m n = record { held = held-taken h x t (rw a); tracked = track-inserted x a m n }

-- ---- the bytes that a drain writes
module _ {delay : ℕ} {b : Box} (h : Held delay b) (round : ℕ) (out : List ℕ) where
  bs : List ℕ
  bs = drain_bytes delay round h.state

  abbrev draining : List ℕ → Bool → DrainedOut
  draining y full = drained_out b.nursery b.waiting y (refuse_if full OutputFull >> taken bs) (drained delay round h.state)

  fits : accepted (step b (drain round (length out))).0 ≡ not (ltb (length out) (length bs))
  unfolding step accepted fitting drained_out bs
  fits =
      ap (λ (y : DrainedOut). accepted y.result.answer) (drain-outcome h.held round (zeros (length out)))
      ∙ rw (length-replicate {A = ℕ} (length out) 0) (go (ltb (length out) (length bs)))
    where
      go : (full : Bool) → accepted (draining (zeros (length out)) full).result.answer ≡ not full
      go true = refl
      go false = refl

  handed : promoted_by b (drain round (length out)) ≡ pick (accepted (step b (drain round (length out))).0) (promoted delay round h.state) []
  unfolding promoted_by round_of
  handed =
      ap₂ (λ (d : ℕ) (s : State). pick (accepted (step b (drain round (length out))).0) (promoted d round s) []) (delay-same h.held) (nursery-state h.held)

  writes : let written = flat promoted_bytes (promoted_by b (drain round (length out))) in
      ((drain_into b round out).result.len ≡ length written) × ((drain_into b round out).out ≡ overlay written out)
  unfolding fitting drained_out overlay drain_bytes flat bs
  writes = rw (drain-outcome h.held round out, handed, fits) (go (ltb (length out) (length bs)))
    where
      go : (full : Bool) → let written = flat promoted_bytes (pick (not full) (promoted delay round h.state) []) in
          ((draining out full).result.len ≡ length written) × ((draining out full).out ≡ overlay written out)
      go true = (refl, refl)
      go false = (refl, refl)

-- ---- the claim
module _ {e : Entry} {b : Box} {x : Call} {xs : List Call} (i : Inserted e b x xs) where
  stays : ((accepted (step b x).0 && removes e x) ≡ false) × (removes_hash e.hash (step b x).1 xs ≡ false)
  unfolding any_accepted
  stays = or-false (accepted (step b x).0 && removes e x) (removes_hash e.hash (step b x).1 xs) i.stays

  begins : Follows b.nursery.delay e false (step b x).1
  unfolding accepted
  begins = follow-insert (state-held i.state) x (all_head typed x xs i.arguments) i.taken i.inserts (rw i.taken at stays.0)

  -- the insert is no drain
  since : drains_from (due_from b e) b (x ∷ xs) ≡ drains_from (due_from b e) (step b x).1 xs
  unfolding any_accepted
  since = rw (undrained x i.inserts, and-false (accepted (step b x).0))

  follows : Follows b.nursery.delay e (drains_from (due_from b e) b (x ∷ xs)) (run b (x ∷ xs))
  unfolding run
  follows = rw since (follow-run xs (all_tail typed x xs i.arguments) stays.1 begins)

  abbrev now : Box
  now = run b (x ∷ xs)

  whole : (round out : ℕ) → with_hash e.hash (promoted_by now (drain round out)) ≡ pick (promotes e b (x ∷ xs) round out) (e ∷ []) []
  unfolding round_of
  whole round out = call-promotes follows (drain round out)

  earlier : (round out : ℕ) → round < due_from b e → with_hash e.hash (promoted_by now (drain round out)) ≡ []
  earlier round out l = whole round out ∙ rw (lt-leb (due_from b e) round l, and-false (accepted (step now (drain round out)).0))

  together : with_hash e.hash (promoted_in b (x ∷ xs)) ≡ pick (drains_from (due_from b e) b (x ∷ xs)) (e ∷ []) []
  unfolding promoted_in promoted_by
  together = rw (undrained x i.inserts, since) (promote-run xs (all_tail typed x xs i.arguments) stays.1 begins)

  once : PromotedOnce e b (x ∷ xs)
  unfolding accepted promoted_by round_of
  once =
      record {
        whole = whole;
        first = λ round out a l n. whole round out ∙ rw (a, le-leb (due_from b e) round l, n);
        later = λ round out n. whole round out ∙ rw (n, and-false (accepted (step now (drain round out)).0 && leb (due_from b e) round));
        earlier = earlier;
        refused = λ round out a. (rw a, refused-same now follows.held.held (drain round out) a);
        never = λ l round out u. earlier round out (omega arith);
        together = together;
        bytes = writes follows.held;
      }

pub promotion : Promotion
unfolding promoted_by round_of promoted keep
promotion = record { made_holds = made_holds; rebuilt-holds = rebuilt-holds; called-holds = called-holds; once = λ e b x xs i. once i; absent = λ h b a round out. go h b a round (accepted (step b (drain round out)).0) }
  where
    go : (h : ℕ) (b : Box) → elem h (map (λ e. e.hash) (nursery_of b).entries) ≡ false → (round : ℕ) (ok : Bool) → with_hash h (pick ok (promoted b.nursery.delay round (nursery_of b)) []) ≡ []
    go h b a round true = named-absent h (nursery_of b).entries a (keep (due b.nursery.delay round) (nursery_of b).waiting)
    go h b a round false = refl
