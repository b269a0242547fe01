-- What the reading of a journal of any bytes leaves: a state that the tables can hold, in which every entry waits.
-- Assumes nothing.
use Rattle.std.specs.Prelude.{◌≡◌, true, List, [], ℕ, ◌+◌, ◌-◌, length, take, drop}
use Rattle.std.proofs.Common.{sym, subst, arith}
use Rattle.std.proofs.Math.Dec.{ltb}
use Rattle.base.specs.Answers.{taken, Taken}
use Rattle.base.specs.ListLaws.{all_take, all_drop}
use Rattle.cell_nursery.specs.Entries.{State, empty}
use Rattle.cell_nursery.specs.Delta.{Room}
use Rattle.cell_nursery.proofs.WaitLaws.{Waits, waits-empty, waits-after, none-gone}
use Rattle.cell_nursery.specs.Layout.{room_of, holds}
use Rattle.cell_nursery.proofs.LayoutLaws.{holds-laid}
use Rattle.cell_nursery.specs.Held.{WellFormed}
use Rattle.cell_nursery.proofs.EntryLaws.{well-empty, well-after, InRoom, room-empty, room_after}
use Rattle.cell_nursery.specs.Calls.{laid}
use Rattle.format.specs.Record.{Decoding, decode}
use Rattle.format.proofs.TakenLaws.{taken-lent}
use Rattle.journal.specs.Journal.{apply_record, read_journal, ReadIn, read_out, read_call}
use Rattle.journal.proofs.ReadLaws.{record-taken, records-ends, read_taken}
use Rattle.base.specs.SpellLaws.{Bytes}
use Rattle.journal_laws.specs.DeltaLaws.{Read, delta-read, delta-fits, taken-accepted}

-- the delta of a record was read from bytes
pub decode-read : (hash : List ℕ → List ℕ) (bs : List ℕ) (x : Decoding) → Bytes bs → decode hash bs ≡ taken x → Read x.stats.insert_ops x.stats.remove_ops x.delta
decode-read hash bs x b e =
    let n : ℕ = x.stats.payload_bytes in
    delta-read 2 _ _ (take (n - 16) (drop 56 bs)) x.delta (all_take (λ y. ltb y 256) (n - 16) (drop 56 bs) (all_drop (λ y. ltb y 256) 56 bs b)) (taken-lent hash bs x e).items

-- ---- the states of a reading
pub record Loaded (m : Room) (s : State) : Type 0 where
  pub well : WellFormed s
  pub room : InRoom m.entries m.cells s
  pub waits : Waits [] s

module _ (hash : List ℕ → List ℕ) (m : Room) where
  loaded-after : (s t : State) (n : ℕ) (bs : List ℕ) → Bytes bs → apply_record hash m s bs ≡ taken (t, n) → Loaded m s → Loaded m t
  loaded-after s t n bs b e l =
      let (d, i, f, g) = (record-taken hash m s bs t n).0 e in
      let (ok, same) = taken-accepted m s d.delta t f in
      let fits = delta-fits 0 _ _ d.delta (omega arith) (decode-read hash bs d b i) ok.short in
      rw same
      (record {
        well = well-after d.delta s fits.inserts ok.new l.well;
        room = room_after m d.delta s ok.fits;
        waits = rw (none-gone d.delta.removes) at (waits-after [] d.delta s ok.new l.waits);
      })

  -- whatever ends it
  pub journal-loaded : (bs : List ℕ) → Bytes bs → Loaded m (read_journal hash m bs).state
  unfolding read_journal
  journal-loaded bs b =
      let fresh : Loaded m empty = record { well = well-empty; room = room-empty m.entries m.cells; waits = waits-empty } in
      (records-ends (apply_record hash m) (λ s records place rest. Loaded m s × Bytes rest)
      (λ s t n records place rest p e. (loaded-after s t n rest p.1 e p.0, all_drop (λ y. ltb y 256) (40 + n) rest p.1))
      empty 0 0 bs (fresh, b)).1.0

-- so the record and the tables that a reading leaves hold a state
pub read-holds : (hash : List ℕ → List ℕ) (delay : ℕ) (bs es ws cs : List ℕ) → Bytes bs
    → let c = read_call hash delay bs es ws cs in c.result.answer ≡ Taken → holds c.result.nursery c.entries c.waiting c.cells ≡ true
unfolding read_out laid room_of
read-holds hash delay bs es ws cs b t =
    let r = read_taken hash delay bs es ws cs t in
    let l = journal-loaded hash (room_of es ws cs) bs b in
    subst (λ (c : ReadIn). holds c.result.nursery c.entries c.waiting c.cells ≡ true) (sym r.1)
    (holds-laid (read_journal hash (room_of es ws cs) bs).state (length es) (length ws) (length cs) l.well l.room.rows_fit l.room.bytes_fit delay r.2)
