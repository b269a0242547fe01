-- `journal_convert::rewrite`. The loop's invariant: the outputs, filled with what is ahead, are those that are wanted.
-- The measure is what is left of the journal's bytes. Assumes nothing.
use mathlib.Core.Path.{◌≡◌, refl, sym}
use mathlib.Core.List.{List}
use Prim.Native.Nat.{ℕ, ◌+◌, ◌-◌, ◌≤◌, ◌<◌}
use native.Mathlib.Omega.{arith}
use lib.ListN.{length, take, drop}
use Rattle.std.specs.Prelude.{Result, Ok, Err, IsOk}
use Rattle.base.specs.SpellLaws.{Bytes}
use Rattle.base.specs.Answers.{Taken}
use Rattle.base.specs.AnswerLaws.{not-refused}
use Rattle.base.specs.declared.Refusal.{Refusal}
use Rattle.slices.specs.Laws.{part-lent}
use Rattle.slices.specs.ByteLaws.{u8-bytes}
use Rattle.blake3.specs.Spec.{hash}
use Rattle.blake3.specs.Equations.{length-hash}
use Rattle.format.specs.declared.DecodedRecord.{DecodedRecord}
use Rattle.format.specs.Returned.{as_decoded}
use Rattle.format.specs.Record.{used_bytes, stated_hash}
use Rattle.format.specs.Calls.{parse_call}
use Rattle.journal_convert.specs.declared.Sizes.{Sizes}
use Rattle.journal_convert.specs.Rewriting.{sizes_of}
use Rattle.journal_convert.specs.RecordLaws.{Turn}
use Rattle.journal_convert.specs.PassLaws.{Writing, writing_start, writing-next, stop-known, held-taken, held-turn, kept-room, list-room, rest-room, written, list_written}
use Rattle.journal_convert.proofs.rewrite.Goals as goal

-- what reads as taken was returned
there : (r : Result DecodedRecord Refusal) → (as_decoded r).answer ≡ Taken → IsOk r
there (Ok d) e = refl
there (Err r) e = absurd (not-refused (sym e))

-- the record at hand is one that the first pass took
turn : {s out₀ rows₀ out rows : List ℕ} {z : Sizes} {place at to : ℕ} {r : Result DecodedRecord Refusal} {d : DecodedRecord}
    → Writing hash s out₀ rows₀ out rows place at to → z ≡ sizes_of hash s → place < z.stop → Bytes s
    → as_decoded r ≡ parse_call (stated_hash (take (length s - place) (drop place s))) (take (length s - place) (drop place s)) → r ≡ Ok d
    → Turn hash s place d.stats.payload_bytes (used_bytes d.stats)
turn {s} {z = z} {d = d} x e more b read o = held-turn hash s z e x more (as_decoded (Ok d)) (rw o at read) b

pub loop-place-init : goal.loop-place-init
loop-place-init c =
    writing_start hash c.args.s.now c.args.sizes c.requires.0 c.args.out.now c.args.dropped.now c.requires.1 c.requires.2

pub slice_bounds-parse_record_held-count : goal.slice_bounds-parse_record_held-count
slice_bounds-parse_record_held-count c = omega (arith, c.loop-place.invariant.inside)

pub slice_bounds-parse_record_held-start : goal.slice_bounds-parse_record_held-start
slice_bounds-parse_record_held-start c = omega (arith, c.loop-place.invariant.inside)

pub slice_bounds-parse_record_held-end : goal.slice_bounds-parse_record_held-end
slice_bounds-parse_record_held-end c = omega arith

pub unwrap-d-requires : goal.unwrap-d-requires
unwrap-d-requires c =
    let l = c.loop-place in
    let a = c.args in
    there _ (held-taken hash a.s.now a.sizes c.requires.0 l.invariant c.loop-place-test.true (as_decoded c.parse_record_held.result) c.parse_record_held.ensures)

pub overflow_add-used : goal.overflow_add-used
overflow_add-used c =
    let t = turn c.loop-place.invariant c.requires.0 c.loop-place-test.true (u8-bytes _ (λ i. (c.type_inv.s i).fits)) c.parse_record_held.ensures c.unwrap-d.ensures in
    let size = c.well_formed in
    omega (arith, t.most, t.inside)

pub overflow_add-next : goal.overflow_add-next
overflow_add-next c =
    let t = turn c.loop-place.invariant c.requires.0 c.loop-place-test.true (u8-bytes _ (λ i. (c.type_inv.s i).fits)) c.parse_record_held.ensures c.unwrap-d.ensures in
    let size = c.well_formed in
    omega (arith, t.inside)

pub overflow_add-next-in-loop-place : goal.overflow_add-next-in-loop-place
overflow_add-next-in-loop-place c =
    let t = turn c.loop-place.invariant c.requires.0 c.loop-place-test.true (u8-bytes _ (λ i. (c.type_inv.s i).fits)) c.parse_record_held.ensures c.unwrap-d.ensures in
    let size = c.well_formed in
    omega (arith, t.inside)

pub slice_bounds-write_record-count : goal.slice_bounds-write_record-count
slice_bounds-write_record-count c = omega arith

pub slice_bounds-write_record-start : goal.slice_bounds-write_record-start
slice_bounds-write_record-start c = omega arith

pub slice_bounds-write_record-end : goal.slice_bounds-write_record-end
slice_bounds-write_record-end c =
    let t = turn c.loop-place.invariant c.requires.0 c.loop-place-test.true (u8-bytes _ (λ i. (c.type_inv.s i).fits)) c.parse_record_held.ensures c.unwrap-d.ensures in
    t.inside

pub write_record-requires : goal.write_record-requires
write_record-requires c =
    let t = turn c.loop-place.invariant c.requires.0 c.loop-place-test.true (u8-bytes _ (λ i. (c.type_inv.s i).fits)) c.parse_record_held.ensures c.unwrap-d.ensures in
    let q = c.unwrap-d.result in
    let l = c.loop-place in
    let s = c.args.s.now in
    let n = q.stats.payload_bytes in
    (rw (part-lent s l.place (l.place + (40 + n)) (40 + n) refl) t.kept, kept-room hash s length-hash l.place n (used_bytes q.stats) t l.at (length l.out) l.invariant.bytes.room)

pub overflow_add-used-in-loop-place : goal.overflow_add-used-in-loop-place
overflow_add-used-in-loop-place c =
    let t = turn c.loop-place.invariant c.requires.0 c.loop-place-test.true (u8-bytes _ (λ i. (c.type_inv.s i).fits)) c.parse_record_held.ensures c.unwrap-d.ensures in
    let size = c.well_formed in
    omega (arith, t.most, t.inside)

pub overflow_add-place : goal.overflow_add-place
overflow_add-place c =
    let t = turn c.loop-place.invariant c.requires.0 c.loop-place-test.true (u8-bytes _ (λ i. (c.type_inv.s i).fits)) c.parse_record_held.ensures c.unwrap-d.ensures in
    let size = c.well_formed in
    omega (arith, t.most, t.inside)

pub overflow_sub-n : goal.overflow_sub-n
overflow_sub-n c =
    let t = turn c.loop-place.invariant c.requires.0 c.loop-place-test.true (u8-bytes _ (λ i. (c.type_inv.s i).fits)) c.parse_record_held.ensures c.unwrap-d.ensures in
    omega (arith, t.most)

pub list_dropped-to-requires : goal.list_dropped-to-requires
list_dropped-to-requires c =
    let t = turn c.loop-place.invariant c.requires.0 c.loop-place-test.true (u8-bytes _ (λ i. (c.type_inv.s i).fits)) c.parse_record_held.ensures c.unwrap-d.ensures in
    let q = c.unwrap-d.result in
    let l = c.loop-place in
    list-room hash c.args.s.now length-hash l.place q.stats.payload_bytes (used_bytes q.stats) t l.to (length l.dropped) l.invariant.list.room

pub overflow_add-at : goal.overflow_add-at
overflow_add-at c =
    let t = turn c.loop-place.invariant c.requires.0 c.loop-place-test.true (u8-bytes _ (λ i. (c.type_inv.s i).fits)) c.parse_record_held.ensures c.unwrap-d.ensures in
    let size = c.well_formed in
    omega (arith, t.most, t.inside)

pub overflow_add-at-in-loop-place : goal.overflow_add-at-in-loop-place
overflow_add-at-in-loop-place c =
    let t = turn c.loop-place.invariant c.requires.0 c.loop-place-test.true (u8-bytes _ (λ i. (c.type_inv.s i).fits)) c.parse_record_held.ensures c.unwrap-d.ensures in
    let q = c.unwrap-d.result in
    let l = c.loop-place in
    let size = c.well_formed in
    omega (arith, kept-room hash c.args.s.now length-hash l.place q.stats.payload_bytes (used_bytes q.stats) t l.at (length l.out) l.invariant.bytes.room, l.invariant.bytes.same)

pub loop-place-smaller : goal.loop-place-smaller
loop-place-smaller c =
    let t = turn c.loop-place.invariant c.requires.0 c.loop-place-test.true (u8-bytes _ (λ i. (c.type_inv.s i).fits)) c.parse_record_held.ensures c.unwrap-d.ensures in
    omega (arith, t.inside)

pub loop-place-preserved : goal.loop-place-preserved
loop-place-preserved c =
    let t = turn c.loop-place.invariant c.requires.0 c.loop-place-test.true (u8-bytes _ (λ i. (c.type_inv.s i).fits)) c.parse_record_held.ensures c.unwrap-d.ensures in
    let q = c.unwrap-d.result in
    let l = c.loop-place in
    let a = c.args in
    let n = q.stats.payload_bytes in
    let w = c.write_record in
    let d = c.list_dropped-to in
    rw d.ensures.0
    (writing-next hash a.s.now length-hash l.place n (used_bytes q.stats) t a.out.now a.dropped.now l.out l.dropped w.new.out d.new.dropped l.at l.to l.invariant
    (rw (part-lent a.s.now l.place (l.place + (40 + n)) (40 + n) refl) at w.ensures) d.ensures.1)

pub slice_bounds-copy_at-count : goal.slice_bounds-copy_at-count
slice_bounds-copy_at-count c = omega (arith, c.loop-place.invariant.inside)

pub slice_bounds-copy_at-start : goal.slice_bounds-copy_at-start
slice_bounds-copy_at-start c = omega (arith, c.loop-place.invariant.inside)

pub slice_bounds-copy_at-end : goal.slice_bounds-copy_at-end
slice_bounds-copy_at-end c = omega arith

pub copy_at-requires : goal.copy_at-requires
copy_at-requires c =
    let l = c.loop-place in
    let a = c.args in
    rest-room hash a.s.now a.out.now a.dropped.now l.out l.dropped l.place l.at l.to a.sizes.stop l.invariant (stop-known hash a.s.now a.sizes c.requires.0) (omega (arith, c.loop-place-test))

pub returns : goal.returns
returns c =
    let l = c.loop-place in
    let a = c.args in
    let stop = stop-known hash a.s.now a.sizes c.requires.0 in
    let past : a.sizes.stop ≤ l.place = omega (arith, c.loop-place-test) in (
      written hash a.s.now a.out.now a.dropped.now l.out l.dropped l.place l.at l.to a.sizes.stop l.invariant stop past c.copy_at.new.out c.copy_at.ensures,
      list_written hash a.s.now a.out.now a.dropped.now l.out l.dropped l.place l.at l.to a.sizes.stop l.invariant stop past,
    )
