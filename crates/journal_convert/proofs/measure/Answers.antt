-- `journal_convert::measure`. The loop's invariant: what is measured and what is ahead make the sizes that are wanted.
-- The measure is what is left of the journal's bytes. Assumes nothing.
use mathlib.Core.Path.{◌≡◌, refl, ap}
use mathlib.Core.List.{List}
use Prim.Native.Nat.{ℕ, ◌+◌, ◌-◌}
use native.Mathlib.Omega.{arith}
use lib.ListN.{length, take, drop}
use Rattle.std.specs.Prelude.{Ok, Err}
use Rattle.base.specs.SpellLaws.{Bytes}
use Rattle.slices.specs.ByteLaws.{u8-bytes}
use Rattle.blake3.specs.Spec.{hash}
use Rattle.blake3.specs.Equations.{length-hash}
use Rattle.format.specs.declared.DecodedRecord.{DecodedRecord}
use Rattle.format.specs.Returned.{as_decoded}
use Rattle.format.specs.Record.{used_bytes}
use Rattle.format.specs.Calls.{parse_call}
use Rattle.journal_convert.specs.Rewriting.{listed}
use Rattle.journal_convert.specs.PutLaws.{listed-none, length-listed}
use Rattle.journal_convert.specs.RecordLaws.{Turn}
use Rattle.journal_convert.specs.PassLaws.{Measuring, measuring-start, measuring-next, measured, taken-turn, refused-there}
use Rattle.journal_convert.proofs.measure.Goals as goal
use Rattle.journal_convert.proofs.measure.Goals.{else-used-n, then-used-n}

-- the record at hand was taken
turn : {s : List ℕ} {place len dropped_len : ℕ} {d : DecodedRecord} → Measuring hash s place len dropped_len → Bytes s
    → as_decoded (Ok d) ≡ parse_call hash (take (length s - place) (drop place s)) → Turn hash s place d.stats.payload_bytes (used_bytes d.stats)
turn {s} {place} {d = d} x b read = taken-turn hash s place x.inside (as_decoded (Ok d)) read b refl

pub loop-d-init : goal.loop-d-init
loop-d-init c = measuring-start hash c.args.s.now

pub overflow_add-used : goal.overflow_add-used
overflow_add-used c =
    let size = c.well_formed in
    let t = turn c.loop-d.invariant (u8-bytes _ (λ i. (c.type_inv.s i).fits)) c.in-Ok.ensures in
    omega (arith, t.most, t.inside)

pub overflow_add-len : goal.overflow_add-len
overflow_add-len c =
    let size = c.well_formed in
    let t = turn c.loop-d.invariant (u8-bytes _ (λ i. (c.type_inv.s i).fits)) c.in-Ok.ensures in
    omega (arith, t.most, t.inside)

pub overflow_add-len-in-Ok : goal.overflow_add-len-in-Ok
overflow_add-len-in-Ok c =
    let size = c.well_formed in
    let t = turn c.loop-d.invariant (u8-bytes _ (λ i. (c.type_inv.s i).fits)) c.in-Ok.ensures in
    omega (arith, c.loop-d.invariant.short, t.most, t.inside)

pub overflow_add-place : goal.overflow_add-place
overflow_add-place c =
    let size = c.well_formed in
    let t = turn c.loop-d.invariant (u8-bytes _ (λ i. (c.type_inv.s i).fits)) c.in-Ok.ensures in
    omega (arith, t.inside)

pub overflow_add-place-in-Ok : goal.overflow_add-place-in-Ok
overflow_add-place-in-Ok c =
    let size = c.well_formed in
    let t = turn c.loop-d.invariant (u8-bytes _ (λ i. (c.type_inv.s i).fits)) c.in-Ok.ensures in
    omega (arith, t.inside)

pub loop-d-smaller : goal.loop-d-smaller
loop-d-smaller c =
    let t = turn c.loop-d.invariant (u8-bytes _ (λ i. (c.type_inv.s i).fits)) c.in-Ok.ensures in
    omega (arith, t.inside)

pub loop-d-preserved : goal.loop-d-preserved
loop-d-preserved c =
    let d = c.in-Ok.d in
    let l = c.loop-d in
    let t = turn l.invariant (u8-bytes _ (λ i. (c.type_inv.s i).fits)) c.in-Ok.ensures in
    let at = l.place + (40 + used_bytes d.stats) in
    let left = d.stats.payload_bytes - used_bytes d.stats in
    let counted : c.if-used-n.dropped_len ≡ l.dropped_len + length (listed at left) =
    elim c.if-used-n.branch [ then-used-n w ↦ omega (arith, w.dropped_len-is, length-listed at left (omega (arith, w.if-used-n.true))) | else-used-n w ↦ omega (arith, w.dropped_len-is, ap length (listed-none at left (omega (arith, w.if-used-n.false)))) ] in
    measuring-next hash c.args.s.now length-hash l.place d.stats.payload_bytes (used_bytes d.stats) t l.len l.dropped_len c.if-used-n.dropped_len counted l.invariant

pub returns : goal.returns
returns c =
    let l = c.loop-d in
    let s = c.args.s.now in
    let (r, e) = refused-there hash s l.place l.invariant.inside (as_decoded (Err c.in_default.field-0)) c.in_default.ensures c.in_default.field-0 refl in
    measured hash s l.place l.len l.dropped_len r l.invariant e
