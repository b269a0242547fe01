-- `journal_read::read_records`. The loop's invariant: the tables hold a state from which the rest of the journal leads to the end that is wanted.
-- The measure is what is left of the journal's bytes. Assumes nothing.
use mathlib.Core.Path.{◌≡◌, refl}
use mathlib.Core.List.{List}
use Prim.Native.Nat.{ℕ, ◌-◌, ◌<◌}
use native.Mathlib.Omega.{arith}
use lib.ListN.{length, take, drop}
use Rattle.std.specs.Prelude.{Ok, Err}
use Rattle.slices.specs.ByteLaws.{U8}
use Rattle.cell_nursery.specs.declared.Nursery.{Nursery}
use Rattle.cell_nursery.specs.Held.{U64}
use Rattle.journal_read.specs.declared.Step.{Step}
use Rattle.base.specs.Answers.{Refused}
use Rattle.journal_read.specs.Reading.{StepAnswer, as_step, stepped, told, record_call}
use Rattle.journal_read.specs.ReadLaws.{told-taken, told-refused, Reading, Applied, advanced, stopped, finished}
use Rattle.journal_read.proofs.read_records.Goals as goal

-- the record at hand was applied
turn : {s es₀ ws₀ cs₀ es ws cs es' ws' cs' : List ℕ} {r₀ r : Nursery} {applied place : ℕ} {q : Step} → Reading s r₀ es₀ ws₀ cs₀ r es ws cs applied place
    → place < length s → U8 s → stepped (as_step r (Ok q)) es' ws' cs' ≡ told (record_call r es ws cs (take (length s - place) (drop place s))) → U64 es' → U64 ws'
    → Applied s r₀ es₀ ws₀ cs₀ q.nursery q.len es' ws' cs' applied place
turn {s} {es₀} {ws₀} {cs₀} {es} {ws} {cs} {es'} {ws'} {cs'} {r₀} {r} {applied} {place} {q} x more u e v w =
    let all = told-taken q.nursery q.len es' ws' cs' (record_call r es ws cs (take (length s - place) (drop place s))) e in
    advanced s r₀ es₀ ws₀ cs₀ r es ws cs applied place x more u (as_step r (Ok q)) es' ws' cs' all v w refl

pub loop-place-init : goal.loop-place-init
loop-place-init c =
    record {
      u64_es = λ i. (c.type_inv.es i).fits;
      u64_ws = λ i. (c.type_inv.ws i).fits;
      holding = c.requires;
      same_delay = refl;
      size-es = refl;
      size-ws = refl;
      size-cs = refl;
      inside = omega arith;
      counted = omega arith;
      leads = refl;
    }

pub overflow_add-place : goal.overflow_add-place
overflow_add-place c =
    let size = c.well_formed in
    let t = turn c.loop-place.invariant (omega (arith, c.loop-place.invariant.inside, c.if-place-s.false)) (λ i. (c.type_inv.s i).fits) c.in-Ok.ensures (λ i. (c.type_inv.es i).fits) (λ i. (c.type_inv.ws i).fits) in
    omega (arith, t.next.inside)

pub loop-place-smaller : goal.loop-place-smaller
loop-place-smaller c =
    let t = turn c.loop-place.invariant (omega (arith, c.loop-place.invariant.inside, c.if-place-s.false)) (λ i. (c.type_inv.s i).fits) c.in-Ok.ensures (λ i. (c.type_inv.es i).fits) (λ i. (c.type_inv.ws i).fits) in
    omega (arith, t.some, t.next.inside)

pub loop-place-preserved : goal.loop-place-preserved
loop-place-preserved c =
    let t = turn c.loop-place.invariant (omega (arith, c.loop-place.invariant.inside, c.if-place-s.false)) (λ i. (c.type_inv.s i).fits) c.in-Ok.ensures (λ i. (c.type_inv.es i).fits) (λ i. (c.type_inv.ws i).fits) in
    t.next

pub returns-in-Err : goal.returns-in-Err
returns-in-Err c =
    let a = c.args in
    let l = c.loop-place in
    let q = c.apply_record in
    let did = record_call l.nursery l.es l.ws l.cs (take (length a.s.now - l.place) (drop l.place a.s.now)) in
    let step : StepAnswer = record { answer = Refused c.in-Err.why; nursery = l.nursery; len = did.result.len } in
    let all = told-refused c.in-Err.why l.nursery q.new.es q.new.ws q.new.cs did c.in-Err.ensures in
    stopped a.s.now a.r a.es.now a.ws.now a.cs.now l.nursery l.es l.ws l.cs l.applied l.place l.invariant (omega (arith, c.loop-place.invariant.inside, c.if-place-s.false)) (λ i. (c.type_inv.s i).fits)
    step q.new.es q.new.ws q.new.cs all c.in-Err.why refl

pub returns-then-place-s : goal.returns-then-place-s
returns-then-place-s c =
    let a = c.args in
    let l = c.loop-place in
    let e : l.place ≡ length a.s.now = c.if-place-s.true in
    rw e (finished a.s.now a.r a.es.now a.ws.now a.cs.now l.nursery l.es l.ws l.cs l.applied l.place l.invariant e)
