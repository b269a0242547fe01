-- No call reads an output. So its length alone counts: two outputs of one length get the same answer and the same bytes, and leave the same box.
-- A snapshot, a listing and a record are the same in every output that is long enough, and nothing behind them is touched.
-- Assumes nothing.
use Rattle.std.specs.Prelude.{◌≡◌, Bool, true, not, ◌&&◌, take, drop, ltb}
use Rattle.std.proofs.Math.Path.{refl, sym}
use Rattle.std.proofs.Common.{◌∙◌, arith, le-ltb}
use Rattle.std.proofs.Math.Bool.{false}
use Rattle.std.proofs.Math.Option.{Option, none, some}
use mathlib.Core.List.{List, []}
use Prim.Native.Nat.{ℕ, ◌≤◌}
use Rattle.std.proofs.Math.ListN.{length}
use Rattle.std.proofs.lemmas.List.{length-replicate}
use Rattle.std.proofs.Math.Seq.{take_at}
use Rattle.base.specs.Logic.{pick, zeros, overlay}
use Rattle.base.specs.Answers.{Outcome, refused, taken, ◌>>=◌, ◌>>◌, refuse_if, or_refuse, either, value_or}
use Rattle.base.specs.Maybe.{maybe}
use Rattle.base.specs.Output.{fitting, put, written}
use Rattle.base.specs.declared.Refusal.TheVariants.{TooLong, OutputFull, Broken, BadSetting}
use Rattle.blake3.specs.Mode.{Mode, bad_key, hash_by}
use Rattle.counters.specs.Layout as counters
use Rattle.counters.specs.Calls.{on_state}
use Rattle.snapshot.specs.Write.{snapshot_bytes}
use Rattle.snapshot.specs.Calls.{serialize_call}
use Rattle.cell_nursery.specs.declared.Nursery.{Nursery}
use Rattle.cell_nursery.specs.Entries.{State}
use Rattle.cell_nursery.specs.Items.{Delta, delta_of}
use Rattle.cell_nursery.specs.Delta.{too_long}
use Rattle.cell_nursery.specs.Drain.{drained, drain_bytes, listing_bytes}
use Rattle.cell_nursery.specs.Layout as nursery
use Rattle.cell_nursery.specs.Calls as nursery-calls
use Rattle.cell_nursery.specs.Calls.{length_width, DrainedOut, drained_out, drain_call, listing_call}
use Rattle.format.specs.Payload.{payload_bytes}
use Rattle.format.specs.Record.{Encoding, record_bytes, stats_of, encode}
use Rattle.format.specs.Calls.{EncodedOut, encoded_out, encode_call, encode_under}
use Rattle.node_box.specs.Box.{Box, drain, serialize, listing, drain_into, serialize_into, listing_into, with_nursery, step, nursery_of, given, snapshot_of, listing_of}
use Rattle.node_box.specs.Journal.{encoded}

-- ---- bytes, or a refusal, into an output
-- the bytes, none where it is refused
abbrev bytes_of : Outcome (List ℕ) → List ℕ
bytes_of o = value_or [] o

-- into an output that is long enough: they are given, written over its start, and what lies behind them stays
pub written-whole : (o : Outcome (List ℕ)) (out : List ℕ) → length (bytes_of o) ≤ length out → (given (written out o) ≡ bytes_of o) × ((written out o).out ≡ overlay (bytes_of o) out)
unfolding given written put fitting overlay
written-whole (refused r) out l = (refl, refl)
written-whole (taken bs) out l = rw (le-ltb (length out) (length bs) l) (take_at bs (drop (length bs) out) (length bs) refl, refl)

-- the result follows from the output's length
pub written-length : (o : Outcome (List ℕ)) (out out' : List ℕ) → length out ≡ length out' → (written out o).result ≡ (written out' o).result
unfolding written put
written-length o out out' e = rw e (go (fitting (length out') o))
  where
    go : (p : Outcome (List ℕ)) → (put out p).result ≡ (put out' p).result
    go (refused r) = refl
    go (taken bs) = refl

-- the same of a drain: what it wrote
abbrev pub drained_bytes : DrainedOut → List ℕ
drained_bytes d = take d.result.len d.out

module _ (r : Nursery) (ws : List ℕ) where
  drained-length : (out out' : List ℕ) (o : Outcome (List ℕ)) (s : State) → let d = drained_out r ws out o s in let d' = drained_out r ws out' o s in
      (d.result ≡ d'.result) × (d.waiting ≡ d'.waiting) × (drained_bytes d ≡ drained_bytes d')
  unfolding drained_out overlay
  drained-length out out' (refused q) s = (refl, refl, refl)
  drained-length out out' (taken bs) s = (refl, refl, take_at bs (drop (length bs) out) (length bs) refl ∙ sym (take_at bs (drop (length bs) out') (length bs) refl))

  drained-behind : (out : List ℕ) (o : Outcome (List ℕ)) (s : State) → let d = drained_out r ws out o s in d.out ≡ overlay (drained_bytes d) out
  unfolding drained_out overlay
  drained-behind out (refused q) s = refl
  drained-behind out (taken bs) s = rw (take_at bs (drop (length bs) out) (length bs) refl)

-- an output of zeros is as good as any
zeros-length : (out : List ℕ) → length (zeros (length out)) ≡ length out
zeros-length out = length-replicate {A = ℕ} (length out) 0

module _ (b : Box) where
  -- ---- the snapshot
  abbrev snapshotting : Outcome (List ℕ)
  snapshotting = on_state b.counters b.counts (λ s. taken (snapshot_bytes s))

  snapshot-bytes : snapshot_of b ≡ bytes_of snapshotting
  unfolding snapshot_of serialize_call on_state
  snapshot-bytes = (written-whole snapshotting (zeros n) (rw (length-replicate {A = ℕ} n 0) (go (counters.holds b.counters b.counts)))).0
    where
      n : ℕ
      n = length (snapshot_bytes (counters.state_of b.counters b.counts))

      go : (ok : Bool) → length (bytes_of (refuse_if (not ok) Broken >> taken (snapshot_bytes (counters.state_of b.counters b.counts)))) ≤ n
      go true = omega arith
      go false = omega arith

  -- it is the same into every output that is long enough, over its start
  pub snapshot-whole : (out : List ℕ) → length (snapshot_of b) ≤ length out
      → (given (serialize_into b out) ≡ snapshot_of b) × ((serialize_into b out).out ≡ overlay (snapshot_of b) out)
  unfolding serialize_call
  snapshot-whole out = rw snapshot-bytes (written-whole snapshotting out)

  -- the call's result is that of any output of the same length, and so is the step
  pub serialize-length : (out out' : List ℕ) → length out ≡ length out' → (serialize_into b out).result ≡ (serialize_into b out').result
  unfolding serialize_call
  serialize-length out out' e = written-length snapshotting out out' e

  pub serialize-step : (out : List ℕ) → step b (serialize (length out)) ≡ ((serialize_into b out).result.answer, b)
  unfolding step
  serialize-step out = rw (serialize-length (zeros (length out)) out (zeros-length out))

  -- ---- the listing
  abbrev listed : Outcome (List ℕ)
  listed =
      refuse_if (not (nursery.holds_entries b.nursery b.entries && nursery.holds_cells b.nursery b.cells)) Broken
      >> taken (listing_bytes (nursery.entries_of b.nursery.entries b.entries b.cells))

  listing-bytes : listing_of b ≡ bytes_of listed
  unfolding listing_of listing_call nursery.state_of
  listing-bytes = (written-whole listed (zeros n) (rw (length-replicate {A = ℕ} n 0) (go (nursery.holds_entries b.nursery b.entries && nursery.holds_cells b.nursery b.cells)))).0
    where
      bs : List ℕ
      bs = listing_bytes (nursery.entries_of b.nursery.entries b.entries b.cells)

      n : ℕ
      n = length bs

      go : (ok : Bool) → length (bytes_of (refuse_if (not ok) Broken >> taken bs)) ≤ n
      go true = omega arith
      go false = omega arith

  pub listing-whole : (out : List ℕ) → length (listing_of b) ≤ length out
      → (given (listing_into b out) ≡ listing_of b) × ((listing_into b out).out ≡ overlay (listing_of b) out)
  unfolding listing_call
  listing-whole out = rw listing-bytes (written-whole listed out)

  pub listing-length : (out out' : List ℕ) → length out ≡ length out' → (listing_into b out).result ≡ (listing_into b out').result
  unfolding listing_call
  listing-length out out' e = written-length listed out out' e

  pub listing_step : (out : List ℕ) → step b (listing (length out)) ≡ ((listing_into b out).result.answer, b)
  unfolding step
  listing_step out = rw (listing-length (zeros (length out)) out (zeros-length out))

  -- ---- a drain
  -- what is handed out into an output of a length, and the state after it
  abbrev handed : ℕ → ℕ → Outcome (List ℕ)
  handed round len = fitting len (nursery-calls.on_state b.nursery b.entries b.waiting b.cells (λ s. taken (drain_bytes b.nursery.delay round s)))

  abbrev after : ℕ → State
  after round = drained b.nursery.delay round (nursery_of b)

  -- of two outputs of one length: one result, one waiting table, the same bytes
  pub drain-length : (round : ℕ) (out out' : List ℕ) → length out ≡ length out'
      → ((drain_into b round out).result ≡ (drain_into b round out').result) × ((drain_into b round out).waiting ≡ (drain_into b round out').waiting)
      × (drained_bytes (drain_into b round out) ≡ drained_bytes (drain_into b round out'))
  unfolding drain_call
  drain-length round out out' e = rw e (drained-length b.nursery b.waiting out out' (handed round (length out')) (after round))

  -- behind what it wrote the output stays
  pub drain-behind : (round : ℕ) (out : List ℕ) → (drain_into b round out).out ≡ overlay (drained_bytes (drain_into b round out)) out
  unfolding drain_call
  drain-behind round out = drained-behind b.nursery b.waiting out (handed round (length out)) (after round)

  pub drain-step : (round : ℕ) (out : List ℕ)
      → let d = drain_into b round out in step b (drain round (length out)) ≡ (d.result.answer, with_nursery b d.result.nursery b.entries d.waiting b.cells)
  unfolding step
  drain-step round out = let e = drain-length round (zeros (length out)) out (zeros-length out) in rw (e.0, e.1)

-- ---- a record of the journal
-- what encoding wrote
abbrev pub encoded_bytes : EncodedOut → List ℕ
encoded_bytes e = take e.result.len e.out

-- a record's bytes into an output, or nothing
abbrev fitted : List ℕ → Encoding → Outcome Encoding
fitted out e = refuse_if (ltb (length out) (length e.bytes)) OutputFull >> taken e

abbrev record_of : Outcome Encoding → List ℕ
record_of o = either (λ r. []) (λ e. e.bytes) o

fitted-whole : (o : Outcome Encoding) (out : List ℕ) → length (record_of o) ≤ length out
    → let e = encoded_out out (o >>= fitted out) in (encoded_bytes e ≡ record_of o) × (e.out ≡ overlay (record_of o) out)
unfolding encoded_out overlay
fitted-whole (refused r) out l = (refl, refl)
fitted-whole (taken e) out l = let bs = e.bytes in rw (le-ltb (length out) (length bs) l) (take_at bs (drop (length bs) out) (length bs) refl, refl)

module _ (hash : List ℕ → List ℕ) (id : ℕ) where
  abbrev encoding : List ℕ → Option Delta → EncodedOut
  encoding out o = encoded_out out (or_refuse Broken o >>= (λ d. encode hash id d >>= fitted out))

  abbrev room : Option Delta → List ℕ
  room o = zeros (maybe 0 (λ d. length (record_bytes hash id d)) o)

  room-enough : (d : Delta) → length (record_of (encode hash id d)) ≤ length (room (some d))
  unfolding encode
  room-enough d = rw (length-replicate {A = ℕ} n 0) (go (too_long d))
    where
      n : ℕ
      n = length (record_bytes hash id d)

      go : (long : Bool) → length (record_of (refuse_if long TooLong >> taken (record { bytes = record_bytes hash id d; stats = stats_of (length (payload_bytes id d)) d }))) ≤ n
      go true = omega arith
      go false = omega arith

  encoding-whole : (o : Option Delta) (out : List ℕ) → length (encoded_bytes (encoding (room o) o)) ≤ length out
      → (encoded_bytes (encoding out o) ≡ encoded_bytes (encoding (room o) o)) × ((encoding out o).out ≡ overlay (encoded_bytes (encoding (room o) o)) out)
  encoding-whole none out l = unfold encoded_out overlay in (refl, refl)
  encoding-whole (some d) out l = let e = (fitted-whole (encode hash id d) (room (some d)) (room-enough d)).0 in rw e (fitted-whole (encode hash id d) out (rw e at l))

-- in any mode it is the same in every output that is long enough, over its start
pub encoded-whole : (m : Mode) (id : ℕ) (wide : Bool) (inserts removes : ℕ) (items out : List ℕ) → length (encoded m id wide inserts removes items) ≤ length out
    → let e = encode_under m id wide inserts removes items out in
    (encoded_bytes e ≡ encoded m id wide inserts removes items) × (e.out ≡ overlay (encoded m id wide inserts removes items) out)
unfolding encoded encode_under encode_call
encoded-whole m id wide inserts removes items out = go (bad_key m)
  where
    delta : Option Delta
    delta = delta_of (length_width wide) inserts removes items

    under : Bool → List ℕ → EncodedOut
    under bad y = pick bad (encoded_out y (refused BadSetting)) (encoding (hash_by m) id y delta)

    go : (bad : Bool) → let bs = encoded_bytes (under bad (room (hash_by m) id delta)) in
        length bs ≤ length out → (encoded_bytes (under bad out) ≡ bs) × ((under bad out).out ≡ overlay bs out)
    go true l = unfold encoded_out overlay in (refl, refl)
    go false l = encoding-whole (hash_by m) id delta out l
