-- What encoding answers at each of its tests, and the record in parts.
-- Assumes nothing.
use Rattle.std.specs.Prelude.{◌≡◌, Bool, true, false, List, ◌++◌, ℕ, ◌+◌, ◌-◌, ◌*◌, ◌≤◌, ◌<◌, take, drop, ltb}
use Rattle.std.proofs.Math.Path.{sym}
use Rattle.std.proofs.Common.{ap, ◌∙◌, append_assoc, arith, length-append, length-drop}
use Rattle.std.proofs.Math.ListN.{length}
use borrow.Author.Tests.{lt-ltb, le-ltb, ltb-false}
use Rattle.base.specs.Logic.{flat, max32, overlay}
use Rattle.base.specs.Laws.{length_digits}
use Rattle.base.specs.ListLaws.{or-false}
use Rattle.base.specs.Answers.{Taken}
use Rattle.base.specs.declared.Refusal.TheVariants.{TooLong, OutputFull, Broken}
use Rattle.cell_nursery.specs.Entries.{cell_bytes, hash_bytes, insert_bytes}
use Rattle.cell_nursery.specs.Items.{Delta, item_bytes}
use Rattle.cell_nursery.specs.Delta.{too_long}
use Rattle.cell_nursery.specs.Calls.{length_width}
use Rattle.delta_items.specs.Walk.{inserts_in, inserts_len, long_cell, hashes_in, items_fit, delta_in}
use Rattle.delta_items.specs.WalkLaws.{delta-whole, delta-none, fit-removes, length-inserts, length-hashes, too-long}
use Rattle.format.specs.Payload.{payload_bytes}
use Rattle.format.specs.Record.{hashed, sealed, record_bytes, stats_of, encode}
use Rattle.format.proofs.RecordLaws as format
use Rattle.format.specs.Calls.{effect, encoded_out, encode_call}
use Rattle.record_write.specs.Laid.{laid_at, head_bytes, refused_with}
use Rattle.slices.specs.ByteLaws.{U8, u8-drop}
use Rattle.record_write.specs.ByteLaws.{hashes-bytes, length-insert-list, few-cells, laid-three, laid-front, laid-part}

-- a cell's length has bytes
width_some : (wide : Bool) → 0 < length_width wide
width_some true = omega arith
width_some false = omega arith

-- ---- a delta that is within its limits

module _ (w n m : ℕ) (items : List ℕ) (short : too_long (delta_in w n m items) ≡ false) where
  tests : ((long_cell (inserts_in w n items) ≡ false) × (ltb max32 n ≡ false)) × (ltb max32 m ≡ false)
  tests =
      let e = or-false _ (ltb max32 m) (sym (too-long w n m items) ∙ short) in
      (or-false (long_cell (inserts_in w n items)) (ltb max32 n) e.0, e.1)

  pub short-cells : long_cell (inserts_in w n items) ≡ false
  short-cells = tests.0.0

  pub few-inserts : n ≤ max32
  few-inserts = ltb-false max32 n tests.0.1

  pub few-removes : m ≤ max32
  few-removes = ltb-false max32 m tests.1

  pub few_bytes : cell_bytes (inserts_in w n items) ≤ 65535 * n
  few_bytes = rw (length-inserts w n items) at (few-cells (inserts_in w n items) short-cells)

-- ---- the lengths of a payload and of a record

-- what a payload of n inserts and m removes has in bytes
abbrev pub payload_len : ℕ → ℕ → ℕ → List ℕ → ℕ
payload_len w n m items = 16 + 46 * n + 32 * m + cell_bytes (inserts_in w n items)

module _ (id w n m : ℕ) (items : List ℕ) (fit : items_fit w n m items ≡ true) where
  pub length-payload : length (payload_bytes id (delta_in w n m items)) ≡ payload_len w n m items
  unfolding delta_in
  length-payload =
      rw (format.length-payload id (delta_in w n m items), length-inserts w n items, length-hashes m (drop (inserts_len w n items) items))

  module _ (hash : List ℕ → List ℕ) (long : (b : List ℕ) → length (hash b) ≡ 32) where
    pub length-hashed : length (hashed (payload_bytes id (delta_in w n m items))) ≡ 8 + payload_len w n m items
    unfolding hashed
    length-hashed = simp (length-append, length_digits, length-payload)

    pub length-record : length (record_bytes hash id (delta_in w n m items)) ≡ 40 + payload_len w n m items
    length-record = format.length-record hash long id (delta_in w n m items) ∙ ap (λ (k : ℕ). 40 + k) length-payload

-- ---- the answers

module _ (hash : List ℕ → List ℕ) (long : (b : List ℕ) → length (hash b) ≡ 32) (id : ℕ) (wide : Bool) (n m : ℕ) (items out : List ℕ) where
  pub encode-broken : items_fit (length_width wide) n m items ≡ false → encode_call hash id wide n m items out ≡ effect (refused_with Broken) out
  unfolding encode_call encoded_out
  encode-broken e = rw (delta-none (length_width wide) n m items (width_some wide) e)

  module _ (fit : items_fit (length_width wide) n m items ≡ true) where
    pub encode-long : too_long (delta_in (length_width wide) n m items) ≡ true → encode_call hash id wide n m items out ≡ effect (refused_with TooLong) out
    unfolding encode_call encoded_out encode
    encode-long e = rw (delta-whole (length_width wide) n m items fit, e)

    module _ (short : too_long (delta_in (length_width wide) n m items) ≡ false) where
      pub encode-full : length out < 40 + payload_len (length_width wide) n m items → encode_call hash id wide n m items out ≡ effect (refused_with OutputFull) out
      unfolding encode_call encoded_out encode
      encode-full h =
          let l = length-record id (length_width wide) n m items fit hash long in
          rw (
            delta-whole (length_width wide) n m items fit,
            short,
            lt-ltb (length out) (length (record_bytes hash id (delta_in (length_width wide) n m items))) (omega arith),
          )

      -- c bytes of cells
      pub encode-taken : (c : ℕ) → c ≡ cell_bytes (inserts_in (length_width wide) n items) → 40 + payload_len (length_width wide) n m items ≤ length out
          → encode_call hash id wide n m items out
          ≡ effect
          (record {
            answer = Taken;
            len = 40 + (16 + 46 * n + 32 * m + c);
            stats = record {
              payload_bytes = 16 + 46 * n + 32 * m + c;
              metadata_bytes = 16 + 46 * n + 32 * m;
              cell_bytes = c;
              insert_ops = n;
              remove_ops = m;
            };
          })
          (overlay (record_bytes hash id (delta_in (length_width wide) n m items)) out)
      unfolding encode_call encoded_out encode stats_of delta_in
      encode-taken c e h =
          let w = length_width wide in
          let l = length-record id w n m items fit hash long in
          rw (
            delta-whole w n m items fit,
            short,
            le-ltb (length out) (length (record_bytes hash id (delta_in w n m items))) (omega arith),
            l,
            length-payload id w n m items fit,
            length-inserts w n items,
            length-hashes m (drop (inserts_len w n items) items),
            e,
          )

-- ---- the record behind its hash, in parts: head, inserts, removes

-- what is known of a delta that is written: its removes begin at `end`, its payload has so many bytes, and the output has room for the record
pub record Body (w n m end payload room : ℕ) (items : List ℕ) : Type 0 where
  pub fit : items_fit w n m items ≡ true
  pub short : too_long (delta_in w n m items) ≡ false
  pub place : end ≡ inserts_len w n items
  pub stated : payload ≡ payload_len w n m items
  pub fits : 40 + payload ≤ room

module _ (id w n m end payload : ℕ) (items out : List ℕ) (b : Body w n m end payload (length out) items) where
  pub head-room : 56 ≤ length out
  head-room = omega (arith, b.stated, b.fits)

  pub inserts-room : 56 + length (flat insert_bytes (inserts_in w n items)) ≤ length out
  inserts-room = omega (arith, b.stated, b.fits, length-insert-list w n items)

  pub length-inserts-part : length (flat insert_bytes (inserts_in w n items)) ≡ 46 * n + cell_bytes (inserts_in w n items)
  length-inserts-part = length-insert-list w n items

  pub removes-inside : end + 32 * m ≤ length items
  removes-inside = omega (arith, fit-removes w n m items b.fit, b.place)

  pub length-head : length (head_bytes payload id n m) ≡ 24
  length-head = simp (length-append, length_digits)

  -- the removes stand in the items as they stand in the record
  removes-part : U8 items → take (32 * m) (drop end items) ≡ flat hash_bytes (hashes_in m (drop (inserts_len w n items) items))
  removes-part u =
      let l = length-drop (inserts_len w n items) items in
      rw b.place (sym (hashes-bytes m (drop (inserts_len w n items) items) (u8-drop (inserts_len w n items) items u) (omega (arith, fit-removes w n m items b.fit))))

  parts : head_bytes payload id n m ++ (flat insert_bytes (inserts_in w n items) ++ flat hash_bytes (hashes_in m (drop (inserts_len w n items) items))) ≡ hashed (payload_bytes id (delta_in w n m items))
  unfolding hashed payload_bytes item_bytes delta_in
  parts =
      let p : length (payload_bytes id (delta_in w n m items)) ≡ payload = length-payload id w n m items b.fit ∙ sym b.stated in
      rw (p, length-inserts w n items, length-hashes m (drop (inserts_len w n items) items)) (simp append_assoc)

  pub body-laid : U8 items → (one two : List ℕ) → one ≡ laid_at out 32 (head_bytes payload id n m) → two ≡ laid_at one 56 (flat insert_bytes (inserts_in w n items))
      → laid_at two (40 + payload - 32 * m) (take (32 * m) (drop end items)) ≡ laid_at out 32 (hashed (payload_bytes id (delta_in w n m items)))
  body-laid u one two e f =
      let k = 46 * n + cell_bytes (inserts_in w n items) in
      let place : 40 + payload - 32 * m ≡ 32 + 24 + k = omega (arith, b.stated) in
      let room : 32 + (24 + k) ≤ length out = omega (arith, b.stated, b.fits) in
      rw (place, removes-part u, f, e)
      (laid-three out 32 (head_bytes payload id n m) (flat insert_bytes (inserts_in w n items)) (flat hash_bytes (hashes_in m (drop (inserts_len w n items) items))) 24 k length-head length-inserts-part room
      ∙ ap (λ (l : List ℕ). laid_at out 32 l) parts)

-- the hash in front of it
pub record-laid : (hash : List ℕ → List ℕ) → ((b : List ℕ) → length (hash b) ≡ 32) → (id : ℕ) (d : Delta) (out two : List ℕ) (k : ℕ)
    → length (hashed (payload_bytes id d)) ≡ k → 32 ≤ length out → two ≡ laid_at out 32 (hashed (payload_bytes id d))
    → laid_at two 0 (hash (take k (drop 32 two))) ≡ overlay (record_bytes hash id d) out
unfolding record_bytes sealed
record-laid hash long id d out two k l h e =
    let b = hashed (payload_bytes id d) in
    rw (e, laid-part out 32 b k l h) (laid-front out (hash b) b (long b) h)
