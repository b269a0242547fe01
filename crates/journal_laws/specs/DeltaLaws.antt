-- A delta that is read from bytes, and is not too long, is one that a record can carry.
-- Assumes nothing.
use Rattle.std.specs.Prelude.{◌≡◌, Bool, ◌&&◌, ◌||◌, List, [], ◌∷◌, ℕ, zero, suc, ◌*◌, ◌^◌, ◌≤◌, ◌<◌, length, leb, ltb}
use Rattle.std.proofs.Math.Path.{refl}
use Rattle.std.proofs.Common.{ap, arith, length-append, lt-ltb, le-leb, ltb-true, ltb-false}
use Rattle.std.proofs.Math.Bool.{true, false}
use Rattle.std.proofs.Math.Option.{Option, some}
use Rattle.base.specs.Logic.{all, any, flat, max32}
use Rattle.base.specs.MaybeLaws.{Gives, gives, gives-bind, gives-weaken, given}
use Rattle.base.specs.SpellLaws.{Bytes, cut-spells, read_le-spells}
use Rattle.base.specs.Answers.{taken, ◌>>◌, refuse_if}
use Rattle.base.specs.OutcomeLaws.{refused-taken, taken-same}
use Rattle.base.specs.declared.Refusal.TheVariants.{Present, NurseryFull, TooLong}
use Rattle.base.specs.Bytes.{cut, read_le, read_list}
use Rattle.base.specs.Laws.{and_left, and_right, and_both, length_digits}
use Rattle.base.specs.ListLaws.{or-false, all_weaker}
use Rattle.cell_nursery.specs.Entries.{Entry, State, insert_bytes}
use Rattle.cell_nursery.specs.Items.{Delta, item_bytes, read_hash, read_insert, delta_of}
use Rattle.cell_nursery.specs.Delta.{Room, too_long, present, full, state_after, apply_delta}
use Rattle.cell_nursery.proofs.ItemLaws.{length-insert, length-hashes}
use Rattle.cell_nursery.specs.Held.{fits_item}
use Rattle.cell_nursery.proofs.SpellLaws.{read_hash-spells}
use Rattle.format.specs.Payload.{payload_bytes}
use Rattle.format.proofs.RecordLaws.{Fits}

-- ---- what is read of bytes
pub cut-bytes : (n : ℕ) (bs : List ℕ) → Bytes bs → Gives (λ y. (length y.0 ≡ n) × Bytes y.0 × Bytes y.1) (cut n bs)
cut-bytes n bs b = gives-weaken (cut-spells n bs b) (λ y p. (p.0, p.2, p.3))

pub le_bytes : (k : ℕ) (bs : List ℕ) → Bytes bs → Gives (λ y. (y.0 < 256 ^ k) × Bytes y.1) (read_le k bs)
le_bytes k bs b = gives-weaken (read_le-spells k bs b) (λ y p. (ltb-true y.0 (256 ^ k) p.fits, p.rest))

hash-bytes : (bs : List ℕ) → Bytes bs → Gives (λ y. (ltb y.0 (2 ^ 256) ≡ true) × Bytes y.1) (read_hash bs)
hash-bytes bs b = gives-weaken (read_hash-spells bs b) (λ y p. (p.fits, p.rest))

-- an insert's fields before its cell
fits_head : Entry → Bool
fits_head e = ltb e.hash (2 ^ 256) && ltb e.idx (2 ^ 64) && ltb e.born (2 ^ 32)

-- they fit, and the cell is bytes
read_of : Entry → Bool
read_of e = fits_head e && all (λ b. ltb b 256) e.cell

insert-bytes : (w : ℕ) (bs : List ℕ) → Bytes bs → Gives (λ y. (read_of y.0 ≡ true) × Bytes y.1) (read_insert w bs)
unfolding read_insert read_of fits_head
insert-bytes w bs b =
    gives-bind (hash-bytes bs b) (λ h p.
    gives-bind (le_bytes 8 h.1 p.1) (λ i q.
    gives-bind (le_bytes 4 i.1 q.1) (λ r s.
    gives-bind (le_bytes w r.1 s.1) (λ n t.
    gives-bind (cut-bytes n.0 n.1 t.1) (λ c u.
    gives (rw (p.0, lt-ltb i.0 (2 ^ 64) q.0, lt-ltb r.0 (2 ^ 32) s.0) u.1, u.2))))))

list-bytes : {A : Type 0} (f : List ℕ → Option (A × List ℕ)) (ok : A → Bool) → ((bs : List ℕ) → Bytes bs → Gives (λ y. (ok y.0 ≡ true) × Bytes y.1) (f bs))
    → (n : ℕ) (bs : List ℕ) → Bytes bs → Gives (λ y. (length y.0 ≡ n) × (all ok y.0 ≡ true) × Bytes y.1) (read_list f n bs)
unfolding read_list all
list-bytes f ok h zero bs b = gives (refl, refl, b)
list-bytes f ok h (suc n) bs b =
    gives-bind (h bs b) (λ y p.
    gives-bind (list-bytes f ok h n y.1 p.1) (λ z q.
    gives (ap suc q.0, and_both _ _ p.0 q.1, q.2)))

heads-of : (es : List Entry) → all read_of es ≡ true → all fits_head es ≡ true
unfolding read_of
heads-of es a = all_weaker fits_head read_of (λ e f. and_left (fits_head e) (all (λ b. ltb b 256) e.cell) f) es a

cells_of : (es : List Entry) → all read_of es ≡ true → all (λ e. all (λ b. ltb b 256) e.cell) es ≡ true
unfolding read_of
cells_of es a = all_weaker (λ e. all (λ b. ltb b 256) e.cell) read_of (λ e f. and_right (fits_head e) (all (λ b. ltb b 256) e.cell) f) es a

-- a delta that was read
pub record Read (inserts removes : ℕ) (d : Delta) : Type 0 where
  pub number_inserts : length d.inserts ≡ inserts
  pub number_removes : length d.removes ≡ removes
  heads : all fits_head d.inserts ≡ true
  pub cells : all (λ e. all (λ b. ltb b 256) e.cell) d.inserts ≡ true
  pub hashes : all (λ h. ltb h (2 ^ 256)) d.removes ≡ true

pub delta-read : (w inserts removes : ℕ) (items : List ℕ) (d : Delta) → Bytes items → delta_of w inserts removes items ≡ some d → Read inserts removes d
unfolding delta_of
delta-read w inserts removes items d b e =
    given {P = Read inserts removes} (gives-bind (list-bytes (read_insert w) read_of (insert-bytes w) inserts items b) (λ y p.
    gives-bind (list-bytes read_hash (λ h. ltb h (2 ^ 256)) hash-bytes removes y.1 p.2) (λ z q.
    gives (record { number_inserts = p.0; number_removes = q.0; heads = heads-of y.0 p.1; cells = cells_of y.0 p.1; hashes = q.1 })))) e

-- ---- what is not too long
-- each cell is of at most 65,535 bytes
short-cells : (es : List Entry) → any (λ e. ltb 65535 (length e.cell)) es ≡ false → all fits_head es ≡ true → all fits_item es ≡ true
unfolding any all fits_item fits_head
short-cells [] a h = refl
short-cells (e ∷ es) a h =
    let f = or-false (ltb 65535 (length e.cell)) (any (λ x. ltb 65535 (length x.cell)) es) a in
    let here = and_both (fits_head e) (leb (length e.cell) 65535) (and_left (fits_head e) (all fits_head es) h) (le-leb (length e.cell) 65535 (ltb-false 65535 (length e.cell) f.0)) in
    and_both (fits_item e) (all fits_item es) here (short-cells es f.1 (and_right (fits_head e) (all fits_head es) h))

inserts-short : (es : List Entry) → any (λ e. ltb 65535 (length e.cell)) es ≡ false → length (flat insert_bytes es) ≤ 65581 * length es
unfolding any flat
inserts-short [] a = omega arith
inserts-short (e ∷ es) a =
    let f = or-false (ltb 65535 (length e.cell)) (any (λ x. ltb 65535 (length x.cell)) es) a in
    simp length-append (omega (arith, length-insert e, ltb-false 65535 (length e.cell) f.0, inserts-short es f.1))

pub delta-fits : (id inserts removes : ℕ) (d : Delta) → id < 2 ^ 64 → Read inserts removes d → too_long d ≡ false → Fits id d
unfolding too_long payload_bytes item_bytes
delta-fits id inserts removes d i r t =
    let ab = or-false (any (λ e. ltb 65535 (length e.cell)) d.inserts || ltb max32 (length d.inserts)) (ltb max32 (length d.removes)) t in
    let a = or-false (any (λ e. ltb 65535 (length e.cell)) d.inserts) (ltb max32 (length d.inserts)) ab.0 in
    let few = ltb-false max32 (length d.inserts) a.1 in
    let less = ltb-false max32 (length d.removes) ab.1 in
    record {
      small_id = i;
      inserts = short-cells d.inserts a.0 r.heads;
      removes = r.hashes;
      few-inserts = omega arith;
      few-removes = omega arith;
      near = simp (length-append, length_digits) (omega (arith, inserts-short d.inserts a.0, length-hashes d.removes));
    }

-- ---- a delta that is accepted
pub record Accepted (m : Room) (s : State) (d : Delta) : Type 0 where
  pub short : too_long d ≡ false
  pub new : present s d ≡ false
  pub fits : full m s d ≡ false

module _ (m : Room) (s : State) (d : Delta) where
  pub accepted-taken : Accepted m s d → apply_delta m s d ≡ taken (state_after d s)
  unfolding apply_delta
  accepted-taken a = rw (a.short, a.new, a.fits)

  pub taken-accepted : (t : State) → apply_delta m s d ≡ taken t → Accepted m s d × (t ≡ state_after d s)
  unfolding apply_delta
  taken-accepted t e = go (too_long d) (present s d) (full m s d) refl refl refl e
    where
      go : (a b c : Bool) → too_long d ≡ a → present s d ≡ b → full m s d ≡ c
          → (refuse_if a TooLong >> (refuse_if b Present >> (refuse_if c NurseryFull >> taken (state_after d s)))) ≡ taken t → Accepted m s d × (t ≡ state_after d s)
      go true b c p q r e = absurd (refused-taken e)
      go false true c p q r e = absurd (refused-taken e)
      go false false true p q r e = absurd (refused-taken e)
      go false false false p q r e = (record { short = p; new = q; fits = r }, (taken-same (state_after d s) t).0 e)
