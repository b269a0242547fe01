-- The call that an item of bytes stands for is of one of four kinds, and has arguments of their types.
-- Assumes nothing.
use Rattle.std.specs.Prelude.{◌≡◌, refl, Bool, List, ℕ, zero, suc, ◌*◌, ◌/◌, ◌%◌, ◌^◌, ◌≤◌, ◌<◌, length, take, drop, leb, eqb}
use Rattle.std.proofs.Math.Bool.{true, false}
use Rattle.std.proofs.Math.Option.{Option}
use Rattle.std.proofs.Common.{arith, length-drop, length-take-le}
use Rattle.std.proofs.Math.Dec.{ltb}
use borrow.Author.Tests.{lt-ltb, eqb-true}
use Rattle.base.specs.Logic.{pick, all}
use Rattle.base.specs.Laws.{and_both}
use Rattle.base.specs.ListLaws.{all_take, all_drop}
use Rattle.base.specs.Bytes.{unle}
use Rattle.base.specs.NumberLaws.{number-below}
use Rattle.cell_nursery.specs.Items.{delta_of}
use Rattle.format.specs.Payload.{payload_of}
use Rattle.format.specs.Record.{stats_of, leftover}
use Rattle.base.specs.MaybeLaws.{Gives, nothing, gives, gives-bind, gives-ensure, gives-each}
use Rattle.base.specs.SpellLaws.{Bytes}
use Rattle.journal_laws.specs.DeltaLaws.{cut-bytes, le_bytes, delta-read}
use Rattle.node_box.specs.Box.{Call, allocate, batch, delta, drain}
use Rattle.node_box.specs.Demand.{typed}
use Rattle.box_lines.specs.Lines.{kind_of, body_len}
use Rattle.box_items.specs.Items.{words_in, allocate_item, batch_item, delta_item, drain_item, drain_room, call_of, item_call}

-- the calls that items stand for
pub data ItemCall : Call → Type 0 where
  allocates : ItemCall allocate
  batches : (words : List ℕ) → ItemCall (batch words)
  changes : (id : ℕ) (wide : Bool) (inserts removes : ℕ) (items : List ℕ) → ItemCall (delta id wide inserts removes items)
  drains : (round : ℕ) → ItemCall (drain round drain_room)

abbrev pub Fit : Call → Type 0
Fit x = (typed x ≡ true) × ItemCall x

-- eight bytes spell a u64
words-fit : (n : ℕ) (bs : List ℕ) → 8 * n ≤ length bs → Bytes bs → all (λ w. ltb w (2 ^ 64)) (words_in n bs) ≡ true
unfolding words_in all
words-fit zero bs l b = refl
words-fit (suc n) bs l b =
    let eight : length (take 8 bs) ≡ 8 = length-take-le 8 bs (omega arith) in
    let rest = length-drop 8 bs in
    and_both _ _ (lt-ltb (unle (take 8 bs)) (2 ^ 64) (rw eight at (number-below 256 (take 8 bs) (all_take (λ x. ltb x 256) 8 bs b))))
    (words-fit n (drop 8 bs) (omega arith) (all_drop (λ x. ltb x 256) 8 bs b))

-- a payload's id is a u64, and its lists are as long as it says
payload-fits : (body : List ℕ) → Bytes body → Gives (λ p. (p.id < 2 ^ 64) × (length p.delta.inserts < 2 ^ 32) × (length p.delta.removes < 2 ^ 32)) (payload_of body)
unfolding payload_of
payload-fits body b =
    gives-bind (le_bytes 8 body b) (λ i p.
    gives-bind (le_bytes 4 i.1 p.1) (λ m q.
    gives-bind (le_bytes 4 m.1 q.1) (λ n r.
    gives-bind (spelled m.0 n.0 n.1 r.1) (λ d s.
    gives (p.0, rw s.0 q.0, rw s.1 r.0)))))
  where
    spelled : (m n : ℕ) (bs : List ℕ) → Bytes bs → Gives (λ d. (length d.inserts ≡ m) × (length d.removes ≡ n)) (delta_of 2 m n bs)
    spelled m n bs c = gives-each (delta_of 2 m n bs) (λ d e. let x = delta-read 2 m n bs d c e in (x.number_inserts, x.number_removes))

module _ (body : List ℕ) (b : Bytes body) where
  allocate-fits : Gives Fit (allocate_item body)
  unfolding allocate_item typed
  allocate-fits = gives-ensure (eqb (length body) 0) (λ e. gives {a = allocate} (refl, allocates))

  batch-fits : Gives Fit (batch_item body)
  unfolding batch_item typed
  batch-fits = gives-ensure (eqb (length body % 24) 0) (λ e. gives {a = batch (words_in (length body / 8) body)} (words-fit (length body / 8) body (omega arith) b, batches _))

  delta-fits : Gives Fit (delta_item body)
  unfolding delta_item typed
  delta-fits =
      gives-bind (payload-fits body b) (λ p q.
      gives-ensure (eqb (leftover (stats_of (length body) p.delta)) 0) (λ e.
      gives {a = delta p.id false (length p.delta.inserts) (length p.delta.removes) (drop 16 body)} (rw (lt-ltb p.id (2 ^ 64) q.0, lt-ltb (length p.delta.inserts) (2 ^ 64) (omega (arith, q.1)), lt-ltb (length p.delta.removes) (2 ^ 64) (omega (arith, q.2))) (all_drop (λ x. ltb x 256) 16 body b), changes _ _ _ _ _)))

  drain-fits : Gives Fit (drain_item body)
  unfolding drain_item typed drain_room
  drain-fits =
      gives-ensure (eqb (length body) 4) (λ e.
      let l = eqb-true (length body) 4 e in
      gives {a = drain (unle body) drain_room} (rw (lt-ltb (unle body) (2 ^ 32) (rw l at (number-below 256 body b))), drains _))

  pub call_fits : (kind : ℕ) → Gives Fit (call_of kind body)
  unfolding call_of
  call_fits kind =
      gives-ensure (leb (length body) 32768) (λ e.
      chosen (eqb kind 1) allocate-fits (chosen (eqb kind 2) batch-fits (chosen (eqb kind 3) delta-fits (chosen (eqb kind 4) drain-fits nothing))))
    where
      chosen : (c : Bool) {x y : Option Call} → Gives Fit x → Gives Fit y → Gives Fit (pick c x y)
      chosen true p q = p
      chosen false p q = q

pub item-fits : (bs : List ℕ) → Bytes bs → Gives Fit (item_call bs)
unfolding item_call
item-fits bs b =
    gives-ensure (leb 6 (length bs)) (λ e.
    gives-bind (cut-bytes (body_len bs) (drop 6 bs) (all_drop (λ x. ltb x 256) 6 bs b)) (λ y p. call_fits y.0 p.1 (kind_of bs)))
