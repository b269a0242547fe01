-- A record that is taken or refused, on tables that hold a state.
-- Assumes nothing.
use Rattle.std.specs.Prelude.{◌≡◌, true, false, List, ℕ, ◌+◌, ◌-◌, ◌≤◌, length, take, drop}
use Rattle.std.proofs.Math.Path.{refl, ap}
use Rattle.std.proofs.Common.{sym, ◌∙◌, arith}
use Rattle.base.specs.Answers.{Outcome, refused, taken, Taken, Refused}
use Rattle.base.specs.AnswerLaws.{not-refused}
use Rattle.base.specs.declared.Refusal.{Refusal}
use Rattle.cell_nursery.specs.declared.Nursery.{Nursery}
use Rattle.cell_nursery.specs.Layout.{holds}
use Rattle.cell_nursery.specs.Calls.{laid_out, on_state, delta_call}
use Rattle.format.specs.Returned.{Decoded}
use Rattle.format.specs.Record.{Decoding, decode}
use Rattle.format.specs.Calls.{decoded_of, decode_call}
use Rattle.format.specs.Record.{stated_hash}
use Rattle.format.proofs.TakenLaws.{taken-lent}
use Rattle.journal_read.specs.Reading.{stepped, beside, record_on, record_call}

-- ---- decoding's answer
module _ (r : Nursery) (es ws cs bs : List ℕ) (q : Decoded) (e : q ≡ decode_call (stated_hash bs) bs) where
  abbrev hash : List ℕ → List ℕ
  hash = stated_hash bs

  pub record-refused : (x : Refusal) → q.answer ≡ Refused x → stepped (record { answer = q.answer; nursery = r; len = 0 }) es ws cs ≡ record_call r es ws cs bs
  unfolding decode_call record_call decoded_of record_on laid_out
  record-refused x a = rw e (go (decode hash bs) (sym (ap (λ (y : Decoded). y.answer) e) ∙ a))
    where
      go : (o : Outcome Decoding) → (decoded_of o).answer ≡ Refused x → stepped (record { answer = (decoded_of o).answer; nursery = r; len = 0 }) es ws cs ≡ record_on r es ws cs o
      go (refused y) f = refl
      go (taken d) f = absurd (not-refused f)

  -- what a record that is taken is: its items in the bytes, and the call of its delta
  pub record RecordTaken : Type 0 where
    pub inside : 56 + q.items_len ≤ length bs
    pub call : holds r es ws cs ≡ true
        → beside (56 + q.items_len) (delta_call r es ws cs false q.stats.insert_ops q.stats.remove_ops (take q.items_len (drop 56 bs))) ≡ record_call r es ws cs bs

  pub record-taken : q.answer ≡ Taken → RecordTaken
  unfolding decode_call record_call decoded_of record_on delta_call on_state
  record-taken a = go (decode hash bs) refl (sym (ap (λ (y : Decoded). y.answer) e) ∙ a)
    where
      go : (o : Outcome Decoding) → decode hash bs ≡ o → (decoded_of o).answer ≡ Taken → RecordTaken
      go (refused y) i f = absurd (not-refused (sym f))
      go (taken d) i f =
          let w = taken-lent hash bs d i in
          let same : q ≡ decoded_of (taken d) = e ∙ ap decoded_of i in
          let k : 56 + (d.stats.payload_bytes - 16) ≡ 40 + d.stats.payload_bytes = omega (arith, w.head) in
          record {
            inside = rw same (omega (arith, w.head, w.inside));
            call = λ h. rw (same, i, h, w.items, k);
          }
