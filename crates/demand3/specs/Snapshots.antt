-- Claim 1: two boxes have one snapshot exactly when their plain boxes agree on next, live and the count at each allocated index.
-- Assumes nothing.
use Rattle.std.specs.Prelude.{◌≡◌, ◌↔◌}
use Rattle.std.proofs.Common.{sym, ◌∙◌}
use Rattle.snapshot_laws.specs.RoundTrip.{snapshot-counts}
use Rattle.node_box.specs.Box.{snapshot_of}
use Rattle.node_box.specs.Demand.{History, Typed, end, plain, SameCounts}
use Rattle.demand3.specs.Agreement.{in_step}
use Rattle.demand3.specs.Outputs.{snapshot-is}

pub snapshots : (a b : History) → Typed a → Typed b → (snapshot_of (end a) ≡ snapshot_of (end b)) ↔ SameCounts (plain a) (plain b)
snapshots a b ta tb =
    let p = in_step a ta in
    let q = in_step b tb in
    let sa = snapshot-is (end a) p.holds.counters in
    let sb = snapshot-is (end b) q.holds.counters in
    let law = snapshot-counts p.counters q.counters p.holds.counters.well q.holds.counters.well in (
      (λ same.
          let (next, live, count) = law.0 (sym sa ∙ same ∙ sb) in
          record {
            next = p.agrees.next ∙ next ∙ sym q.agrees.next;
            live = p.agrees.live ∙ live ∙ sym q.agrees.live;
            count = λ i l. p.agrees.count i ∙ count i (rw p.agrees.next at l) ∙ sym (q.agrees.count i);
          }),
      λ same.
          sa
          ∙ law.1 (
            sym p.agrees.next ∙ same.next ∙ q.agrees.next,
            sym p.agrees.live ∙ same.live ∙ q.agrees.live,
            λ i l. sym (p.agrees.count i) ∙ same.count i (rw p.agrees.next l) ∙ q.agrees.count i,
          )
          ∙ sym sb,
    )
