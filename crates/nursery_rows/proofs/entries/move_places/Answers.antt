use Rattle.std.proofs.Common.{◌≡◌, ◌∙◌, ◌+◌, ◌*◌, get_or, arith, rules}
use Rattle.std.proofs.lemmas.List.{get_or-set_other}
use Rattle.cell_nursery.proofs.PlaceLaws.{moving-start, moving-turn, moving-done}
use Rattle.nursery_rows.proofs.entries.move_places.Goals as goal

pub loop-i-init : goal.loop-i-init
loop-i-init g c =
    let a = c.args in
    record { behind = λ j b. search rules; moved = λ h moves. moving-start h a.n a.from a.t.now c.requires.rows.1 }

pub moved-requires : goal.moved-requires
moved-requires g c =
    let l = c.loop-i in
    rw (l.invariant.behind l.i (omega arith)) (c.requires.movable l.i (omega arith) (omega arith))

pub loop-i-preserved : goal.loop-i-preserved
loop-i-preserved g c =
    let l = c.loop-i in
    let a = c.args in
    record {
      behind = λ j b. get_or-set_other l.t (l.i * 8 + 6) (j * 8 + 6) c.moved.result 0 (omega arith) ∙ l.invariant.behind j (omega arith);
      moved = λ h moves.
          let is : c.moved.result ≡ h (get_or l.t (l.i * 8 + 6) 0) = moves (get_or l.t (l.i * 8 + 6) 0) c.moved.result (search rules) c.moved.ensures in
          rw is (moving-turn h a.n a.from a.t.now l.t l.i (l.invariant.moved h moves) (omega arith));
    }

pub returns : goal.returns
returns g c h moves =
    let l = c.loop-i in
    let a = c.args in
    moving-done h a.n a.from a.t.now l.t l.i (l.invariant.moved h moves) (omega arith)
