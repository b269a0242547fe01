-- `nursery_lookup::find_hash` meets its contract: at its place among the hashes stands the hash itself, or it is absent.
-- Assumes nothing.
use Rattle.rows.proofs.WideLaws.{when-less, when-no-less}
use Rattle.cell_nursery.proofs.SearchLaws.{search-hit, search-miss}
use Rattle.cell_nursery.specs.Rows.{index_of}
use Rattle.nursery_lookup.specs.RowLaws.{row-here, row-past}
use Rattle.rows.specs.Wide.{key_of}
use Rattle.rows.proofs.KeyLaws.{key-at}
use Rattle.rows.specs.Keys.{keys, first_four}
use Rattle.base.specs.Laws.{ascending-sorted}
use mathlib.Core.Path.{sym, ◌∙◌}
use native.Mathlib.Omega.{arith}
use Rattle.nursery_lookup.proofs.find_hash.Goals as goal
use Rattle.nursery_lookup.proofs.find_hash.Goals.{else-k-r-via-then-k-r+else-not-lt, else-k-r-via-else-k-r}

pub find-k-requires : goal.find-k-requires
find-k-requires c = (omega arith, c.requires.laid.fits, ascending-sorted 0 (keys first_four 8 c.args.r.entries c.args.es.now) c.requires.hashes)

pub returns-then-not-lt : goal.returns-then-not-lt
returns-then-not-lt c =
    let a = c.args in
    let k = c.find-k.result in
    let key = key-at first_four 8 a.r.entries a.es.now k c.if-k-r.true in
    let here = search-hit a.r a.es.now c.requires (key_of a.hash) k c.find-k.ensures c.if-k-r.true (λ l. omega (arith, key, c.wide_at.ensures, when-no-less a.hash c.wide_at.result (record { first = omega arith; second = omega arith; third = omega arith; fourth = omega arith }) (record { first = omega arith; second = omega arith; third = omega arith; fourth = omega arith }) c.lt.ensures c.if-not-lt.true)) in
    record {
      row = row-here a.r.entries (index_of (key_of a.hash) (keys first_four 8 a.r.entries a.es.now)) k here c.if-k-r.true;
      fits = omega (arith, c.requires.laid.fits);
    }

pub returns-else-k-r : goal.returns-else-k-r
returns-else-k-r c =
    let a = c.args in
    let k = c.find-k.result in
    let absent = search-miss a.r a.es.now c.requires (key_of a.hash) k c.find-k.ensures (λ l. elim c.else-k-r.branch [
      | else-k-r-via-then-k-r+else-not-lt w ↦ omega (arith, key-at first_four 8 a.r.entries a.es.now k l, w.wide_at.ensures, when-less a.hash w.wide_at.result (record { first = omega arith; second = omega arith; third = omega arith; fourth = omega arith }) (record { first = omega arith; second = omega arith; third = omega arith; fourth = omega arith }) w.lt.ensures w.if-not-lt.false)
      | else-k-r-via-else-k-r w ↦ absurd (omega (arith, w.if-k-r.false))
    ]) in
    record { row = row-past a.r.entries (index_of (key_of a.hash) (keys first_four 8 a.r.entries a.es.now)) (omega (arith, absent)); fits = tt }
