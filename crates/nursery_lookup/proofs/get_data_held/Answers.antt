-- `nursery_lookup::get_data_held` meets its contract: the place and the length in the row that has the hash.
-- Assumes nothing.
use lib.Seq.{take_all}
use Rattle.cell_nursery.proofs.LayoutLaws.{entries-held, cells-held}
use Rattle.cell_nursery.proofs.SearchLaws.{data-found, data-absent}
use Rattle.cell_nursery.specs.Rows.{index_of}
use Rattle.nursery_lookup.specs.RowLaws.{hash-found, hash-absent}
use Rattle.rows.specs.Wide.{key_of}
use Rattle.rows.specs.Keys.{keys, first_four}
use Rattle.base.specs.Bytes.{unbe}
use mathlib.Core.Path.{refl, ap, ◌∙◌}
use native.Mathlib.Omega.{arith}
use Rattle.nursery_lookup.proofs.get_data_held.Goals as goal

pub find_hash-requires : goal.find_hash-requires
find_hash-requires c = entries-held c.args.r c.args.es.now c.requires.0

pub returns-in_err-k : goal.returns-in_err-k
returns-in_err-k c =
    let a = c.args in
    let n = a.r.entries in
    let ks = keys first_four 8 n a.es.now in
    let h = unbe a.hash in
    let past = hash-absent n (key_of c.wide_of.result) h ks (c.wide_of.ensures ∙ ap unbe (take_all 32 a.hash (omega arith))) c.in_err-k.ensures.row in
    rw c.from_residual.ensures (data-absent a.r a.es.now a.cs.now h (entries-held a.r a.es.now c.requires.0) (cells-held a.r a.cs.now c.requires.1) c.requires.0 c.requires.1 (index_of h ks) refl past)

pub returns : goal.returns
returns c =
    let a = c.args in
    let n = a.r.entries in
    let ks = keys first_four 8 n a.es.now in
    let h = unbe a.hash in
    let k = c.in_ok-k.k in
    let here = hash-found n (key_of c.wide_of.result) h k ks (c.wide_of.ensures ∙ ap unbe (take_all 32 a.hash (omega arith))) c.in_ok-k.ensures.row in
    data-found a.r a.es.now a.cs.now h (entries-held a.r a.es.now c.requires.0) (cells-held a.r a.cs.now c.requires.1) c.requires.0 c.requires.1 k here.1 here.0
