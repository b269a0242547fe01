use Rattle.std.specs.Prelude.{◌*◌, ◌/◌, length}
use Rattle.std.proofs.Common.{rules, arith, ap, ◌∙◌, length-take-le}
use borrow.Author.Tests.{tests}
use Rattle.std.proofs.lemmas.Iterator.Search.{all_from_yields_List}
use Rattle.base.specs.Logic.{all}
use Rattle.rows.specs.Table.{rows_of}
use Rattle.counters.specs.Layout.{count_row, sound}
use Rattle.counters.proofs.CodingLaws.{count-lawful}
use Rattle.counter_rows.proofs.ChunkLaws.{chunks-rows, front-rows, all-same}
use Rattle.counter_rows.proofs.all_sound.Goals as goal

pub returns : goal.returns
returns c =
    let a = c.args in
    all_from_yields_List (sound a.next) _ _ c.all.result c.all.ensures.ran (chunks-rows count-lawful (omega arith) c.chunks_exact.ensures.size) (λ x b q k. search (rules, tests))
    ∙ all-same (sound a.next) _
    ∙ ap (λ w. all (sound a.next) (rows_of count_row (length w / 2) w)) c.chunks_exact.ensures.rest
    ∙ ap (all (sound a.next)) (front-rows count-lawful (omega arith) a.n a.t.now c.requires _ (omega (arith, length-take-le (a.n * 2) a.t.now)))
