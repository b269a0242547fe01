-- `word_sort::sort`. The library's sort leaves the sorted words, and the fill the zeros behind them.
use Rattle.word_sort.specs.OrderLaws.{sorted-zeroed}
use Rattle.word_sort.proofs.sort.Goals as goal

pub returns : goal.returns
returns c =
    let a = c.args in
    let s = c.sort_unstable in
    sorted-zeroed a.s.now s.new.self c.fill.new.t a.n c.requires s.ensures.permutation s.ensures.sorted c.fill.ensures
