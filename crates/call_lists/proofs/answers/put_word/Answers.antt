-- `call_lists::answers::put_word`.
-- Assumes nothing.
use Rattle.std.proofs.Common.{sym, ◌∙◌, leb-true}
use Rattle.call_lists.specs.Laws.{word-put, word_none}
use Rattle.call_lists.proofs.answers.put_word.Goals as goal

pub returns-then-not-fits : goal.returns-then-not-fits
returns-then-not-fits c =
    let a = c.args in
    word_none a.w a.at a.out.now (sym c.fits.ensures ∙ c.if-not-fits.true)

pub write_le64-requires : goal.write_le64-requires
write_le64-requires c = leb-true _ _ (sym c.fits.ensures ∙ c.if-not-fits.false)

pub returns : goal.returns
returns c =
    let a = c.args in
    rw c.write_le64.ensures (word-put a.w a.at a.out.now (sym c.fits.ensures ∙ c.if-not-fits.false))
