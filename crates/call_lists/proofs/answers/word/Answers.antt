-- `call_lists::answers::word`.
-- Assumes nothing.
use Rattle.std.proofs.Common.{sym, ◌∙◌, leb-true}
use Rattle.call_lists.specs.Laws.{word-there, word-missing}
use Rattle.call_lists.proofs.answers.word.Goals as goal

pub read_le64-requires : goal.read_le64-requires
read_le64-requires c = leb-true _ _ (sym c.fits.ensures ∙ c.if-fits.true)

pub returns-then-fits : goal.returns-then-fits
returns-then-fits c =
    let a = c.args in
    c.read_le64.ensures ∙ word-there a.call.now a.at (sym c.fits.ensures ∙ c.if-fits.true)

pub returns : goal.returns
returns c =
    let a = c.args in
    word-missing a.call.now a.at (sym c.fits.ensures ∙ c.if-fits.false)
