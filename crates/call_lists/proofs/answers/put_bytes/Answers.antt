-- `call_lists::answers::put_bytes`.
-- Assumes nothing.
use Rattle.std.proofs.Common.{sym, refl, ◌∙◌, leb-true}
use Rattle.call_lists.specs.Laws.{bytes-put, bytes-none}
use Rattle.call_lists.proofs.answers.put_bytes.Goals as goal

pub returns-then-not-fits : goal.returns-then-not-fits
returns-then-not-fits c =
    let a = c.args in
    bytes-none a.bytes.now a.at _ a.out.now refl (sym c.fits.ensures ∙ c.if-not-fits.true)

pub copy_at-requires : goal.copy_at-requires
copy_at-requires c = leb-true _ _ (sym c.fits.ensures ∙ c.if-not-fits.false)

pub returns : goal.returns
returns c =
    let a = c.args in
    rw c.copy_at.ensures (bytes-put a.bytes.now a.at _ a.out.now refl (sym c.fits.ensures ∙ c.if-not-fits.false))
