use Rattle.rows.specs.Wide.{key_of}
use Rattle.cell_nursery.proofs.KeepLaws.{keeping-done}
use Rattle.nursery_rows.specs.Rows.{other}
use mathlib.Core.Path.{◌∙◌}
use Rattle.nursery_rows.proofs.waiting.remove_waiting.Goals as goal

pub returns : goal.returns
returns c =
    let a = c.args in
    let k = c.keep_others-kept in
    (k.ensures.number, c.fill.ensures ∙ keeping-done (other (key_of a.hash)) a.n a.t.now c.requires.fits c.requires.rest _ k.result k.ensures)
