use Rattle.std.specs.Prelude.{is_some}
use Rattle.rows.specs.Keys.{keys, first_four}
use Rattle.rows.proofs.KeyLaws.{length-keys}
use Rattle.rows.specs.Wide.{key_of}
use Rattle.nursery_lookup.specs.RowLaws.{is_some-row}
use Rattle.delta_checks.specs.ChecksLaws.{found-elem}
use mathlib.Core.Path.{refl, ap, ◌∙◌}
use Rattle.delta_checks.proofs.is_stored.Goals as goal

pub returns : goal.returns
returns c =
    let a = c.args in
    let ks = keys first_four 8 a.r.entries a.es.now in
    c.is_some.ensures ∙ ap is_some c.find_hash.ensures.row ∙ is_some-row _ _ ∙ found-elem (key_of a.hash) a.r.entries _ ks (length-keys first_four 8 a.r.entries a.es.now) refl
