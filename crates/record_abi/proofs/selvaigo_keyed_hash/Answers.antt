-- `record_abi::selvaigo_keyed_hash` meets its contract: the key is judged, and the hash is the one from its start. Assumes nothing.
use mathlib.Core.Path.{sym, ap, ◌∙◌}
use Rattle.base.specs.Answers.{number_of}
use Rattle.blake3.specs.Mode.{mode_of}
use Rattle.blake3.specs.ModeLaws.{start-refused, start-taken}
use Rattle.word_calls.proofs.RecordSaidLaws.{keyed-bad, keyed-said}
use Rattle.std.proofs.Math.Bool.{true}
use Rattle.record_abi.proofs.selvaigo_keyed_hash.Goals as goal

pub returns-in-Err : goal.returns-in-Err
returns-in-Err c =
    let a = c.args in
    let q = start-refused (mode_of true a.key.now) (sym c.in-Err.is ∙ c.start_of.ensures) in
    keyed-bad a.key.now a.bytes.now q.0 (c.number.ensures ∙ ap number_of q.1)

pub returns-in-Ok : goal.returns-in-Ok
returns-in-Ok c =
    let a = c.args in
    let q = start-taken (mode_of true a.key.now) (sym c.in-Ok.is ∙ c.start_of.ensures) in
    keyed-said a.key.now a.bytes.now q.0 q.1 c.hash_from.ensures
