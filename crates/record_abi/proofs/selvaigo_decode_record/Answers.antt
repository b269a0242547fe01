-- `record_abi::selvaigo_decode_record` meets its contract: the call under it, over words. Assumes nothing.
use mathlib.Core.Path.{ap, ◌∙◌}
use Rattle.base.specs.Answers.{answer_number}
use Rattle.word_calls.specs.RecordSaid.{decode_said}
use Rattle.word_calls.proofs.RecordSaidLaws.{decoded-said}
use Rattle.word_calls.proofs.ReturnedLaws.{decode-mode, decoded-answer}
use Rattle.record_abi.proofs.selvaigo_decode_record.Goals as goal

pub returns : goal.returns
unfolding decode_said
returns c =
    let a = c.args in
    let p = c.put_decoded.ensures in
    let call = c.decode_record-read.ensures ∙ decode-mode a.keyed a.key.now c.key_said.ensures a.bytes.now in
    rw (p.1, p.2) (decoded-said call (p.0 ∙ ap answer_number (decoded-answer c.decode_record-read.result)))
