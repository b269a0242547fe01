-- `record_abi::selvaigo_encode_record` meets its contract: the call under it, over words. Assumes nothing.
use mathlib.Core.Path.{ap, ◌∙◌}
use Rattle.base.specs.Answers.{answer_number}
use Rattle.word_calls.specs.NurserySaid.{flag}
use Rattle.word_calls.specs.RecordSaid.{encode_said}
use Rattle.word_calls.proofs.RecordSaidLaws.{encoded-said}
use Rattle.word_calls.proofs.ReturnedLaws.{encode-mode, encoded-answer}
use Rattle.record_abi.proofs.selvaigo_encode_record.Goals as goal

pub returns : goal.returns
unfolding encode_said
returns c =
    let a = c.args in
    let p = c.put_encoded.ensures in
    let call = c.encode_record-wrote.ensures ∙ encode-mode a.keyed a.key.now c.key_said-key.ensures a.id (flag a.wide) a.inserts a.removes a.items.now a.out.now in
    rw p.1 (encoded-said call (p.0 ∙ ap answer_number (encoded-answer c.encode_record-wrote.result)))
