-- `record_abi::selvaigo_convert_journal` meets its contract: the call under it, over words. Assumes nothing.
use mathlib.Core.Path.{ap, ◌∙◌}
use Rattle.base.specs.Answers.{answer_number}
use Rattle.word_calls.specs.RecordSaid.{convert_said}
use Rattle.word_calls.proofs.RecordSaidLaws.{converted-said}
use Rattle.word_calls.proofs.ReturnedLaws.{converted-answer}
use Rattle.record_abi.proofs.selvaigo_convert_journal.Goals as goal

pub returns : goal.returns
unfolding convert_said
returns c =
    let p = c.put_converted.ensures in
    rw p.1 (converted-said c.convert_journal-converted.ensures (p.0 ∙ ap answer_number (converted-answer c.convert_journal-converted.result)))
