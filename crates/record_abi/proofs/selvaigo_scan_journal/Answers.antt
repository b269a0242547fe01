-- `record_abi::selvaigo_scan_journal` meets its contract: the call under it, over words. Assumes nothing.
use mathlib.Core.Path.{ap, ◌∙◌, refl}
use Rattle.base.specs.Answers.{answer_number}
use Rattle.word_calls.specs.RecordSaid.{scan_said}
use Rattle.word_calls.proofs.RecordSaidLaws.{scanned-said}
use Rattle.word_calls.proofs.ReturnedLaws.{scan-mode, scanned-answer}
use Rattle.record_abi.proofs.selvaigo_scan_journal.Goals as goal

pub returns : goal.returns
unfolding scan_said
returns c =
    let a = c.args in
    let p = c.put_scanned.ensures in
    let call = c.scan-scanned.ensures ∙ scan-mode a.keyed a.key.now c.key_said.ensures a.journal.now in
    rw p.1 (scanned-said call refl (p.0 ∙ ap answer_number (scanned-answer c.scan-scanned.result)))
