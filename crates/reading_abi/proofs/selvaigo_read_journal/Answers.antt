-- `reading_abi::selvaigo_read_journal` meets its contract: the call under it, over words. Assumes nothing.
use mathlib.Core.Path.{refl, ◌∙◌}
use Rattle.word_calls.specs.RecordSaid.{journal_said}
use Rattle.word_calls.proofs.RecordSaidLaws.{read-said}
use Rattle.word_calls.proofs.ReturnedLaws.{read-mode, read-returned}
use Rattle.reading_abi.proofs.selvaigo_read_journal.Goals as goal

pub returns : goal.returns
unfolding journal_said
returns c =
    let a = c.args in
    let p = c.put_read.ensures in
    let call = c.read_journal-done.ensures ∙ read-mode a.keyed a.key.now c.key_said-key.ensures a.delay a.journal.now a.entries.now a.waiting.now a.cells.now in
    rw p.1 (read-said a.nursery.now call refl (read-returned a.nursery.now c.read_journal-done.result (p.0, p.2)))
