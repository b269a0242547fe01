-- `journal_read::read_from`. The delay is judged; where the first pass finds no damage, the records are read on tables that hold the empty state.
-- Assumes nothing.
use mathlib.Core.Path.{sym, ap, ◌∙◌}
use mathlib.Core.Bool.{true, false}
use Rattle.std.specs.Prelude.{Ok}
use Rattle.base.specs.AnswerLaws.{not-refused}
use Rattle.blake3.specs.Mode.{hash_from}
use Rattle.cell_nursery.specs.Entries.{State, empty}
use Rattle.cell_nursery.specs.Layout.{room_of, record_of}
use Rattle.cell_nursery.specs.Calls.{Changed, laid}
use Rattle.cell_nursery.specs.Returned.{as_committed}
use Rattle.cell_nursery.proofs.SettingLaws.{new-taken}
use Rattle.journal.specs.Returned.{as_scanned}
use Rattle.journal.specs.Journal.{End, read_out}
use Rattle.journal.proofs.ReadLaws.{read-undamaged}
use Rattle.journal_read.specs.ReadLaws.{fresh_holds, fresh-read, held-read, pass-says, not_set, not-read}
use Rattle.journal_read.proofs.read_from.Goals as goal

pub returns-then-not-delay_in_range : goal.returns-then-not-delay_in_range
returns-then-not-delay_in_range c =
    let a = c.args in
    not_set (hash_from a.start) a.delay a.s.now a.es.now a.ws.now a.cs.now (sym c.delay_in_range.ensures ∙ c.if-not-delay_in_range.true)

pub returns-then-damages : goal.returns-then-damages
returns-then-damages c =
    let a = c.args in
    let set = sym c.delay_in_range.ensures ∙ c.if-not-delay_in_range.false in
    let p = c.scan_from-pass in
    let harmed = pass-says (hash_from a.start) a.s.now (as_scanned (Ok p.result)) true p.ensures (sym c.if-damages.true ∙ c.damages.ensures) in
    not-read (hash_from a.start) a.delay a.s.now a.es.now a.ws.now a.cs.now set harmed

pub returns-in_err-fresh : goal.returns-in_err-fresh
unfolding laid
returns-in_err-fresh c =
    let a = c.args in
    let set = sym c.delay_in_range.ensures ∙ c.if-not-delay_in_range.false in
    absurd (not-refused (sym (ap (λ (z : Changed). z.result.answer) (c.in_err-fresh.ensures ∙ new-taken a.delay a.es.now a.ws.now a.cs.now set))))

pub read_records-requires : goal.read_records-requires
read_records-requires c =
    let a = c.args in
    let n = c.new.new in
    let set = sym c.delay_in_range.ensures ∙ c.if-not-delay_in_range.false in
    fresh_holds a.delay set a.es.now a.ws.now a.cs.now (as_committed (record_of 0 empty) (Ok c.in_ok-fresh.fresh)) n.es n.ws n.cs c.in_ok-fresh.ensures

pub returns : goal.returns
returns c =
    let a = c.args in
    let n = c.new.new in
    let set = sym c.delay_in_range.ensures ∙ c.if-not-delay_in_range.false in
    let p = c.scan_from-pass in
    let sound = pass-says (hash_from a.start) a.s.now (as_scanned (Ok p.result)) false p.ensures (sym c.if-damages.false ∙ c.damages.ensures) in
    c.read_records.ensures
    ∙ fresh-read a.delay set a.es.now a.ws.now a.cs.now (as_committed (record_of 0 empty) (Ok c.in_ok-fresh.fresh)) n.es n.ws n.cs c.in_ok-fresh.ensures a.s.now
    ∙ ap (λ (e : End State). read_out a.delay a.es.now a.ws.now a.cs.now e) (held-read (hash_from a.start) a.s.now sound (room_of a.es.now a.ws.now a.cs.now))
    ∙ sym (read-undamaged (hash_from a.start) a.delay a.s.now a.es.now a.ws.now a.cs.now set sound)
