-- What include/selvaigo.h promises of the calls over words: a refusal leaves all as it was, what the calls leave may be lent to the held forms,
-- which settings and keys are refused, that no call changes a setting, and what a journal's reading ends with. `Numbers` on answers, `CountersKept` on the
-- counters and their snapshots, `NurseryKept` on the nursery, `RecordKept` on records and journals.
pub mod Numbers
pub mod CountersKept
pub mod NurseryKept
pub mod RecordKept
