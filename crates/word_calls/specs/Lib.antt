-- What the calls say, over words: `CountersSaid` on the counters and their snapshots, `NurserySaid` on the nursery, `RecordSaid` on records and journals.
pub mod CountersSaid
pub mod NurserySaid
pub mod RecordSaid
