-- `CountersSaidLaws`, `NurserySaidLaws`, `RecordSaidLaws`: what these calls give, from what the calls under them give. `ReturnedLaws`: what the functions return, as what
-- these say.
pub mod CountersSaidLaws
pub mod NurserySaidLaws
pub mod RecordSaidLaws
pub mod ReturnedLaws
