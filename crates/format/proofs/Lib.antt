-- `RecordLaws`: a whole record is read back, and a cut one is short.
-- `RefusalLaws`: each refusal of the two calls, exactly when.
-- `ModeLaws`: the same of the calls in a mode.
-- `TakenLaws`: the items of a record that is taken are its delta.
-- `ExactLaws`: it is the record that encoding writes.
-- `BesideLaws`: beside a refusal every figure is 0.
pub mod BesideLaws
pub mod ExactLaws
pub mod ModeLaws
pub mod RecordLaws
pub mod RefusalLaws
pub mod TakenLaws
