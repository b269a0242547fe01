-- `CallLaws`: the ways out of the calls.
pub mod CallLaws
