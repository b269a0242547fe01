-- `Steps`: what an insert takes, and what a step leaves. `InsertLaws`, `RemoveLaws`: what the parts of a step leave is what the step does to the state.
pub mod Steps
pub mod InsertLaws
pub mod RemoveLaws
