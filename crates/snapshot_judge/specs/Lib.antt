-- `Judge`: what is judged of both tiers. `Decide`: what is decided before anything is written. `JudgeLaws`, `DecideLaws`: each way there.
pub mod Judge
pub mod Decide
pub mod JudgeLaws
pub mod DecideLaws
