-- `Bound`: the bound, the counters that reach it, and what is claimed. `BoundLaws`: its proof. `CallLaws`: the bound, of the calls.
-- `Asked`: the input of the program that writes the longest snapshot. `AskedLaws`: its bytes one by one, and how many suffice. `Worked`: evaluated lines.
pub mod Bound
pub mod BoundLaws
pub mod CallLaws
pub mod Asked
pub mod AskedLaws
pub mod Worked
