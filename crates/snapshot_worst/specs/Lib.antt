-- `Number`: what an input asks for, as the code says it. `NumberLaws`: reading it. `WorstLaws`: the worst counters laid and written.
pub mod Number
pub mod NumberLaws
pub mod WorstLaws
