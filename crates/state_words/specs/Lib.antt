-- `Words`: the state records as words, and what a call that is lent words says. `WordLaws`: records and their words spell each other.
pub mod Words
pub mod WordLaws
