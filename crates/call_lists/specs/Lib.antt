-- `Answers`: what a call reads of its bytes, and how an answer is written. `Lines`: where a line ends, and the bytes that it spells. `Tallies`: a step more. `Laws`: laws of these.
pub mod Answers
pub mod Lines
pub mod Tallies
pub mod Laws
