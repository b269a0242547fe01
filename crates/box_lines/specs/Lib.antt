-- `Lines`: an item's first six bytes, and the text of a run. `LineLaws`: laws of text. `Worked`: texts that are evaluated.
pub mod Lines
pub mod LineLaws
pub mod Open
pub mod Worked
