-- `TextLaws`: the text of a run, item by item, as the loop over an input puts it into an output. `ReadLaws`: an item may be read alone.
pub mod TextLaws
pub mod ReadLaws
