-- `Steps`: the kinds of transitions that are counted, and the two passes of a batch. `KindLaws`: the kinds, test by test. `PassLaws`: a pass, one
-- transition after the other. `KeptLaws`: both passes together.
pub mod Steps
pub mod KindLaws
pub mod PassLaws
pub mod KeptLaws
