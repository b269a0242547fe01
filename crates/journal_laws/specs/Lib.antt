-- `DeltaLaws`: what a delta read from bytes fits.
-- `HoldLaws`: an accepted call leaves tables that hold a state. `ReadLaws`: the reading of a journal that is cut. `LoadLaws`: of one of any bytes.
-- `EndLaws`: what a reading ends with, exactly when. `ConvertLaws`: what converting a journal keeps.
pub mod DeltaLaws
pub mod HoldLaws
pub mod ReadLaws
pub mod LoadLaws
pub mod EndLaws
pub mod ConvertLaws
