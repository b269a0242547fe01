-- `Passes`: what each pass over the table leaves. `Halves`: the table while rows that come wait at its end.
-- `MarkLaws`: rows that go. `JoinLaws`, `PutLaws`, `AsideLaws`: rows that come. `WordLaws`, `TableLaws`, `MergeLaws`: the words of rows as they move.
pub mod Passes
pub mod Halves
pub mod MarkLaws
pub mod JoinLaws
pub mod WordLaws
pub mod TableLaws
pub mod PutLaws
pub mod AsideLaws
pub mod MergeLaws
