-- `journal_scan::damages`. By what ended the scan: no other refusal has the number of a record that is cut.
-- Assumes nothing.
use denote.Enum.Bare.{sameb}
use mathlib.Core.Bool.{not}
use mathlib.Core.Path.{◌≡◌, refl, ap, ◌∙◌}
use lib.Dec.{eqb}
use Rattle.base.specs.Answers.{number_of}
use Rattle.base.specs.contracts.Refusal.{the_type}
use Rattle.base.specs.declared.Refusal.{Refusal}
use Rattle.base.specs.declared.Refusal.TheVariants.{Spent, Unallocated, Repeated, OffTotal, FalseOld, TableFull, Version, TornSnapshot, BadBitmap, BadLarge, TierClash, Present, NurseryFull, TooLong, OutputFull, ShortRecord, FarLength, Mismatch, Misfit, Broken, Damaged, Leftover, BadSetting, FewCells}
use Rattle.journal.specs.Journal.{damages}
use Rattle.journal_scan.proofs.damages.Goals as goal

by-number : (r : Refusal) → sameb the_type r ShortRecord ≡ eqb (number_of r) 16
by-number = elim [
  | Spent ↦ refl
  | Unallocated ↦ refl
  | Repeated ↦ refl
  | OffTotal ↦ refl
  | FalseOld ↦ refl
  | TableFull ↦ refl
  | Version ↦ refl
  | TornSnapshot ↦ refl
  | BadBitmap ↦ refl
  | BadLarge ↦ refl
  | TierClash ↦ refl
  | Present ↦ refl
  | NurseryFull ↦ refl
  | TooLong ↦ refl
  | OutputFull ↦ refl
  | ShortRecord ↦ refl
  | FarLength ↦ refl
  | Mismatch ↦ refl
  | Misfit ↦ refl
  | Broken ↦ refl
  | Damaged ↦ refl
  | Leftover ↦ refl
  | BadSetting ↦ refl
  | FewCells ↦ refl
]

pub returns-in-Ok : goal.returns-in-Ok
unfolding damages
returns-in-Ok c = rw c.in-Ok.is

pub returns-in-Err : goal.returns-in-Err
unfolding damages
returns-in-Err c = rw c.in-Err.is (c.ne.ensures ∙ ap not (by-number c.in-Err.why))
