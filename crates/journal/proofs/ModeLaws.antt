-- Scanning and reading in a mode. They are 23 where its key is bad, reading also where its delay is; else they are the calls under the mode's hash.
-- Assumes nothing.
use Rattle.std.specs.Prelude.{◌≡◌, ◌↔◌, ◌⊎◌, Bool, ℕ, ◌<◌}
use Rattle.std.proofs.Math.Path.{refl}
use Rattle.std.proofs.Common.{sym, arith}
use Rattle.std.proofs.Math.Bool.{true, false}
use mathlib.Core.List.{List, [], ◌∷◌}
use Rattle.base.specs.Logic.{pick, any}
use Rattle.base.specs.AnswerLaws.{not-refused, Answers, first-refused, first_alone, later-refused, first-numbers}
use Rattle.base.specs.Answers.{Taken, Refused}
use Rattle.base.specs.declared.Refusal.{Refusal}
use Rattle.base.specs.declared.Refusal.TheVariants.{Damaged, BadSetting}
use Rattle.cell_nursery.specs.Layout.{delay_in_range}
use Rattle.blake3.specs.Mode.{Mode, bad_key, hash_by}
use Rattle.journal.specs.Returned.{ScanAnswer}
use Rattle.journal.specs.Journal.{scan, not_scanned, scan_under, damaged, ReadIn, not_read, read_call, read_under}
use Rattle.journal.proofs.ReadLaws.{read-setting, read-damage, read-numbers, read-refused}

-- ---- scanning
module _ (m : Mode) (bs : List ℕ) where
  pub scan-bad : bad_key m ≡ true → scan_under m bs ≡ not_scanned BadSetting
  unfolding scan_under
  scan-bad e = rw e

  pub scan_good : bad_key m ≡ false → scan_under m bs ≡ scan (hash_by m) bs
  unfolding scan_under
  scan_good e = rw e

  scan-answers : (q : Refusal) → (scan (hash_by m) bs).answer ≡ Refused q → ⊥
  unfolding scan
  scan-answers q e = not-refused e

  -- 23, bad setting: a key that isn't of 32 bytes, and no other refusal
  pub scan-key : ((scan_under m bs).answer ≡ Refused BadSetting) ↔ (bad_key m ≡ true)
  unfolding scan_under not_scanned
  scan-key = first_alone (λ (x : ScanAnswer). x.answer) (not_scanned BadSetting) (scan (hash_by m) bs) BadSetting refl (bad_key m) (scan-answers BadSetting)

  pub scan-numbers : Answers (23 ∷ []) (scan_under m bs).answer
  unfolding scan_under not_scanned
  scan-numbers = first-numbers (λ (x : ScanAnswer). x.answer) (not_scanned BadSetting) (scan (hash_by m) bs) BadSetting refl (bad_key m) [] (λ q e. absurd (scan-answers q e))

  -- beside it all is zeros
  pub scan-refused : (q : Refusal) → (scan_under m bs).answer ≡ Refused q → scan_under m bs ≡ not_scanned q
  unfolding scan_under not_scanned
  scan-refused q = go (bad_key m)
    where
      go : (b : Bool) → (pick b (not_scanned BadSetting) (scan (hash_by m) bs)).answer ≡ Refused q → pick b (not_scanned BadSetting) (scan (hash_by m) bs) ≡ not_scanned q
      go true e = let same : BadSetting ≡ q = cc in rw same
      go false e = absurd (scan-answers q e)

-- ---- reading
module _ (m : Mode) (delay : ℕ) (bs es ws cs : List ℕ) where
  abbrev under : ReadIn
  under = read_under m delay bs es ws cs

  abbrev call : ReadIn
  call = read_call (hash_by m) delay bs es ws cs

  pub read-bad-key : bad_key m ≡ true → under ≡ not_read BadSetting es ws cs
  unfolding read_under
  read-bad-key e = rw e

  pub read-good : bad_key m ≡ false → under ≡ call
  unfolding read_under
  read-good e = rw e

  -- 23, bad setting: a key that isn't of 32 bytes, or a delay of no round or of more than 10,000, whatever the bytes are
  pub read-key : (under.result.answer ≡ Refused BadSetting) ↔ ((bad_key m ≡ true) ⊎ ((delay ≡ 0) ⊎ (10000 < delay)))
  unfolding read_under not_read
  read-key =
      first-refused (λ (x : ReadIn). x.result.answer) (not_read BadSetting es ws cs) call BadSetting refl (bad_key m)
      (read-setting (hash_by m) delay bs es ws cs)

  -- 21, damaged: neither, and the journal is damaged under the mode's hash
  pub read-damage-under : (under.result.answer ≡ Refused Damaged) ↔ ((bad_key m ≡ false) × ((delay_in_range delay ≡ true) × (damaged (hash_by m) bs ≡ true)))
  unfolding read_under not_read
  read-damage-under =
      later-refused (λ (x : ReadIn). x.result.answer) (not_read BadSetting es ws cs) call BadSetting refl (bad_key m) (omega arith)
      (read-damage (hash_by m) delay bs es ws cs)

  -- a reading that is taken is that of the call, by a key that isn't bad
  pub read-taken-under : under.result.answer ≡ Taken → (bad_key m ≡ false) × (under ≡ call)
  unfolding read_under not_read
  read-taken-under = go (bad_key m) refl
    where
      go : (b : Bool) → bad_key m ≡ b → (pick b (not_read BadSetting es ws cs) call).result.answer ≡ Taken → (bad_key m ≡ false) × (pick b (not_read BadSetting es ws cs) call ≡ call)
      go true k e = absurd (not-refused (sym e))
      go false k e = (k, refl)

  -- beside a refusal all is zeros, and the tables are as they were
  pub read-refused-under : (q : Refusal) → under.result.answer ≡ Refused q → under ≡ not_read q es ws cs
  unfolding read_under not_read
  read-refused-under q = go (bad_key m)
    where
      go : (b : Bool) → (pick b (not_read BadSetting es ws cs) call).result.answer ≡ Refused q → pick b (not_read BadSetting es ws cs) call ≡ not_read q es ws cs
      go true e = let same : BadSetting ≡ q = cc in rw same
      go false e = read-refused (hash_by m) delay bs es ws cs q e

  -- 23 or 21, and no other
  pub read-numbers-under : Answers (23 ∷ 21 ∷ []) under.result.answer
  unfolding read_under not_read any
  read-numbers-under = go (bad_key m)
    where
      go : (b : Bool) → Answers (23 ∷ 21 ∷ []) (pick b (not_read BadSetting es ws cs) call).result.answer
      go true q e = let same : q ≡ BadSetting = cc in rw same
      go false q e = read-numbers (hash_by m) delay bs es ws cs q e
