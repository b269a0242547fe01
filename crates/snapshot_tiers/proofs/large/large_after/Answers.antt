use mathlib.Core.Path.{sym, ◌∙◌}
use mathlib.Core.Bool.{false≢true}
use lib.ListN.{drop}
use Rattle.snapshot_tiers.specs.Heads.{raw_of}
use Rattle.snapshot_tiers.specs.StayLaws.{head-stays}
use Rattle.snapshot_tiers.proofs.large.large_after.Goals as goal

pub returns-in_default : goal.returns-in_default
returns-in_default c =
    let a = c.args in
    let e = c.in-Some.is in
    sym e ∙ head-stays a.lo (raw_of a.n (drop a.at a.s.now)) a.b c.requires.head_to (λ f. rw e c.if-h-lo.false)

pub returns-in_default-2 : goal.returns-in_default-2
returns-in_default-2 c =
    let a = c.args in
    head-stays a.lo (raw_of a.n (drop a.at a.s.now)) a.b c.requires.head_to (λ f. absurd (false≢true (rw c.in_default.is at f)))
