use mathlib.Core.Path.{sym, ◌∙◌}
use native.Mathlib.Omega.{arith}
use lib.ListN.{length}
use Prim.Native.Nat.{◌-◌, ◌/◌, ◌%◌}
use mathlib.Core.Path.{◌≡◌}
use Rattle.std.proofs.Common.{Some, None}
use Rattle.std.proofs.lemmas.Result.{err_from_is_err_and}
use Rattle.base.specs.declared.Refusal.TheVariants.{TableFull, BadLarge, TierClash}
use Rattle.snapshot_judge.specs.Judge.{big_of, small_of, judged_from}
use Rattle.snapshot_judge.specs.DecideLaws.{next_of, judged-rows, reached-taken, read-ragged, read_low, read-clash, read-full, read_fits, verdict-refused, verdict-fits}
use Rattle.snapshot_judge.proofs.decide.decide_large.Goals as goal

pub returns-then-left-ne0 : goal.returns-then-left-ne0
returns-then-left-ne0 c = let a = c.args in verdict-refused a.room a.s.now BadLarge (read-ragged 0 a.room a.s.now a.end c.requires (omega arith))

pub returns-then-any_low : goal.returns-then-any_low
returns-then-any_low c =
    let a = c.args in
    let t = a.s.now in
    let f : (length t - a.end) % 16 ≡ 0 = omega arith in
    verdict-refused a.room t BadLarge (read_low 0 a.room t a.end c.requires f (sym c.any_low.ensures ∙ c.if-any_low.true))

pub judge-requires : goal.judge-requires
judge-requires c =
    record { sets = reached-taken c.args.s.now c.args.end c.requires; inside = omega (arith, c.requires.inside); high = sym c.any_low.ensures ∙ c.if-any_low.false }

pub returns-in_err-rows : goal.returns-in_err-rows
returns-in_err-rows c =
    let a = c.args in
    let t = a.s.now in
    let f : (length t - a.end) % 16 ≡ 0 = omega arith in
    let n : c.judge.result ≡ None = grind arith in
    let e : c.in_err-rows.field-0.0 ≡ TierClash = grind arith in
    let p = err_from_is_err_and c.from_residual.result c.from_residual.ensures.1 in
    rw (p.1, p.2, e) (verdict-refused a.room t TierClash (read-clash 0 a.room t a.end c.requires f (sym c.any_low.ensures ∙ c.if-any_low.false) (rw (← c.read_le64-next.ensures) (sym n ∙ c.judge.ensures))))

pub returns-then-room-rows : goal.returns-then-room-rows
returns-then-room-rows c =
    let a = c.args in
    let t = a.s.now in
    let f : (length t - a.end) % 16 ≡ 0 = omega arith in
    let n : c.judge.result ≡ Some c.in_ok-rows.rows = grind arith in
    verdict-refused a.room t TableFull
    (read-full 0 a.room t a.end c.requires f (sym c.any_low.ensures ∙ c.if-any_low.false) c.in_ok-rows.rows (rw (← c.read_le64-next.ensures) (sym n ∙ c.judge.ensures)) (omega arith))

pub returns : goal.returns
returns c =
    let a = c.args in
    let t = a.s.now in
    let f : (length t - a.end) % 16 ≡ 0 = omega arith in
    let n : c.judge.result ≡ Some c.in_ok-rows.rows = grind arith in
    let m = (length t - a.end) / 16 in
    let q : Some c.in_ok-rows.rows ≡ judged_from 0 (next_of t) (big_of t a.end m) (small_of t 17) = rw (← c.read_le64-next.ensures) (sym n ∙ c.judge.ensures) in
    rw (c.read_le64-next.ensures, c.read_le64-live.ensures, judged-rows (next_of t) (big_of t a.end m) (small_of t 17) c.in_ok-rows.rows q)
    (verdict-fits a.room t a.end c.requires _ (read_fits 0 a.room t a.end c.requires f (sym c.any_low.ensures ∙ c.if-any_low.false) c.in_ok-rows.rows q (omega arith)))
