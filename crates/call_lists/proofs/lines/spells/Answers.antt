-- `call_lists::lines::spells`.
-- Assumes nothing.
use Rattle.std.proofs.Common.{sym, refl, ◌∙◌, arith}
use Rattle.call_lists.specs.Laws.{spells-not-hex, spells-other-length, pair-differs, pair-same, spells-differs, spells-turn, spells-end}
use Rattle.call_lists.proofs.lines.spells.Goals as goal

pub returns-then-not-is_hex : goal.returns-then-not-is_hex
returns-then-not-is_hex c =
    let a = c.args in
    spells-not-hex a.text.now a.bytes.now (sym c.is_hex.ensures ∙ c.if-not-is_hex.true)

pub returns-then-text-bytes : goal.returns-then-text-bytes
returns-then-text-bytes c =
    let a = c.args in
    spells-other-length a.text.now a.bytes.now (sym c.is_hex.ensures ∙ c.if-not-is_hex.false) c.if-text-bytes.true

pub loop-n-init : goal.loop-n-init
loop-n-init c = refl

pub returns-then-ne : goal.returns-then-ne
returns-then-ne c =
    let l = c.loop-n in
    let a = c.args in
    spells-differs a.text.now a.bytes.now l.n (sym c.is_hex.ensures ∙ c.if-not-is_hex.false) l.invariant (omega arith) (omega arith)
    (pair-differs _ _ _ c.pair_at.ensures.0 (omega (arith, c.type_inv.bytes l.n)) c.if-ne.ensures)

pub loop-n-preserved : goal.loop-n-preserved
loop-n-preserved c =
    let l = c.loop-n in
    let a = c.args in
    spells-turn a.text.now a.bytes.now l.n l.invariant (omega arith) (omega arith) (pair-same _ _ _ c.pair_at.ensures.0 c.if-ne.ensures)

pub returns : goal.returns
returns c =
    let l = c.loop-n in
    let a = c.args in
    spells-end a.text.now a.bytes.now l.n (sym c.is_hex.ensures ∙ c.if-not-is_hex.false) l.invariant (omega arith) (omega arith)
