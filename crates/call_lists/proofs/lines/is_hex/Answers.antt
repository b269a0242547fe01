-- `call_lists::lines::is_hex`.
-- Assumes nothing.
use Rattle.std.proofs.Common.{ap, ◌∙◌, arith}
use Rattle.std.specs.Prelude.{not}
use Rattle.call_lists.specs.Lines.{pairs_of}
use Rattle.call_lists.specs.Laws.{length_pairs, not-a-byte, a-byte, hex-turn, hex-none, hex-end}
use Rattle.call_lists.proofs.lines.is_hex.Goals as goal

pub returns-then-is_none : goal.returns-then-is_none
returns-then-is_none c =
    let l = c.loop-n in
    hex-none c.args.text.now l.n l.invariant (omega arith) (not-a-byte _ _ c.pair_at.ensures.0 (c.is_none.ensures ∙ ap not c.if-is_none.true))

pub loop-n-preserved : goal.loop-n-preserved
loop-n-preserved c =
    let l = c.loop-n in
    let t = c.args.text.now in
    let b = a-byte _ _ c.pair_at.ensures.0 c.pair_at.ensures.1 (c.is_none.ensures ∙ ap not c.if-is_none.false) in
    hex-turn (pairs_of t) l.n l.invariant (rw (length_pairs t) (omega arith)) b

pub returns : goal.returns
returns c = let l = c.loop-n in hex-end c.args.text.now l.n l.invariant (omega arith)
