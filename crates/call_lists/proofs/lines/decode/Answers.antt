-- `call_lists::lines::decode`.
-- Assumes nothing.
use Rattle.std.proofs.Common.{◌≡◌, ◌/◌, [], length, sym, refl, ap, ◌∙◌, arith, rules}
use Rattle.call_lists.specs.Lines.{pairs_of, decoded}
use Rattle.call_lists.specs.Laws.{length_pairs, hex-byte, has-byte, decoded-whole, decoded-no-room, decoded-none, none_over, decode-turn, decode-end}
use Rattle.call_lists.proofs.lines.decode.Goals as goal

pub returns-then-out-len : goal.returns-then-out-len
returns-then-out-len c =
    let a = c.args in
    let e : [] ≡ decoded a.text.now (length a.out.now) = decoded-no-room a.text.now (length a.out.now) (omega arith) in
    (search rules, ap length e, none_over a.out.now _ e)

pub returns-then-not-is_hex : goal.returns-then-not-is_hex
returns-then-not-is_hex c =
    let a = c.args in
    let e : [] ≡ decoded a.text.now (length a.out.now) =
    decoded-none a.text.now (length a.out.now) (omega arith) (sym c.is_hex.ensures ∙ c.if-not-is_hex.true) in
    (search rules, ap length e, none_over a.out.now _ e)

pub loop-n-init : goal.loop-n-init
loop-n-init c = (refl, sym c.is_hex.ensures ∙ c.if-not-is_hex.false, refl)

pub unwrap-requires : goal.unwrap-requires
unwrap-requires c =
    let l = c.loop-n in
    has-byte _ _ c.pair_at.ensures.0 (hex-byte c.args.text.now l.n l.invariant.1 (omega arith))

pub loop-n-preserved : goal.loop-n-preserved
loop-n-preserved c =
    let l = c.loop-n in
    let a = c.args in (
      search rules,
      l.invariant.1,
      decode-turn a.text.now a.out.now _ l.n _ l.invariant.2 (rw c.unwrap.ensures at c.pair_at.ensures.0) (omega arith) (omega arith),
    )

pub returns : goal.returns
returns c =
    let l = c.loop-n in
    let a = c.args in
    let e : pairs_of a.text.now ≡ decoded a.text.now (length a.out.now) =
    decoded-whole a.text.now (length a.out.now) (omega arith) l.invariant.1 in
    let k : l.n ≡ length a.text.now / 2 = omega arith in
    (search rules, sym (length_pairs a.text.now) ∙ ap length e, decode-end a.text.now a.out.now _ _ l.n l.invariant.2 k e)
