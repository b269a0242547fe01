-- A record that is taken: its payload lies in the bytes, and its items are the delta that it was decoded to, in the form that a delta is lent in.
-- Assumes nothing.
use Rattle.std.specs.Prelude.{◌≡◌, List, ℕ, ◌+◌, ◌-◌, ◌≤◌, length, take, drop}
use Rattle.std.proofs.Common.{ap, ◌∙◌, arith, drop-drop}
use Rattle.std.proofs.Math.Option.{some}
use Rattle.base.specs.Bytes.{unle}
use Rattle.base.specs.Answers.{taken}
use Rattle.slices.specs.Laws.{length_part, drop-take}
use Rattle.cell_nursery.specs.Items.{delta_of}
use Rattle.cell_nursery.proofs.ItemLaws.{delta-counts}
use Rattle.format.specs.Record.{Decoding, stats_of, decode, stated, payload}
use Rattle.format.proofs.RefusalLaws.{payload-some, parse-taken, decode-taken}

pub record Lent (bs : List ℕ) (x : Decoding) : Type 0 where
  pub head : 16 ≤ x.stats.payload_bytes
  pub inside : 40 + x.stats.payload_bytes ≤ length bs
  pub items : delta_of 2 x.stats.insert_ops x.stats.remove_ops (take (x.stats.payload_bytes - 16) (drop 56 bs)) ≡ some x.delta

pub taken-lent : (hash : List ℕ → List ℕ) (bs : List ℕ) (x : Decoding) → decode hash bs ≡ taken x → Lent bs x
unfolding stats_of
taken-lent hash bs x e =
    let (whole, matches, (p, i, same)) = (parse-taken hash bs x).0 ((decode-taken hash bs x).0 e).0 in
    let (long, items, id) = (payload-some (payload bs) p).0 i in
    let n : ℕ = stated bs in
    let size : length (payload bs) ≡ n = length_part bs 40 n whole.1 in
    let counts = delta-counts 2 (unle (take 4 (drop 8 (payload bs)))) (unle (take 4 (drop 12 (payload bs)))) (drop 16 (payload bs)) p.delta items in
    let k : n ≡ 16 + (n - 16) = omega arith in
    let rest : drop 16 (payload bs) ≡ take (n - 16) (drop 56 bs) =
    ap (λ (j : ℕ). drop 16 (take j (drop 40 bs))) k ∙ drop-take 16 (n - 16) (drop 40 bs) ∙ ap (λ (l : List ℕ). take (n - 16) l) (drop-drop 16 40 bs) in
    rw same (record { head = omega arith; inside = whole.1; items = rw (counts.0, counts.1, ← rest) items })
