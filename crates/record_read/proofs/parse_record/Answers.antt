-- `record_read::parse_record`. Hashing from the start without a key is hash mode.
-- Assumes nothing.
use mathlib.Core.Path.{ap, ◌∙◌}
use mathlib.Core.List.{List}
use Prim.Native.Nat.{ℕ}
use Rattle.blake3.specs.Mode.{unkeyed, hash_by}
use Rattle.blake3.specs.ModeLaws.{started}
use Rattle.format.specs.Calls.{parse_call}
use Rattle.record_read.proofs.parse_record.Goals as goal

pub returns : goal.returns
unfolding hash_by
returns c =
    let s : List ℕ = c.args.s.now in
    c.parse_from.ensures ∙ ap (λ (h : List ℕ → List ℕ). parse_call h s) (started unkeyed c.without_key.ensures)
