use Rattle.rows.specs.Keys.{keys, first_word, place}
use Rattle.rows.proofs.KeyLaws.{place-le, length-keys}
use Rattle.nursery_rows.specs.Rows.{waiter_for, inserted_at}
use mathlib.Core.Path.{◌≡◌, ap, ◌∙◌}
use Prim.Native.Nat.{ℕ, suc, ◌+◌}
use native.Mathlib.Omega.{arith}
use native.Mathlib.Numerals.{add-one}
use Rattle.nursery_rows.proofs.waiting.insert_waiting.Goals as goal

pub overflow_mul-k : goal.overflow_mul-k
overflow_mul-k c =
    let a = c.args in
    omega (arith, c.find-k.ensures, place-le (a.born + 1) (keys first_word 5 a.n a.t.now), length-keys first_word 5 a.n a.t.now)

pub insert_row-requires : goal.insert_row-requires
insert_row-requires c =
    let a = c.args in
    omega (arith, c.find-k.ensures, place-le (a.born + 1) (keys first_word 5 a.n a.t.now), length-keys first_word 5 a.n a.t.now)

pub returns : goal.returns
returns c =
    let a = c.args in
    let here : c.find-k.result ≡ place (suc a.born) (keys first_word 5 a.n a.t.now) = c.find-k.ensures ∙ rw (add-one a.born) in
    c.insert_row.ensures ∙ ap (λ (k : ℕ). inserted_at k a.n (waiter_for a.born a.hash) a.t.now) here
