-- What the input asks for is at most 200, and where it asks for nothing, nothing is written.
use Rattle.std.specs.Prelude.{◌≡◌, ℕ, ◌≤◌, Bool, ◌&&◌, List, [], length, leb, Some, None}
use Rattle.std.proofs.Math.Path.{refl}
use Rattle.std.proofs.Math.Bool.{true, false}
use Rattle.std.proofs.Math.Option.{Option, none, some}
use Rattle.std.proofs.Common.{sym, ap, ◌∙◌, arith}
use borrow.Author.Tests.{leb-true, le-ltb}
use Rattle.base.specs.Logic.{all, overlay}
use Rattle.base.specs.Maybe.{◌>>◌, ensure}
use Rattle.base.specs.Answers.{taken, Taken}
use Rattle.base.specs.Output.{effect, fitting, put, written}
use Rattle.snapshot.specs.Write.{snapshot_bytes}
use Rattle.snapshot_bound.specs.Bound.{worst}
use Rattle.snapshot_bound.specs.Asked.{digit, unended, decimal, most, spelled, asked, answered}
use Rattle.snapshot_worst.specs.Number.{number_of}
use Rattle.snapshot_worst.proofs.answer.Goals as goal

-- ---- what is asked for, from the number that stands for it
none-asked : (o : Option ℕ) → None ≡ number_of o → o ≡ none
unfolding number_of
none-asked none e = refl
none-asked (some n) e = cc

some-asked : (o : Option ℕ) (n : ℕ) → Some n ≡ number_of o → o ≡ some n
unfolding number_of
some-asked none n e = cc
some-asked (some m) n e = cc

-- ---- no more than the most
spelled-most : (bs : List ℕ) (n : ℕ) → spelled 0 bs ≡ some n → n ≤ most
unfolding spelled
spelled-most bs n e = go (all digit bs) (leb (decimal 0 bs) most) refl e
  where
    go : (p q : Bool) → leb (decimal 0 bs) most ≡ q → ensure (p && q) >> some (decimal 0 bs) ≡ some n → n ≤ most
    go true true r f = let same : decimal 0 bs ≡ n = cc in omega (arith, leb-true (decimal 0 bs) most r)
    go true false r f = cc
    go false q r f = cc

asked-most : (bs : List ℕ) (n : ℕ) → asked bs ≡ some n → n ≤ most
unfolding asked
asked-most bs n e = go (leb 1 (length (unended bs)) && leb (length (unended bs)) 3) e
  where
    go : (p : Bool) → ensure p >> spelled 0 (unended bs) ≡ some n → n ≤ most
    go true f = spelled-most (unended bs) n f
    go false f = cc

-- ---- what is written
nothing-answered : (bs : List ℕ) → asked bs ≡ none → answered bs ≡ []
unfolding answered
nothing-answered bs e = rw e

nothing-written : (out : List ℕ) → effect (record { answer = Taken; len = 0 }) out ≡ written out (taken [])
unfolding written put fitting overlay
nothing-written out = rw (le-ltb (length out) 0 (omega arith))

worst-answered : (bs : List ℕ) (n : ℕ) → asked bs ≡ some n → snapshot_bytes (worst n) ≡ answered bs
unfolding answered
worst-answered bs n e = rw e

pub returns-in-None : goal.returns-in-None
returns-in-None c =
    let bs = c.args.input.now in
    rw (nothing-answered bs (none-asked (asked bs) (sym c.in-None.is ∙ c.read_number.ensures))) (nothing-written c.args.out.now)

pub write_worst-requires : goal.write_worst-requires
write_worst-requires c =
    let bs = c.args.input.now in
    asked-most bs c.in-Some.n (some-asked (asked bs) c.in-Some.n (sym c.in-Some.is ∙ c.read_number.ensures))

pub returns-in-Some : goal.returns-in-Some
returns-in-Some c =
    let bs = c.args.input.now in
    let e = some-asked (asked bs) c.in-Some.n (sym c.in-Some.is ∙ c.read_number.ensures) in
    c.write_worst.ensures ∙ ap (λ (l : List ℕ). written c.args.out.now (taken l)) (worst-answered bs c.in-Some.n e)
