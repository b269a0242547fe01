-- Keys of four words are the same and order as their words are and do, the highest first: so the derived comparisons are those of the keys' numbers.
-- Assumes nothing.
use Rattle.std.specs.Prelude.{◌≡◌, Bool, true, false, ◌&&◌, Option, Some, List, ℕ, ◌+◌, ◌*◌, ◌^◌, ◌<◌, ◌≤◌, drop, get_or}
use Rattle.std.specs.Ordering.{is_lt, is_some_and, nat_cmp, partial_lt, partial_ordering_then}
use Rattle.std.proofs.Common.{Ordering, sym, ap, ◌∙◌, arith, eqb, ltb, eqb-true, eq-eqb, ne_eqb, ltb-true, ltb-false, le-ltb, lt-ltb, get_or-drop}
use Rattle.std.proofs.Math.Decide.{dec_lt}
use Rattle.std.proofs.lemmas.Bool.{eqb-false}
use Rattle.std.proofs.lemmas.Bool.Decides.{nat_tests}
use Rattle.base.specs.Bytes.{number}
use Rattle.rows.specs.declared.Wide.{Wide}
use Rattle.rows.specs.contracts.WidePartialEq.TheImpl as equality
use Rattle.rows.specs.contracts.WidePartialOrd.TheImpl as order
use Rattle.rows.specs.Keys.{first_four}
use Rattle.rows.specs.Wide.{key_of}

-- the key of a row whose words begin at a place
pub four-at : (t : List ℕ) (at : ℕ)
    → key_of (record { 0 = get_or t at 0; 1 = get_or t (at + 1) 0; 2 = get_or t (at + 2) 0; 3 = get_or t (at + 3) 0 }) ≡ first_four (drop at t)
unfolding key_of first_four
four-at t at =
    let q : at + 0 ≡ at = omega arith in
    rw (get_or-drop at t 0 0, get_or-drop at t 1 0, get_or-drop at t 2 0, get_or-drop at t 3 0, q)

-- a higher word that differs decides; where it doesn't, the lower one does
high : (x y u v : ℕ) → x < 2 ^ 64 → y < 2 ^ 64 → (u ≡ v → ⊥) → ltb u v ≡ ltb (x + 2 ^ 64 * u) (y + 2 ^ 64 * v)
high x y u v hx hy ne =
    elim (dec_lt u v) [
      | yes h ↦ rw (lt-ltb u v h, lt-ltb (x + 2 ^ 64 * u) (y + 2 ^ 64 * v) (omega arith))
      | no h ↦ rw (le-ltb u v (omega arith), le-ltb (x + 2 ^ 64 * u) (y + 2 ^ 64 * v) (omega (arith, ne)))
    ]

low : (x y u : ℕ) → ltb x y ≡ ltb (x + 2 ^ 64 * u) (y + 2 ^ 64 * u)
low x y u =
    elim (dec_lt x y) [
      | yes h ↦ rw (lt-ltb x y h, lt-ltb (x + 2 ^ 64 * u) (y + 2 ^ 64 * u) (omega arith))
      | no h ↦ rw (le-ltb x y (omega arith), le-ltb (x + 2 ^ 64 * u) (y + 2 ^ 64 * u) (omega arith))
    ]

-- so do equal numbers have equal words
high_same : (x y u v : ℕ) → x < 2 ^ 64 → y < 2 ^ 64 → x + 2 ^ 64 * u ≡ y + 2 ^ 64 * v → u ≡ v
high_same x y u v hx hy e = omega arith

low_same : (x y u v : ℕ) → x < 2 ^ 64 → y < 2 ^ 64 → x + 2 ^ 64 * u ≡ y + 2 ^ 64 * v → x ≡ y
low_same x y u v hx hy e = omega arith

-- of two numbers, their order decides where they differ, and what follows where they don't
decide : (x y : ℕ) (rest : Option Ordering) (r : Bool) → ((x ≡ y → ⊥) → ltb x y ≡ r) → (x ≡ y → is_some_and is_lt rest ≡ r)
    → is_some_and is_lt (partial_ordering_then (Some (nat_cmp x y)) rest) ≡ r
decide x y rest r here there = grind (arith, nat_tests)

last : (x y : ℕ) → is_lt (nat_cmp x y) ≡ ltb x y
last x y = grind (arith, nat_tests)

both : (x y : ℕ) (rest r : Bool) → ((x ≡ y → ⊥) → false ≡ r) → (x ≡ y → rest ≡ r) → (eqb x y && rest) ≡ r
both x y rest r here there = grind (arith, nat_tests)

alone : (x y : ℕ) (r : Bool) → ((x ≡ y → ⊥) → false ≡ r) → (x ≡ y → true ≡ r) → eqb x y ≡ r
alone x y r here there = grind (arith, nat_tests)

-- the words are u64
pub record Words (k : Wide) : Type 0 where
  pub first : k.0 < 2 ^ 64
  pub second : k.1 < 2 ^ 64
  pub third : k.2 < 2 ^ 64
  pub fourth : k.3 < 2 ^ 64

module _ (a b : Wide) (ha : Words a) (hb : Words b) where
  -- the numbers of the first word, of the first two, and of the first three
  abbrev one : Wide → ℕ
  one k = k.0 + 2 ^ 64 * 0

  abbrev two : Wide → ℕ
  two k = k.1 + 2 ^ 64 * one k

  abbrev three : Wide → ℕ
  three k = k.2 + 2 ^ 64 * two k

  from-three : (three a ≡ three b → ⊥) → ltb (three a) (three b) ≡ ltb (key_of a) (key_of b)
  unfolding key_of number
  from-three ne = high a.3 b.3 (three a) (three b) ha.fourth hb.fourth ne

  from-two : (two a ≡ two b → ⊥) → ltb (two a) (two b) ≡ ltb (key_of a) (key_of b)
  from-two ne =
      high a.2 b.2 (two a) (two b) ha.third hb.third ne
      ∙ from-three (λ e. ne (high_same a.2 b.2 (two a) (two b) ha.third hb.third e))

  pub by_first : (a.0 ≡ b.0 → ⊥) → ltb a.0 b.0 ≡ ltb (key_of a) (key_of b)
  by_first ne =
      let e : (k : Wide) → k.0 ≡ one k = λ k. omega arith in
      let n : one a ≡ one b → ⊥ = λ q. ne (e a ∙ q ∙ sym (e b)) in
      ap (λ (x : ℕ). ltb x b.0) (e a) ∙ ap (λ (y : ℕ). ltb (one a) y) (e b)
      ∙ high a.1 b.1 (one a) (one b) ha.second hb.second n
      ∙ from-two (λ q. n (high_same a.1 b.1 (one a) (one b) ha.second hb.second q))

  pub by-second : a.0 ≡ b.0 → (a.1 ≡ b.1 → ⊥) → ltb a.1 b.1 ≡ ltb (key_of a) (key_of b)
  by-second e ne =
      low a.1 b.1 (one a) ∙ ap (λ (x : ℕ). ltb (two a) (b.1 + 2 ^ 64 * (x + 2 ^ 64 * 0))) e
      ∙ from-two (λ q. ne (low_same a.1 b.1 (one a) (one b) ha.second hb.second q))

  pub by-third : a.0 ≡ b.0 → a.1 ≡ b.1 → (a.2 ≡ b.2 → ⊥) → ltb a.2 b.2 ≡ ltb (key_of a) (key_of b)
  by-third e₀ e₁ ne =
      let e : two a ≡ two b = rw (e₀, e₁) in
      low a.2 b.2 (two a) ∙ ap (λ (x : ℕ). ltb (three a) (b.2 + 2 ^ 64 * x)) e
      ∙ from-three (λ q. ne (low_same a.2 b.2 (two a) (two b) ha.third hb.third q))

  pub by-fourth : a.0 ≡ b.0 → a.1 ≡ b.1 → a.2 ≡ b.2 → ltb a.3 b.3 ≡ ltb (key_of a) (key_of b)
  unfolding key_of number
  by-fourth e₀ e₁ e₂ =
      let e : three a ≡ three b = rw (e₀, e₁, e₂) in
      low a.3 b.3 (three a) ∙ ap (λ (x : ℕ). ltb (a.3 + 2 ^ 64 * three a) (b.3 + 2 ^ 64 * x)) e

  -- keys are the same only where all their words are
  words-same : key_of a ≡ key_of b → (a.0 ≡ b.0) × (a.1 ≡ b.1) × (a.2 ≡ b.2) × (a.3 ≡ b.3)
  unfolding key_of number
  words-same e =
      let x = high_same a.3 b.3 (three a) (three b) ha.fourth hb.fourth e in
      let y = high_same a.2 b.2 (two a) (two b) ha.third hb.third x in (
        omega (arith, high_same a.1 b.1 (one a) (one b) ha.second hb.second y),
        low_same a.1 b.1 (one a) (one b) ha.second hb.second y,
        low_same a.2 b.2 (two a) (two b) ha.third hb.third x,
        low_same a.3 b.3 (three a) (three b) ha.fourth hb.fourth e,
      )

  -- so the derived equality is that of the keys
  pub alike : equality.eq-value.it a b ≡ eqb (key_of a) (key_of b)
  unfolding key_of
  alike =
      let differ : (key_of a ≡ key_of b → ⊥) → false ≡ eqb (key_of a) (key_of b) = λ ne. sym (ne_eqb _ _ ne) in
      both a.0 b.0 _ _ (λ ne. differ (λ e. ne (words-same e).0))
      (λ e₀. both a.1 b.1 _ _ (λ ne. differ (λ e. ne (words-same e).1))
      (λ e₁. both a.2 b.2 _ _ (λ ne. differ (λ e. ne (words-same e).2))
      (λ e₂. alone a.3 b.3 _ (λ ne. differ (λ e. ne (words-same e).3))
      (λ e₃. sym (eq-eqb (key_of a) (key_of b) (rw (e₀, e₁, e₂, e₃)))))))

  -- so the derived order is that of the keys
  pub less : partial_lt order.partial_cmp-value.it a b ≡ ltb (key_of a) (key_of b)
  less =
      decide a.0 b.0 _ _ by_first
      (λ e₀. decide a.1 b.1 _ _ (by-second e₀)
      (λ e₁. decide a.2 b.2 _ _ (by-third e₀ e₁)
      (λ e₂. last a.3 b.3 ∙ by-fourth e₀ e₁ e₂)))

  -- what each answer of `a == b` and of `a < b` says
  module _ {r : Bool} where
    pub when-same : r ≡ equality.eq-value.it a b → r ≡ true → key_of a ≡ key_of b
    when-same e t = eqb-true (key_of a) (key_of b) (sym (e ∙ alike) ∙ t)

    pub when-other : r ≡ equality.eq-value.it a b → r ≡ false → key_of a ≡ key_of b → ⊥
    when-other e f = eqb-false (key_of a) (key_of b) (sym (e ∙ alike) ∙ f)

    pub when-less : r ≡ partial_lt order.partial_cmp-value.it a b → r ≡ true → key_of a < key_of b
    when-less e t = ltb-true (key_of a) (key_of b) (sym (e ∙ less) ∙ t)

    pub when-no-less : r ≡ partial_lt order.partial_cmp-value.it a b → r ≡ false → key_of b ≤ key_of a
    when-no-less e f = ltb-false (key_of a) (key_of b) (sym (e ∙ less) ∙ f)
