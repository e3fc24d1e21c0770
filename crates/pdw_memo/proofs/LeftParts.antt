-- Every set of leaves that a level has is joined: of its last leaf, and of those before it.
use Rattle.std.proofs.Common.{◌≡◌, ◌≢◌, ℕ, zero, suc, ◌+◌, ◌-◌, ◌*◌, ◌^◌, ◌%◌, ◌<◌, ◌≤◌, ◌&&◌, ◌||◌, true, not, min, bit_and, count_ones, refl, sym, ap, ap₂, ◌∙◌, arith, eqb-true, eq-eqb, ne_eqb, pow-suc, ◌⊎◌, inl, inr}
use Rattle.std.specs.Int.{bit_at}
use Rattle.std.specs.Int.Bits.{bit_xor, xor_add_and, xor_disjoint}
use Rattle.std.proofs.Math.Bool.{or-true}
use Rattle.std.proofs.lemmas.Bool.{and_parts, cases_lt}
use Rattle.std.proofs.lemmas.Nat.{ones_le_self, zero_from_ones}
use Rattle.std.proofs.lemmas.Nat.Bits.{and_pow, bit_at-lt, bit_at-zero, bit_at_above, bit_at_and, bit_at_xor, same_from_bits}
use lib.Count.{leading_top, ones_cat}
use Rattle.pdw_groups.proofs.CountLaws.{power-ones}
use Rattle.pdw_groups.specs.Level.{has_join, has_set, is_left, is_one, is_several}
use Rattle.pdw_groups.specs.declared.block.Level.{Level}
use Rattle.pdw_groups.specs.declared.block.Level.TheVariants as level
use Rattle.pdw_memo.proofs.Weights.{set-several}

-- a bit of the leaves before, and the bit of the last leaf
bits-before : (a b : ℕ) → a < 2 → b < 2 → min a b ≡ 0 → min a ((a + b) % 2) ≡ a
bits-before zero zero small less apart = refl
bits-before zero (suc zero) small less apart = refl
bits-before zero (suc (suc b)) small less apart = absurd (omega arith)
bits-before (suc zero) zero small less apart = refl
bits-before (suc zero) (suc zero) small less apart = absurd (omega (arith, apart))
bits-before (suc zero) (suc (suc b)) small less apart = absurd (omega arith)
bits-before (suc (suc a)) b small less apart = absurd (omega arith)

-- the last leaf has the number `last`, and `before` are those before it
module _ (before last : ℕ) (less : before < 2 ^ last) where
  apart : bit_and before (2 ^ last) ≡ 0
  apart = and_pow before last ∙ ap (λ n. n * 2 ^ last) (bit_at_above before last last less (omega arith)) ∙ omega arith

  whole : bit_xor before (2 ^ last) ≡ before + 2 ^ last
  whole = xor_disjoint before (2 ^ last) apart

  apart-at : (i : ℕ) → min (bit_at before i) (bit_at (2 ^ last) i) ≡ 0
  apart-at i = sym (bit_at_and before (2 ^ last) i) ∙ ap (λ n. bit_at n i) apart ∙ bit_at-zero i

  pub before-inside : bit_and before (before + 2 ^ last) ≡ before
  before-inside =
      ap (bit_and before) (sym whole)
      ∙ same_from_bits (bit_and before (bit_xor before (2 ^ last))) before
      (λ i.
      bit_at_and before (bit_xor before (2 ^ last)) i
      ∙ ap (min (bit_at before i)) (bit_at_xor before (2 ^ last) i)
      ∙ bits-before (bit_at before i) (bit_at (2 ^ last) i) (bit_at-lt before i) (bit_at-lt (2 ^ last) i) (apart-at i))

  pub last-left : bit_xor before (before + 2 ^ last) ≡ 2 ^ last
  last-left =
      let all = xor_add_and before (before + 2 ^ last) in
      let both : bit_xor before (before + 2 ^ last) + before * 2 ≡ before + (before + 2 ^ last) = ap (λ n. bit_xor before (before + 2 ^ last) + n * 2) (sym before-inside) ∙ all in
      omega (arith, both)

  -- the first leaves as they are written: the leaves before the last are all that come before it
  first-leaves : is_one (before + 2 ^ last + 1) ≡ true → before + 1 ≡ 2 ^ last
  first-leaves one = by (cases_lt (before + 1) (2 ^ last))
    where
      count : count_ones (before + 2 ^ last + 1) ≡ 1
      count = eqb-true (count_ones (before + 2 ^ last + 1)) 1 one

      split : before + 2 ^ last + 1 ≡ 1 * 2 ^ last + (before + 1)
      split = omega arith

      by : (before + 1 < 2 ^ last) ⊎ (2 ^ last ≤ before + 1) → before + 1 ≡ 2 ^ last
      by (inl within) =
          let single : count_ones 1 ≡ 1 = power-ones 0 in
          let more : count_ones (before + 2 ^ last + 1) ≡ count_ones 1 + count_ones (before + 1) = ap count_ones split ∙ ones_cat last 1 (before + 1) within in
          let none : count_ones (before + 1) ≡ 0 = omega (arith, single, more, count) in
          let zero_is = zero_from_ones (before + 1) none in
          absurd (omega (arith, zero_is))
      by (inr after) = omega (arith, after, less)

  joined : (l : Level) → has_set l (before + 2 ^ last) ≡ true → has_join l before (2 ^ last) ≡ true
  joined l has = by l has
    where
      one : is_one (2 ^ last) ≡ true
      one = eq-eqb (count_ones (2 ^ last)) 1 (power-ones last)

      by : (l : Level) → has_set l (before + 2 ^ last) ≡ true → has_join l before (2 ^ last) ≡ true
      by level.Full has = refl
      by level.Linear has = ap (λ b. is_one before || b) one ∙ or-true (is_one before)
      by level.Written has =
          ap₂ (λ a b. a && b) one
          (eq-eqb (before + 1) (2 ^ last) (first-leaves (and_parts (is_several (before + 2 ^ last)) (is_one (before + 2 ^ last + 1)) has).1))

  some-before : (l : Level) → has_set l (before + 2 ^ last) ≡ true → before ≢ 0
  some-before l has none =
      let several = set-several l (before + 2 ^ last) has in
      let single : count_ones (before + 2 ^ last) ≡ 1 = ap (λ n. count_ones (n + 2 ^ last)) none ∙ ap count_ones (let same : 0 + 2 ^ last ≡ 2 ^ last = omega arith in same) ∙ power-ones last in
      absurd (omega (arith, several, single))

  pub before-left : (l : Level) → has_set l (before + 2 ^ last) ≡ true → is_left l (before + 2 ^ last) before ≡ true
  before-left l has =
      ap₂ (λ a b. a && b) (eq-eqb (bit_and before (before + 2 ^ last)) before before-inside)
      (ap₂ (λ a b. a && b) (ap not (ne_eqb before 0 (some-before l has)))
      (ap (has_join l before) last-left ∙ joined l has))

-- a left part of a set
pub record HasLeft (l : Level) (mask : ℕ) : Type 0 where
  pub left : ℕ
  pub less : left < mask
  pub is : is_left l mask left ≡ true

pub has-left : (l : Level) (mask count : ℕ) → mask < 2 ^ count → has_set l mask ≡ true → HasLeft l mask
has-left l mask count within has =
    let several = set-several l mask has in
    let ones = ones_le_self mask in
    let top = leading_top count mask (omega (arith, several, ones)) within in
    let low = top.2 in
    let high = top.3 in
    let twice = pow-suc 2 top.0 in
    let before = mask - 2 ^ top.0 in
    let less : before < 2 ^ top.0 = omega (arith, low, high, twice) in
    let same : before + 2 ^ top.0 ≡ mask = omega (arith, low) in
    let is : is_left l (before + 2 ^ top.0) before ≡ true = before-left before top.0 less l (ap (has_set l) same ∙ has) in
    record {
      left = before;
      less = omega (arith, same, low, several, ones, high, twice);
      is = ap (λ n. is_left l n before) (sym same) ∙ is;
    }
