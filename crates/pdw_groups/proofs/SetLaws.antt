-- A left part and what is left of a set: they have no leaf in common, and together they are the set.
use Rattle.std.proofs.Common.{◌≡◌, ℕ, zero, suc, ◌+◌, ◌<◌, ◌%◌, ◌==◌, ◌&&◌, ◌||◌, true, false, min, refl, sym, ap, ◌∙◌, arith, bit_and, eqb-true}
use Rattle.std.specs.Int.{bit_at}
use Rattle.std.specs.Int.Bits.{bit_xor}
use Rattle.std.proofs.lemmas.Bool.{and_parts}
use Rattle.std.proofs.lemmas.Nat.Bits.{bit_at-lt, bit_at_and, bit_at_xor}
use Rattle.pdw_groups.specs.Level.{is_left, set_of}
use Rattle.pdw_groups.specs.declared.block.Level.{Level}
use Rattle.pdw_parts.specs.Part.{AreDisjoint, either}

-- a bit of a left part and the bit of the set
bits-apart : (a m : ℕ) → a < 2 → m < 2 → min a m ≡ a → ((a == 1) && (((a + m) % 2) == 1)) ≡ false
bits-apart zero m small less inside = refl
bits-apart (suc zero) zero small less inside = absurd (omega (arith, inside))
bits-apart (suc zero) (suc zero) small less inside = refl
bits-apart (suc zero) (suc (suc m)) small less inside = absurd (omega arith)
bits-apart (suc (suc a)) m small less inside = absurd (omega arith)

bits-together : (a m : ℕ) → a < 2 → m < 2 → min a m ≡ a → ((a == 1) || (((a + m) % 2) == 1)) ≡ (m == 1)
bits-together zero zero small less inside = refl
bits-together zero (suc zero) small less inside = refl
bits-together zero (suc (suc m)) small less inside = absurd (omega arith)
bits-together (suc zero) zero small less inside = absurd (omega (arith, inside))
bits-together (suc zero) (suc zero) small less inside = refl
bits-together (suc zero) (suc (suc m)) small less inside = absurd (omega arith)
bits-together (suc (suc a)) m small less inside = absurd (omega arith)

module _ (mask left : ℕ) (inside : bit_and left mask ≡ left) where
  inside-at : (i : ℕ) → min (bit_at left i) (bit_at mask i) ≡ bit_at left i
  inside-at i = sym (bit_at_and left mask i) ∙ ap (λ n. bit_at n i) inside

  pub parts-disjoint : AreDisjoint (set_of left) (set_of (bit_xor left mask))
  parts-disjoint i =
      ap (λ n. (bit_at left i == 1) && (n == 1)) (bit_at_xor left mask i)
      ∙ bits-apart (bit_at left i) (bit_at mask i) (bit_at-lt left i) (bit_at-lt mask i) (inside-at i)

  pub parts-together : either (set_of left) (set_of (bit_xor left mask)) ≡ set_of mask
  parts-together = λ k i. at i k
    where
      at : (i : ℕ) → either (set_of left) (set_of (bit_xor left mask)) i ≡ set_of mask i
      at i =
          ap (λ n. (bit_at left i == 1) || (n == 1)) (bit_at_xor left mask i)
          ∙ bits-together (bit_at left i) (bit_at mask i) (bit_at-lt left i) (bit_at-lt mask i) (inside-at i)

-- a left part lies inside the set
pub left-inside : (level : Level) (mask left : ℕ) → is_left level mask left ≡ true → bit_and left mask ≡ left
left-inside level mask left is = eqb-true (bit_and left mask) left (and_parts (bit_and left mask == left) _ is).0
