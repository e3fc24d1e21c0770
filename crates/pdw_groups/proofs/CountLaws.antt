-- How many leaves a set has, and which sets a level has.
use Rattle.std.proofs.Common.{◌≡◌, ◌≢◌, ℕ, zero, suc, ◌+◌, ◌-◌, ◌*◌, ◌^◌, ◌/◌, ◌%◌, ◌<◌, ◌≤◌, ◌==◌, ◌&&◌, Bool, true, not, List, [], ◌∷◌, length, count_ones, bit_and, refl, sym, ap, ap₂, subst, ◌∙◌, arith, eqb-true, eq-eqb, true≢false, if◌then◌else◌, ◌⊎◌, inl, inr, pow-suc, le-leb}
use Rattle.std.specs.Int.Bits.{bit_xor, xor_add_and}
use Rattle.std.proofs.lemmas.Bool.{and_parts}
use Rattle.std.proofs.lemmas.Nat.{zero_from_ones}
use Rattle.std.proofs.lemmas.Nat.Bits.{bit_at-suc, bit_at_lowest, bit_at_ones}
use Rattle.std.proofs.lemmas.Nat.{mod_below}
use Rattle.std.proofs.Math.Pow.{suc_ones}
use lib.Count.{ones, ones_step, ones-ones}
use Rattle.pdw_groups.specs.Level.{has_join, has_set, is_left, is_one, is_several, set_of}
use Rattle.pdw_groups.specs.declared.block.Level.{Level}
use Rattle.pdw_groups.specs.declared.block.Level.TheVariants as level
use Rattle.pdw_parts.specs.Part.{LeafSet, chosen}

-- ---- how many are chosen

half-small : (m k : ℕ) → m < 2 ^ suc k → m / 2 < 2 ^ k
half-small m k less = omega (arith, pow-suc 2 k)

later-half : (m : ℕ) → (λ i. set_of m (suc i)) ≡ set_of (m / 2)
later-half m = λ k i. ap (λ n. n == 1) (bit_at-suc m i) k

lowest : (m : ℕ) → set_of m 0 ≡ ((m % 2) == 1)
lowest m = ap (λ n. n == 1) (bit_at_lowest m)

pub chosen-count : {X : Type 0} (xs : List X) (m : ℕ) → m < 2 ^ length xs → length (chosen (set_of m) xs) ≡ count_ones m
unfolding ones
chosen-count [] m less = let none : m ≡ 0 = omega (arith, less) in sym (ap count_ones none)
chosen-count {X = X} (x ∷ xs) m less =
    ap (λ (set : LeafSet). length (if set_of m 0 then x ∷ chosen set xs else chosen set xs)) (later-half m)
    ∙ ap (λ (b : Bool). length (if b then x ∷ chosen (set_of (m / 2)) xs else chosen (set_of (m / 2)) xs)) (lowest m)
    ∙ by (m % 2) (mod_below m 2 (omega arith)) (chosen-count xs (m / 2) (half-small m (length xs) less))
    ∙ sym (ones_step m)
  where
    by : (r : ℕ) → r < 2 → length (chosen (set_of (m / 2)) xs) ≡ count_ones (m / 2)
        → length (if r == 1 then x ∷ chosen (set_of (m / 2)) xs else chosen (set_of (m / 2)) xs) ≡ r + count_ones (m / 2)
    by zero small rest = rest ∙ omega arith
    by (suc zero) small rest = ap suc rest ∙ omega arith
    by (suc (suc r)) small rest = absurd (omega (arith, small))

-- ---- the whole set

pub chosen-whole : {X : Type 0} (xs : List X) (set : LeafSet) → ((i : ℕ) → i < length xs → set i ≡ true) → chosen set xs ≡ xs
chosen-whole [] set all = refl
chosen-whole (x ∷ xs) set all =
    ap (λ (b : Bool). if b then x ∷ chosen (λ i. set (suc i)) xs else chosen (λ i. set (suc i)) xs) (all 0 (omega arith))
    ∙ ap (λ rest. x ∷ rest) (chosen-whole xs (λ i. set (suc i)) (λ i within. all (suc i) (omega (arith, within))))

pub whole-set : (k i : ℕ) → i < k → set_of (2 ^ k - 1) i ≡ true
whole-set k i less = ap (λ n. n == 1) (bit_at_ones k i less)

pub power-ones : (k : ℕ) → count_ones (2 ^ k) ≡ 1
unfolding ones
power-ones zero = refl
power-ones (suc k) =
    let half : 2 ^ suc k / 2 ≡ 2 ^ k = omega (arith, pow-suc 2 k) in
    let even : 2 ^ suc k % 2 ≡ 0 = omega (arith, pow-suc 2 k) in
    ones_step (2 ^ suc k) ∙ ap₂ (λ a b. a + count_ones b) even half ∙ ap (λ n. 0 + n) (power-ones k) ∙ omega arith

power-one : (n k : ℕ) → n ≡ 2 ^ k → is_one n ≡ true
power-one n k is = eq-eqb (count_ones n) 1 (ap count_ones is ∙ power-ones k)

-- a level has the set of all leaves, where there are several
pub has-whole : (l : Level) (k : ℕ) → 2 ≤ k → has_set l (2 ^ k - 1) ≡ true
has-whole l k several = by l
  where
    many : is_several (2 ^ k - 1) ≡ true
    many = le-leb 2 (count_ones (2 ^ k - 1)) (subst (λ n. 2 ≤ n) (sym (ones-ones k)) several)

    by : (l : Level) → has_set l (2 ^ k - 1) ≡ true
    by level.Full = many
    by level.Linear = many
    by level.Written = ap₂ (λ a b. a && b) many (power-one (2 ^ k - 1 + 1) k (omega (arith, suc_ones k)))

-- ---- the sides of a join

-- one leaf, or a set that the level has
abbrev pub IsPresent : Level → ℕ → Type 0
IsPresent l m = (count_ones m ≡ 1) ⊎ (has_set l m ≡ true)

several : (m : ℕ) → m ≢ 0 → (count_ones m ≡ 1) ⊎ (is_several m ≡ true)
several m some = by (count_ones m) refl
  where
    by : (n : ℕ) → count_ones m ≡ n → (count_ones m ≡ 1) ⊎ (is_several m ≡ true)
    by zero is = absurd (some (zero_from_ones m is))
    by (suc zero) is = inl is
    by (suc (suc n)) is = inr (le-leb 2 (count_ones m) (omega (arith, is)))

pub record Sides (l : Level) (mask left right : ℕ) : Type 0 where
  pub left_less : left < mask
  pub right_less : right < mask
  pub left_present : IsPresent l left
  pub right_present : IsPresent l right

pub sides : (l : Level) (mask left : ℕ) → left < mask → is_left l mask left ≡ true → Sides l mask left (bit_xor left mask)
sides l mask left less is = record {
  left_less = less;
  right_less = omega (arith, sum, some);
  left_present = left-by l joined;
  right_present = right-by l joined;
}
  where
    first : (bit_and left mask == left) ≡ true
    first = (and_parts (bit_and left mask == left) (not (left == 0) && has_join l left (bit_xor left mask)) is).0

    rest : (not (left == 0) ≡ true) × (has_join l left (bit_xor left mask) ≡ true)
    rest = and_parts (not (left == 0)) (has_join l left (bit_xor left mask)) (and_parts (bit_and left mask == left) (not (left == 0) && has_join l left (bit_xor left mask)) is).1

    joined : has_join l left (bit_xor left mask) ≡ true
    joined = rest.1

    some : left ≢ 0
    some same = absurd (true≢false (sym rest.0 ∙ ap not (eq-eqb left 0 same)))

    -- what is left of the set is their difference
    sum : bit_xor left mask + left ≡ mask
    sum =
        let all = xor_add_and left mask in
        let inside = eqb-true (bit_and left mask) left first in
        let both : bit_xor left mask + left * 2 ≡ left + mask = sym (ap (λ n. bit_xor left mask + n * 2) inside) ∙ all in
        omega (arith, both)

    right-some : bit_xor left mask ≢ 0
    right-some none = absurd (omega (arith, sum, less, none))

    left-by : (l : Level) → has_join l left (bit_xor left mask) ≡ true → IsPresent l left
    left-by level.Full join = several left some
    left-by level.Linear join = several left some
    left-by level.Written join = by (several left some)
      where
        parts : (is_one (bit_xor left mask) ≡ true) × ((left + 1 == bit_xor left mask) ≡ true)
        parts = and_parts (is_one (bit_xor left mask)) (left + 1 == bit_xor left mask) join

        after : is_one (left + 1) ≡ true
        after = ap is_one (eqb-true (left + 1) (bit_xor left mask) parts.1) ∙ parts.0

        by : (count_ones left ≡ 1) ⊎ (is_several left ≡ true) → IsPresent level.Written left
        by (inl one) = inl one
        by (inr many) = inr (ap₂ (λ a b. a && b) many after)

    right-by : (l : Level) → has_join l left (bit_xor left mask) ≡ true → IsPresent l (bit_xor left mask)
    right-by level.Full join = several (bit_xor left mask) right-some
    right-by level.Linear join = several (bit_xor left mask) right-some
    right-by level.Written join = inl (eqb-true (count_ones (bit_xor left mask)) 1 (and_parts (is_one (bit_xor left mask)) (left + 1 == bit_xor left mask) join).0)
