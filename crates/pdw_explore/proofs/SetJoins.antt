-- The joins of each set of a block at each level, and of all sets of so many leaves.
use Rattle.std.proofs.Common.{◌≡◌, ◌≢◌, ℕ, zero, suc, ◌+◌, ◌-◌, ◌*◌, ◌^◌, ◌<◌, ◌≤◌, ◌==◌, ◌&&◌, ◌||◌, not, Bool, true, false, length, count_ones, bit_and, refl, sym, ap, ap₂, ◌∙◌, arith, eqb-true, eq-eqb, ne_eqb, ◌⊎◌, inl, inr, if◌then◌else◌}
use Rattle.std.specs.Int.Bits.{bit_xor, xor_add_and}
use Rattle.std.proofs.Math.Nat.{mod-eq_of_lt}
use Rattle.std.proofs.Math.Pow.{ones_lt}
use Rattle.std.proofs.lemmas.Bool.{and_parts, cases_lt}
use Rattle.std.proofs.lemmas.Nat.{zero_from_ones}
use lib.Bits.{and_le_r, and_mask, xor_self}
use lib.Count.{ones}
use Rattle.pdw_explore.proofs.LevelCounts.{either_one, full-sets, full_weight, linear-sets, linear_weight, several_of}
use Rattle.pdw_explore.proofs.SubsetCounts.{ones-top, subsets, total-sets, total-subsets, weighed}
use Rattle.pdw_explore.proofs.Totals.{doubled, one, total, total-add, total-alone, total-double, total-filter, total-none, total-same}
use Rattle.pdw_explore.specs.Levels.{level_count}
use Rattle.pdw_groups.proofs.CountLaws.{has-whole, power-ones}
use Rattle.pdw_groups.specs.Level.{has_join, has_set, is_left, is_one, is_several, lefts}
use Rattle.pdw_groups.specs.declared.block.Level.{Level}
use Rattle.pdw_groups.specs.declared.block.Level.TheVariants as level

-- ---- the joins of a set, by how many leaves their left parts have and leave

record Weighs (l : Level) (weight : ℕ → ℕ → ℕ) : Type 0 where
  left : (b : ℕ) → weight 0 b ≡ 0
  right : (a : ℕ) → weight a 0 ≡ 0
  proper : (x y a b : ℕ) → count_ones x ≡ suc a → count_ones y ≡ suc b → one (has_join l x y) ≡ weight (suc a) (suc b)

no-ones : count_ones 0 ≡ 0
unfolding ones
no-ones = refl

module _ (l : Level) (weight : ℕ → ℕ → ℕ) (weighs : Weighs l weight) where
  module _ (mask left : ℕ) (less : left < mask) where
    abbrev rest : ℕ
    rest = bit_xor left mask

    inside-some : bit_and left mask ≡ left → rest ≢ 0
    inside-some inside none =
        let all = xor_add_and left mask in
        let both : rest + left * 2 ≡ left + mask = ap (λ n. rest + n * 2) (sym inside) ∙ all in
        omega (arith, both, none, less)

    left-weight : one (is_left l mask left) ≡ weighed weight mask left
    left-weight = by (bit_and left mask == left) refl
      where
        counted : bit_and left mask ≡ left → (a b : ℕ) → count_ones left ≡ a → count_ones rest ≡ b → one (not (left == 0) && has_join l left rest) ≡ weight a b
        counted inside zero b first second =
            ap (λ e. one (not e && has_join l left rest)) (eq-eqb left 0 (zero_from_ones left first)) ∙ sym (weighs.left b)
        counted inside (suc a) zero first second = absurd (inside-some inside (zero_from_ones rest second))
        counted inside (suc a) (suc b) first second =
            ap (λ e. one (not e && has_join l left rest)) (ne_eqb left 0 (λ none. let count : count_ones left ≡ 0 = ap count_ones none ∙ no-ones in omega (arith, count, first)))
            ∙ weighs.proper left rest a b first second

        by : (e : Bool) → (bit_and left mask == left) ≡ e
            → one (e && (not (left == 0) && has_join l left rest)) ≡ (if e then weight (count_ones left) (count_ones rest) else 0)
        by true is = counted (eqb-true (bit_and left mask) left is) (count_ones left) (count_ones rest) refl refl
        by false is = refl

  -- the set itself leaves nothing, and a greater number is no subset
  beyond : (mask i : ℕ) → weighed weight mask (mask + i) ≡ 0
  beyond mask i = by (bit_and (mask + i) mask == mask + i) refl
    where
      by : (e : Bool) → (bit_and (mask + i) mask == mask + i) ≡ e → (if e then weight (count_ones (mask + i)) (count_ones (bit_xor (mask + i) mask)) else 0) ≡ 0
      by false is = refl
      by true is =
          let inside = eqb-true (bit_and (mask + i) mask) (mask + i) is in
          let small = and_le_r (mask + i) mask in
          let same : mask + i ≡ mask = omega (arith, inside, small) in
          ap (λ n. weight (count_ones (mask + i)) (count_ones (bit_xor n mask))) same
          ∙ ap (λ n. weight (count_ones (mask + i)) (count_ones n)) (xor_self mask)
          ∙ ap (weight (count_ones (mask + i))) no-ones
          ∙ weighs.right (count_ones (mask + i))

  lefts-count : (k mask : ℕ) → mask < 2 ^ k → length (lefts l mask) ≡ subsets weight (count_ones mask)
  lefts-count k mask less =
      let split : 2 ^ k ≡ mask + (2 ^ k - mask) = omega (arith, less) in
      total-filter (is_left l mask) mask
      ∙ total-same (λ left. one (is_left l mask left)) (weighed weight mask) mask (left-weight mask)
      ∙ (let none : total (weighed weight mask) mask ≡ total (weighed weight mask) mask + 0 = omega arith in none)
      ∙ ap (λ n. total (weighed weight mask) mask + n) (sym (total-none (λ i. weighed weight mask (mask + i)) (2 ^ k - mask) (λ i within. beyond mask i)))
      ∙ sym (total-add (weighed weight mask) mask (2 ^ k - mask))
      ∙ ap (total (weighed weight mask)) (sym split)
      ∙ total-subsets weight k mask less

  several-count : (k mask : ℕ) → mask < 2 ^ k → (if is_several mask then length (lefts l mask) else 0) ≡ several_of (subsets weight) (count_ones mask)
  several-count k mask less = ap (λ n. if is_several mask then n else 0) (lefts-count k mask less)

full-weighs : Weighs level.Full full_weight
full-weighs = record {
  left = λ b. refl;
  right = right;
  proper = λ x y a b first second. refl;
}
  where
    right : (a : ℕ) → full_weight a 0 ≡ 0
    right zero = refl
    right (suc a) = refl

linear-weighs : Weighs level.Linear linear_weight
linear-weighs = record { left = λ b. refl; right = right; proper = proper }
  where
    right : (a : ℕ) → linear_weight a 0 ≡ 0
    right zero = refl
    right (suc a) = refl

    one-of : (a b : ℕ) → one ((suc a == 1) || (suc b == 1)) ≡ either_one a b
    one-of zero b = refl
    one-of (suc a) zero = ap (λ e. one (e || (1 == 1))) (ne_eqb (suc (suc a)) 1 (λ same. omega (arith, same)))
    one-of (suc a) (suc b) = ap₂ (λ e f. one (e || f)) (ne_eqb (suc (suc a)) 1 (λ same. omega (arith, same))) (ne_eqb (suc (suc b)) 1 (λ same. omega (arith, same)))

    proper : (x y a b : ℕ) → count_ones x ≡ suc a → count_ones y ≡ suc b → one (has_join level.Linear x y) ≡ linear_weight (suc a) (suc b)
    proper x y a b first second = ap₂ (λ m n. one ((m == 1) || (n == 1))) first second ∙ one-of a b

-- ---- the joins of all sets

abbrev pub set_joins : Level → ℕ → ℕ
set_joins l mask = if has_set l mask then length (lefts l mask) else 0

-- ---- the joins from left to right

-- the first leaves: the last number below a power of two
module _ (k : ℕ) (more : 1 ≤ k) where
  abbrev whole : ℕ
  whole = 2 ^ suc k - 1

  abbrev before_last : ℕ
  before_last = 2 ^ k - 1

  large : 2 ≤ 2 ^ k
  large = by k more
    where
      by : (k : ℕ) → 1 ≤ k → 2 ≤ 2 ^ k
      by zero some = absurd (omega (arith, some))
      by (suc j) some = let twice = doubled j in let positive = ones_lt j in omega (arith, twice, positive)

  last-inside : bit_and before_last whole ≡ before_last
  last-inside = and_mask before_last (suc k) ∙ mod-eq_of_lt (let big = large in let twice = doubled k in omega (arith, big, twice))

  last-rest : bit_xor before_last whole ≡ 2 ^ k
  last-rest =
      let all = xor_add_and before_last whole in
      let both : bit_xor before_last whole + before_last * 2 ≡ before_last + whole = ap (λ n. bit_xor before_last whole + n * 2) (sym last-inside) ∙ all in
      let big = large in
      let twice = doubled k in
      omega (arith, both, big, twice)

  last-left : is_left level.Written whole before_last ≡ true
  last-left =
      let big = large in
      let next : before_last + 1 ≡ bit_xor before_last whole = (let same : before_last + 1 ≡ 2 ^ k = omega (arith, big) in same) ∙ sym last-rest in
      ap₂ (λ a b. a && b) (eq-eqb (bit_and before_last whole) before_last last-inside)
      (ap₂ (λ a b. not a && b) (ne_eqb before_last 0 (λ none. omega (arith, none, big)))
      (ap₂ (λ a b. a && b) (eq-eqb (count_ones (bit_xor before_last whole)) 1 (ap count_ones last-rest ∙ power-ones k)) (eq-eqb (before_last + 1) (bit_xor before_last whole) next)))

  other-left : (left : ℕ) → (left ≡ before_last → ⊥) → one (is_left level.Written whole left) ≡ 0
  other-left left other = by (is_left level.Written whole left) refl
    where
      by : (e : Bool) → is_left level.Written whole left ≡ e → one e ≡ 0
      by false is = refl
      by true is =
          let rest = bit_xor left whole in
          let first = and_parts (bit_and left whole == left) (not (left == 0) && (is_one rest && (left + 1 == rest))) is in
          let second = and_parts (not (left == 0)) (is_one rest && (left + 1 == rest)) first.1 in
          let third = and_parts (is_one rest) (left + 1 == rest) second.1 in
          let inside = eqb-true (bit_and left whole) left first.0 in
          let next = eqb-true (left + 1) rest third.1 in
          let all = xor_add_and left whole in
          let both : rest + left * 2 ≡ left + whole = ap (λ n. rest + n * 2) (sym inside) ∙ all in
          let big = large in
          let twice = doubled k in
          absurd (other (omega (arith, next, both, big, twice)))

  whole-joins : set_joins level.Written whole ≡ 1
  whole-joins =
      let big = large in
      let twice = doubled k in
      ap (λ (e : Bool). if e then length (lefts level.Written whole) else 0) (has-whole level.Written (suc k) (omega (arith, more)))
      ∙ total-filter (is_left level.Written whole) whole
      ∙ total-alone (λ left. one (is_left level.Written whole left)) whole before_last (omega (arith, big, twice)) (λ left within other. other-left left other)
      ∙ ap one last-left

-- a set that is not the first leaves
other-set : (k i : ℕ) → i < 2 ^ k → (i ≡ 2 ^ k - 1 → ⊥) → set_joins level.Written (2 ^ k + i) ≡ 0
other-set k i less other =
    ap (λ (e : Bool). if is_several (2 ^ k + i) && e then length (lefts level.Written (2 ^ k + i)) else 0) not_one ∙ by (is_several (2 ^ k + i))
  where
    not_one : is_one (2 ^ k + i + 1) ≡ false
    not_one =
        let small : i + 1 < 2 ^ k = not_last in
        let same : 2 ^ k + i + 1 ≡ 2 ^ k + (i + 1) = omega arith in
        ne_eqb (count_ones (2 ^ k + i + 1)) 1
        (λ alone. let count : suc (count_ones (i + 1)) ≡ 1 = sym (ap count_ones same ∙ ones-top k (i + 1) small) ∙ alone in
        let none : i + 1 ≡ 0 = zero_from_ones (i + 1) (omega (arith, count)) in omega (arith, none))
      where
        not_last : i + 1 < 2 ^ k
        not_last = by (cases_lt (i + 1) (2 ^ k))
          where
            by : (i + 1 < 2 ^ k) ⊎ (2 ^ k ≤ i + 1) → i + 1 < 2 ^ k
            by (inl small) = small
            by (inr large) = absurd (other (omega (arith, large, less)))

    by : (e : Bool) → (if e && false then length (lefts level.Written (2 ^ k + i)) else 0) ≡ 0
    by true = refl
    by false = refl

written-joins : (k : ℕ) → total (set_joins level.Written) (2 ^ k) ≡ k - 1
unfolding ones
written-joins zero = refl
written-joins (suc zero) = refl
written-joins (suc (suc k)) =
    let rest = written-joins (suc k) in
    let some : 2 ^ suc k - 1 < 2 ^ suc k = omega (arith, large (suc k) (omega arith)) in
    let sum : 2 ^ suc k + (2 ^ suc k - 1) ≡ 2 ^ suc (suc k) - 1 = omega (arith, doubled (suc k), large (suc k) (omega arith)) in
    let alone = total-alone (λ i. set_joins level.Written (2 ^ suc k + i)) (2 ^ suc k) (2 ^ suc k - 1) some (λ i less other. other-set (suc k) i less other) in
    let count : set_joins level.Written (2 ^ suc k + (2 ^ suc k - 1)) ≡ 1 = ap (set_joins level.Written) sum ∙ whole-joins (suc k) (omega arith) in
    let both = total-double (set_joins level.Written) (suc k) in
    omega (arith, rest, alone, count, both)

-- ---- each level

pub level-joins : (l : Level) (k : ℕ) → total (set_joins l) (2 ^ k) ≡ level_count l k
level-joins level.Full k =
    total-same (set_joins level.Full) (λ m. several_of (subsets full_weight) (count_ones m)) (2 ^ k) (several-count level.Full full_weight full-weighs k)
    ∙ total-sets (several_of (subsets full_weight)) k ∙ full-sets k
level-joins level.Linear k =
    total-same (set_joins level.Linear) (λ m. several_of (subsets linear_weight) (count_ones m)) (2 ^ k) (several-count level.Linear linear_weight linear-weighs k)
    ∙ total-sets (several_of (subsets linear_weight)) k ∙ linear-sets k
level-joins level.Written k = written-joins k
