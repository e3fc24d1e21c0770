-- How many joins the sets of a block have at each level.
use Rattle.std.proofs.Common.{◌≡◌, ℕ, zero, suc, ◌+◌, ◌-◌, ◌*◌, ◌^◌, leb, Bool, refl, sym, ap, ◌∙◌, arith, le-leb, pow-suc, if◌then◌else◌}
use Rattle.std.proofs.Math.Nat.{mul-suc, suc-mul}
use Rattle.pdw_explore.proofs.SubsetCounts.{sets, subsets}
use Rattle.pdw_explore.proofs.Totals.{doubled}
use Rattle.pdw_explore.specs.Levels.{full_count, linear_count}

-- ---- weights of a left part that has so many leaves and leaves so many

abbrev pub is_zero : ℕ → ℕ
is_zero zero = 1
is_zero (suc n) = 0

abbrev pub some : ℕ → ℕ
some zero = 0
some (suc n) = 1

abbrev pub alone : ℕ → ℕ
alone zero = 0
alone (suc n) = is_zero n

abbrev pub two : ℕ → ℕ
two zero = 0
two (suc n) = alone n

abbrev pub full_weight : ℕ → ℕ → ℕ
full_weight zero b = 0
full_weight (suc a) b = some b

-- one of the two has one leaf
abbrev pub either_one : ℕ → ℕ → ℕ
either_one zero b = 1
either_one (suc a) b = is_zero b

abbrev pub mixed : ℕ → ℕ → ℕ
mixed zero b = 0
mixed (suc a) b = either_one a b

abbrev pub linear_weight : ℕ → ℕ → ℕ
linear_weight zero b = 0
linear_weight (suc a) zero = 0
linear_weight (suc a) (suc b) = either_one a b

-- ---- subsets by these weights

subsets-same : (f g : ℕ → ℕ → ℕ) (n : ℕ) → ((a b : ℕ) → f a b ≡ g a b) → subsets f n ≡ subsets g n
subsets-same f g n same = λ i. subsets (λ a b. same a b i) n

subsets-turned : (f : ℕ → ℕ → ℕ) (n : ℕ) → subsets (λ a b. f b a) n ≡ subsets f n
subsets-turned f zero = refl
subsets-turned f (suc n) =
    let first = subsets-turned (λ a b. f (suc a) b) n in
    let second = subsets-turned (λ a b. f a (suc b)) n in
    omega (arith, first, second)

none-subsets : (n : ℕ) → subsets (λ a b. 0) n ≡ 0
none-subsets zero = refl
none-subsets (suc n) = let rest = none-subsets n in omega (arith, rest)

all-subsets : (n : ℕ) → subsets (λ a b. 1) n ≡ 2 ^ n
all-subsets zero = refl
all-subsets (suc n) = let rest = all-subsets n in let twice = doubled n in omega (arith, rest, twice)

some-subsets : (n : ℕ) → subsets (λ a b. some a) n + 1 ≡ 2 ^ n
some-subsets zero = refl
some-subsets (suc n) = let rest = some-subsets n in let all = all-subsets n in let twice = doubled n in omega (arith, rest, all, twice)

empty-subsets : (n : ℕ) → subsets (λ a b. is_zero a) n ≡ 1
empty-subsets zero = refl
empty-subsets (suc n) = let rest = empty-subsets n in let none = none-subsets n in omega (arith, rest, none)

single-subsets : (n : ℕ) → subsets (λ a b. alone a) n ≡ n
single-subsets zero = refl
single-subsets (suc n) = let rest = single-subsets n in let empty = empty-subsets n in omega (arith, rest, empty)

full-subsets : (n : ℕ) → subsets full_weight (suc n) + 2 ≡ 2 ^ suc n
full-subsets n =
    let left = subsets-same (λ a b. full_weight a (suc b)) (λ a b. some a) n left_is ∙ refl in
    let right = subsets-turned (λ a b. some a) n in
    let count = some-subsets n in
    let twice = doubled n in
    omega (arith, left, right, count, twice)
  where
    left_is : (a b : ℕ) → full_weight a (suc b) ≡ some a
    left_is zero b = refl
    left_is (suc a) b = refl

either-subsets : (n : ℕ) → subsets either_one (suc n) ≡ 2
either-subsets n =
    let left = subsets-same (λ a b. either_one a (suc b)) (λ a b. is_zero a) n left_is in
    let right = subsets-turned (λ a b. is_zero a) n in
    let empty = empty-subsets n in
    omega (arith, left, right, empty)
  where
    left_is : (a b : ℕ) → either_one a (suc b) ≡ is_zero a
    left_is zero b = refl
    left_is (suc a) b = refl

mixed-subsets : (n : ℕ) → subsets mixed (suc n) ≡ n + subsets either_one n
mixed-subsets n =
    let left = subsets-same (λ a b. mixed a (suc b)) (λ a b. alone a) n left_is in
    let count = single-subsets n in
    omega (arith, left, count)
  where
    left_is : (a b : ℕ) → mixed a (suc b) ≡ alone a
    left_is zero b = refl
    left_is (suc zero) b = refl
    left_is (suc (suc a)) b = refl

linear-subsets : (n : ℕ) → subsets linear_weight (suc n) ≡ subsets mixed n + subsets mixed n
linear-subsets n =
    let left = subsets-same (λ a b. linear_weight a (suc b)) mixed n left_is in
    let right = subsets-same (λ a b. linear_weight (suc a) b) (λ a b. mixed b a) n right_is in
    let turned = subsets-turned mixed n in
    omega (arith, left, right, turned)
  where
    left_is : (a b : ℕ) → linear_weight a (suc b) ≡ mixed a b
    left_is zero b = refl
    left_is (suc a) b = refl

    right_is : (a b : ℕ) → linear_weight (suc a) b ≡ mixed b a
    right_is a zero = refl
    right_is zero (suc zero) = refl
    right_is (suc a) (suc zero) = refl
    right_is zero (suc (suc b)) = refl
    right_is (suc a) (suc (suc b)) = refl

-- ---- sets by how many leaves they have

sets-same : (f g : ℕ → ℕ) (k : ℕ) → ((n : ℕ) → f n ≡ g n) → sets f k ≡ sets g k
sets-same f g k same = λ i. sets (λ n. same n i) k

sets-plus : (f g : ℕ → ℕ) (k : ℕ) → sets (λ n. f n + g n) k ≡ sets f k + sets g k
sets-plus f g zero = refl
sets-plus f g (suc k) =
    let first = sets-plus f g k in
    let second = sets-plus (λ n. f (suc n)) (λ n. g (suc n)) k in
    omega (arith, first, second)

none-sets : (k : ℕ) → sets (λ n. 0) k ≡ 0
none-sets zero = refl
none-sets (suc k) = let rest = none-sets k in omega (arith, rest)

all-sets : (k : ℕ) → sets (λ n. 1) k ≡ 2 ^ k
all-sets zero = refl
all-sets (suc k) = let rest = all-sets k in let twice = doubled k in omega (arith, rest, twice)

empty-sets : (k : ℕ) → sets is_zero k ≡ 1
empty-sets zero = refl
empty-sets (suc k) = let rest = empty-sets k in let none = none-sets k in omega (arith, rest, none)

single-sets : (k : ℕ) → sets alone k ≡ k
single-sets zero = refl
single-sets (suc k) = let rest = single-sets k in let empty = empty-sets k in omega (arith, rest, empty)

pair-sets : (k : ℕ) → sets two k + sets two k ≡ k * (k - 1)
pair-sets zero = refl
pair-sets (suc k) =
    let rest = pair-sets k in
    let single = single-sets k in
    let product = square k in
    omega (arith, rest, single, product)
  where
    square : (k : ℕ) → suc k * (suc k - 1) ≡ k * (k - 1) + (k + k)
    square zero = refl
    square (suc k) =
        let one : suc (suc k) - 1 ≡ suc k = omega arith in
        let less : suc k - 1 ≡ k = omega arith in
        ap (λ n. suc (suc k) * n) one
        ∙ (let first = suc-mul (suc k) (suc k) in let second = mul-suc (suc k) k in let all : suc (suc k) * suc k ≡ suc k * k + (suc k + suc k) = omega (arith, first, second) in all)
        ∙ ap (λ n. suc k * n + (suc k + suc k)) (sym less)

leaf-sets : (k : ℕ) → sets (λ n. n) k + sets (λ n. n) k ≡ k * 2 ^ k
leaf-sets zero = refl
leaf-sets (suc k) =
    let rest = leaf-sets k in
    let more = sets-same (λ n. suc n) (λ n. n + 1) k (λ n. omega arith) ∙ sets-plus (λ n. n) (λ n. 1) k in
    let all = all-sets k in
    let twice = doubled k in
    let product : suc k * 2 ^ suc k ≡ (k * 2 ^ k + k * 2 ^ k) + (2 ^ k + 2 ^ k) =
    ap (λ n. suc k * n) twice ∙ suc-mul k (2 ^ k + 2 ^ k) ∙ ap (λ n. n + (2 ^ k + 2 ^ k)) (both k (2 ^ k)) in
    omega (arith, rest, more, all, twice, product)
  where
    both : (k n : ℕ) → k * (n + n) ≡ k * n + k * n
    both zero n = omega arith
    both (suc k) n = let rest = both k n in let first = suc-mul k (n + n) in let second = suc-mul k n in omega (arith, rest, first, second)

power-sets : (k : ℕ) → sets (λ n. 2 ^ n) k ≡ 3 ^ k
power-sets zero = refl
power-sets (suc k) =
    let rest = power-sets k in
    let more = sets-same (λ n. 2 ^ suc n) (λ n. 2 ^ n + 2 ^ n) k doubled ∙ sets-plus (λ n. 2 ^ n) (λ n. 2 ^ n) k in
    let thrice = pow-suc 3 k in
    omega (arith, rest, more, thrice)

-- the joins of a set of n leaves, where it has several
abbrev pub several_of : (ℕ → ℕ) → ℕ → ℕ
several_of joins n = if leb 2 n then joins n else 0

pub full-sets : (k : ℕ) → sets (several_of (subsets full_weight)) k ≡ full_count k
full-sets k =
    let parts = sets-plus (several_of (subsets full_weight)) (λ n. 2) k in
    let same = sets-same (λ n. several_of (subsets full_weight) n + 2) (λ n. 2 ^ n + is_zero n) k each ∙ sets-plus (λ n. 2 ^ n) is_zero k in
    let twos = sets-plus (λ n. 1) (λ n. 1) k in
    let all = all-sets k in
    let power = power-sets k in
    let empty = empty-sets k in
    omega (arith, parts, same, twos, all, power, empty)
  where
    each : (n : ℕ) → several_of (subsets full_weight) n + 2 ≡ 2 ^ n + is_zero n
    each zero = refl
    each (suc zero) = refl
    each (suc (suc n)) =
        ap (λ (b : Bool). (if b then subsets full_weight (suc (suc n)) else 0) + 2) (le-leb 2 (suc (suc n)) (omega arith))
        ∙ full-subsets (suc n) ∙ (let none : 2 ^ suc (suc n) ≡ 2 ^ suc (suc n) + 0 = omega arith in none)

pub linear-sets : (k : ℕ) → sets (several_of (subsets linear_weight)) k ≡ linear_count k
linear-sets zero = refl
linear-sets (suc zero) = refl
linear-sets (suc (suc j)) =
    let k = suc (suc j) in
    let parts = sets-plus (several_of (subsets linear_weight)) (λ n. (alone n + alone n) + (two n + two n)) k in
    let ones = sets-plus (λ n. alone n + alone n) (λ n. two n + two n) k in
    let singles = sets-plus alone alone k in
    let pairs = sets-plus two two k in
    let same = sets-same (λ n. several_of (subsets linear_weight) n + ((alone n + alone n) + (two n + two n))) (λ n. n + n) k each ∙ sets-plus (λ n. n) (λ n. n) k in
    let single = single-sets k in
    let pair = pair-sets k in
    let leaf = leaf-sets k in
    let count : sets (several_of (subsets linear_weight)) k ≡ k * 2 ^ k - (2 * k + k * (k - 1)) = omega (arith, parts, ones, singles, pairs, same, single, pair, leaf) in
    count ∙ ap (λ (b : Bool). if b then k * 2 ^ k - (2 * k + k * (k - 1)) else 0) (sym (le-leb 2 k (omega arith)))
  where
    each : (n : ℕ) → several_of (subsets linear_weight) n + ((alone n + alone n) + (two n + two n)) ≡ n + n
    each zero = refl
    each (suc zero) = refl
    each (suc (suc zero)) = refl
    each (suc (suc (suc n))) =
        let b = le-leb 2 (suc (suc (suc n))) (omega arith) in
        let first = linear-subsets (suc (suc n)) in
        let second = mixed-subsets (suc n) in
        let third = either-subsets n in
        ap (λ (b : Bool). (if b then subsets linear_weight (suc (suc (suc n))) else 0) + ((0 + 0) + (0 + 0))) b
        ∙ (let all : subsets linear_weight (suc (suc (suc n))) + ((0 + 0) + (0 + 0)) ≡ suc (suc (suc n)) + suc (suc (suc n)) = omega (arith, first, second, third) in all)
