-- Sums over the numbers below another.
use Rattle.std.proofs.Common.{◌≡◌, ℕ, zero, suc, ◌+◌, ◌-◌, ◌^◌, ◌<◌, Bool, true, false, cond, [], ◌∷◌, length, filter, refl, ap, ap₂, ◌∙◌, arith, pow-suc}
use Rattle.std.proofs.lemmas.List.{length-append}
use Rattle.std.proofs.lemmas.List.Elements.{filter-append}
use Rattle.pdw_groups.specs.Level.{below}

abbrev pub one : Bool → ℕ
one true = 1
one false = 0

abbrev pub total : (ℕ → ℕ) → ℕ → ℕ
total f zero = 0
total f (suc n) = total f n + f n

pub total-add : (f : ℕ → ℕ) (n m : ℕ) → total f (n + m) ≡ total f n + total (λ i. f (n + i)) m
total-add f n zero = let same : n + 0 ≡ n = omega arith in let none : total f n ≡ total f n + 0 = omega arith in ap (total f) same ∙ none
total-add f n (suc m) =
    let next : n + suc m ≡ suc (n + m) = omega arith in
    let rest = total-add f n m in
    ap (total f) next ∙ (let all : total f (n + m) + f (n + m) ≡ total f n + (total (λ i. f (n + i)) m + f (n + m)) = omega (arith, rest) in all)

pub total-same : (f g : ℕ → ℕ) (n : ℕ) → ((i : ℕ) → i < n → f i ≡ g i) → total f n ≡ total g n
total-same f g zero same = refl
total-same f g (suc n) same = ap₂ (λ a b. a + b) (total-same f g n (λ i less. same i (omega (arith, less)))) (same n (omega arith))

pub total-plus : (f g : ℕ → ℕ) (n : ℕ) → total (λ i. f i + g i) n ≡ total f n + total g n
total-plus f g zero = omega arith
total-plus f g (suc n) = let rest = total-plus f g n in omega (arith, rest)

pub total-none : (f : ℕ → ℕ) (n : ℕ) → ((i : ℕ) → i < n → f i ≡ 0) → total f n ≡ 0
total-none f zero none = refl
total-none f (suc n) none = let rest = total-none f n (λ i less. none i (omega (arith, less))) in let last = none n (omega arith) in omega (arith, rest, last)

-- one number alone counts
pub total-alone : (f : ℕ → ℕ) (n at : ℕ) → at < n → ((i : ℕ) → i < n → (i ≡ at → ⊥) → f i ≡ 0) → total f n ≡ f at
total-alone f n at less none =
    let split : n ≡ at + suc (n - suc at) = omega (arith, less) in
    ap (total f) split
    ∙ total-add f at (suc (n - suc at))
    ∙ ap₂ (λ a b. a + b) (total-none f at (λ i before. none i (omega (arith, before, less)) (λ same. omega (arith, before, same))))
    (total-first (λ i. f (at + i)) (n - suc at) (λ i within. none (at + suc i) (omega (arith, within, less)) (λ same. omega (arith, same))))
    ∙ (let last : 0 + f (at + 0) ≡ f at = ap (λ n. 0 + f n) (let same : at + 0 ≡ at = omega arith in same) ∙ omega arith in last)
  where
    total-first : (g : ℕ → ℕ) (n : ℕ) → ((i : ℕ) → i < n → g (suc i) ≡ 0) → total g (suc n) ≡ g 0
    total-first g n none = let next : suc n ≡ 1 + n = omega arith in
        ap (total g) next ∙ total-add g 1 n
        ∙ ap (λ k. (0 + g 0) + k) (total-none (λ i. g (1 + i)) n (λ i less. let same : 1 + i ≡ suc i = omega arith in ap g same ∙ none i less))
        ∙ omega arith

-- ---- powers of two

pub doubled : (k : ℕ) → 2 ^ suc k ≡ 2 ^ k + 2 ^ k
doubled k = let twice = pow-suc 2 k in omega (arith, twice)

pub total-double : (f : ℕ → ℕ) (k : ℕ) → total f (2 ^ suc k) ≡ total f (2 ^ k) + total (λ i. f (2 ^ k + i)) (2 ^ k)
total-double f k = ap (total f) (doubled k) ∙ total-add f (2 ^ k) (2 ^ k)

-- ---- as lists have them

pub total-filter : (test : ℕ → Bool) (n : ℕ) → length (filter test (below n)) ≡ total (λ i. one (test i)) n
total-filter test zero = refl
total-filter test (suc n) =
    ap length (filter-append test (below n) (n ∷ []))
    ∙ length-append (filter test (below n)) (filter test (n ∷ []))
    ∙ ap₂ (λ a b. a + b) (total-filter test n) (by (test n))
  where
    by : (b : Bool) → length (cond b (n ∷ []) []) ≡ one b
    by true = refl
    by false = refl
