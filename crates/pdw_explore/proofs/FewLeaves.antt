-- What holds of the counts of a block of up to ten leaves, by going over them.
use Rattle.std.proofs.Common.{◌≡◌, ℕ, zero, suc, ◌+◌, ◌-◌, ◌*◌, ◌^◌, ◌<◌, ◌≤◌, ◌&&◌, leb, Bool, true, refl, ap, subst, ◌∙◌, arith, ◌⊎◌, inl, inr}
use Rattle.std.proofs.lemmas.Bool.{and_parts, leb-true}
use Rattle.std.proofs.Math.Nat.{eq-or-lt_of_le}

abbrev up_to : (ℕ → Bool) → ℕ → Bool
up_to test zero = test zero
up_to test (suc n) = up_to test n && test (suc n)

each : (test : ℕ → Bool) (most : ℕ) → up_to test most ≡ true → (n : ℕ) → n ≤ most → test n ≡ true
each test zero all n within = subst (λ k. test k ≡ true) (let none : 0 ≡ n = omega (arith, within) in none) all
each test (suc most) all n within = by (n < suc most) (eq-or-lt_of_le within) (λ less. each test most parts.0 n (omega (arith, less)))
  where
    parts : (up_to test most ≡ true) × (test (suc most) ≡ true)
    parts = and_parts (up_to test most) (test (suc most)) all

    by : (A : Type 0) → (n ≡ suc most) ⊎ A → (A → test n ≡ true) → test n ≡ true
    by A (inl same) rest = ap test same ∙ parts.1
    by A (inr less) rest = rest less

abbrev most_at : (ℕ → ℕ) → (ℕ → ℕ) → ℕ → Bool
most_at f g n = leb (f n) (g n)

pub record IsFew (n : ℕ) : Type 0 where
  pub two : 2 ^ n ≤ 1024
  pub three : 3 ^ n ≤ 59049
  pub full : 2 * 2 ^ n ≤ 3 ^ n + 1
  pub product : n * 2 ^ n ≤ 10240
  pub squares : n * (n - 1) ≤ 90
  pub linear : 2 ≤ n → 2 * n + n * (n - 1) ≤ n * 2 ^ n

below-all : (f g : ℕ → ℕ) → up_to (most_at f g) 10 ≡ true → (n : ℕ) → n ≤ 10 → f n ≤ g n
below-all f g all n few = leb-true (f n) (g n) (each (most_at f g) 10 all n few)

pub few-leaves : (n : ℕ) → n ≤ 10 → IsFew n
few-leaves n few = record {
  two = below-all (λ n. 2 ^ n) (λ n. 1024) refl n few;
  three = below-all (λ n. 3 ^ n) (λ n. 59049) refl n few;
  full = below-all (λ n. 2 * 2 ^ n) (λ n. 3 ^ n + 1) refl n few;
  product = below-all (λ n. n * 2 ^ n) (λ n. 10240) refl n few;
  squares = below-all (λ n. n * (n - 1)) (λ n. 90) refl n few;
  linear = λ several. below-all (λ n. 2 * n + n * (n - 1)) (λ n. n * 2 ^ n) refl n few;
}
