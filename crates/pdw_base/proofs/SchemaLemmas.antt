-- Columns that rise from one to the next rise strictly throughout.
use Rattle.std.proofs.Common.{◌≡◌, ℕ, ◌+◌, ◌-◌, ◌<◌, ◌≤◌, List, get_or, subst, arith}
use native.Mathlib.Decide.{dec_lt}

-- the numbers below n rise
abbrev pub RisesBelow : {X : Type 0} → (X → ℕ) → List X → ℕ → Type 0
RisesBelow {X} number xs n = (i j : ℕ) (d : X) → i < j → j < n → number (get_or xs i d) < number (get_or xs j d)

-- and one more does, where it is greater than the one before it
pub RisesBelow-more : {X : Type 0} (number : X → ℕ) (xs : List X) (n : ℕ) → 1 ≤ n → RisesBelow number xs n
    → ((d : X) → number (get_or xs (n - 1) d) < number (get_or xs n d)) → RisesBelow number xs (n + 1)
RisesBelow-more {X} number xs n one below greater i j d less within =
    elim (dec_lt j n) [
      | yes inside ↦ below i j d less inside
      | no outside ↦
          let last : n ≡ j = omega arith in
          subst (λ k. number (get_or xs i d) < number (get_or xs k d)) last (at_last (elim (dec_lt i (n - 1)) [ yes before ↦ through before | no after ↦ next after ]))
    ]
  where
    at_last : number (get_or xs i d) < number (get_or xs n d) → number (get_or xs i d) < number (get_or xs n d)
    at_last h = h

    through : i < n - 1 → number (get_or xs i d) < number (get_or xs n d)
    through before =
        let first = below i (n - 1) d before (omega arith) in
        let second = greater d in
        omega arith

    next : ¬ (i < n - 1) → number (get_or xs i d) < number (get_or xs n d)
    next after = let same : n - 1 ≡ i = omega arith in subst (λ k. number (get_or xs k d) < number (get_or xs n d)) same (greater d)
