-- Two lists that are one bag: every way to weigh their items gives the same sum, so each item stands as often in both.
use Rattle.std.specs.Prelude.{◌≡◌, ℕ, ◌+◌, List, [], ◌∷◌}

-- the sum of the items' weights
abbrev pub weigh : {X : Type 0} → (X → ℕ) → List X → ℕ
weigh weight [] = 0
weigh weight (x ∷ xs) = weight x + weigh weight xs

pub record SameBag {X : Type 0} (xs ys : List X) : Type 0 where
  pub weighs : (weight : X → ℕ) → weigh weight xs ≡ weigh weight ys
