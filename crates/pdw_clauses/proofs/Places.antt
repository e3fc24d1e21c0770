-- Items with their places: one item more.
use Rattle.std.proofs.Common.{◌≡◌, ℕ, ◌+◌, ◌<◌, List, [], ◌∷◌, ◌++◌, length, map, take, ap, ◌∙◌, arith}
use Rattle.std.specs.List.{enumerate_from, flat_map}
use Rattle.std.proofs.lemmas.List.{map-append, append-nil, length-take}
use Rattle.std.proofs.lemmas.Grind.{flat_map-append}

enumerate-append : {X : Type 0} (n : ℕ) (xs : List X) (x : X) → enumerate_from n (xs ++ x ∷ []) ≡ enumerate_from n xs ++ (n + length xs, x) ∷ []
enumerate-append n [] x = let e : n ≡ n + 0 = omega arith in ap (λ m. (m, x) ∷ []) e
enumerate-append n (y ∷ xs) x =
    let e : n + 1 + length xs ≡ n + length (y ∷ xs) = omega arith in
    ap (λ ys. (n, y) ∷ ys) (enumerate-append (n + 1) xs x ∙ ap (λ m. enumerate_from (n + 1) xs ++ (m, x) ∷ []) e)

module _ {X : Type 0} (xs : List X) (i : ℕ) (x : X) (within : i < length xs) (taken : take (i + 1) xs ≡ take i xs ++ x ∷ []) where
  enumerate-one_more : enumerate_from 0 (take (i + 1) xs) ≡ enumerate_from 0 (take i xs) ++ (i, x) ∷ []
  enumerate-one_more =
      let e : 0 + length (take i xs) ≡ i = omega (arith, length-take i xs) in
      ap (enumerate_from 0) taken ∙ enumerate-append 0 (take i xs) x ∙ ap (λ m. enumerate_from 0 (take i xs) ++ (m, x) ∷ []) e

  pub placed_map_one_more : {Y : Type 0} (f : ℕ × X → Y) → map f (enumerate_from 0 (take (i + 1) xs)) ≡ map f (enumerate_from 0 (take i xs)) ++ f (i, x) ∷ []
  placed_map_one_more f = ap (map f) enumerate-one_more ∙ map-append f (enumerate_from 0 (take i xs)) ((i, x) ∷ [])

  pub placed_flat_map_one_more : {Y : Type 0} (f : ℕ × X → List Y) → flat_map f (enumerate_from 0 (take (i + 1) xs)) ≡ flat_map f (enumerate_from 0 (take i xs)) ++ f (i, x)
  placed_flat_map_one_more f =
      ap (flat_map f) enumerate-one_more ∙ flat_map-append f (enumerate_from 0 (take i xs)) ((i, x) ∷ []) ∙ ap (λ ys. flat_map f (enumerate_from 0 (take i xs)) ++ ys) (append-nil (f (i, x)))
