-- Lists of what rows stand for.
use Rattle.std.proofs.Common.{◌≡◌, Bool, true, false, cond, List, [], ◌∷◌, map, filter, refl, ap}

pub map-after : {A B C : Type 0} (f : A → B) (g : B → C) (xs : List A) → map g (map f xs) ≡ map (λ x. g (f x)) xs
map-after f g [] = refl
map-after f g (x ∷ xs) = ap (λ ys. g (f x) ∷ ys) (map-after f g xs)

pub map-filter : {A B : Type 0} (f : A → B) (test : B → Bool) (xs : List A) → map f (filter (λ x. test (f x)) xs) ≡ filter test (map f xs)
map-filter f test [] = refl
map-filter f test (x ∷ xs) = by (test (f x)) (map-filter f test xs)
  where
    by : (is : Bool) → map f (filter (λ x. test (f x)) xs) ≡ filter test (map f xs)
        → map f (cond is (x ∷ filter (λ x. test (f x)) xs) (filter (λ x. test (f x)) xs)) ≡ cond is (f x ∷ filter test (map f xs)) (filter test (map f xs))
    by true rest = ap (λ ys. f x ∷ ys) rest
    by false rest = rest
