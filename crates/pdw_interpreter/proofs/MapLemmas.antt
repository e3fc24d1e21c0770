-- Lists of rows, and of what the rows stand for.
use Rattle.std.proofs.Common.{◌≡◌, ◌||◌, Bool, true, false, cond, List, [], ◌∷◌, ◌++◌, map, filter, refl, sym, ap, ap₂, ◌∙◌}
use Rattle.std.specs.List.{flat_map, list_any}
use Rattle.std.proofs.lemmas.List.{map-append}

pub map-after : {A B C : Type 0} (f : A → B) (g : B → C) (xs : List A) → map g (map f xs) ≡ map (λ x. g (f x)) xs
map-after f g [] = refl
map-after f g (x ∷ xs) = ap (λ ys. g (f x) ∷ ys) (map-after f g xs)

pub map-filter : {A B : Type 0} (f : A → B) (p : A → Bool) (q : B → Bool) → ((x : A) → p x ≡ q (f x)) → (xs : List A) → map f (filter p xs) ≡ filter q (map f xs)
map-filter f p q same [] = refl
map-filter f p q same (x ∷ xs) = by (p x) (q (f x)) (same x) (map-filter f p q same xs)
  where
    by : (b c : Bool) → b ≡ c → map f (filter p xs) ≡ filter q (map f xs) → map f (cond b (x ∷ filter p xs) (filter p xs)) ≡ cond c (f x ∷ filter q (map f xs)) (filter q (map f xs))
    by true true e rest = ap (λ ys. f x ∷ ys) rest
    by true false e rest = cc
    by false true e rest = cc
    by false false e rest = rest

pub map-flat_map : {A B C D : Type 0} (f : A → B) (h : C → D) (k : A → List C) (l : B → List D) → ((x : A) → map h (k x) ≡ l (f x)) → (xs : List A)
    → map h (flat_map k xs) ≡ flat_map l (map f xs)
map-flat_map f h k l same [] = refl
map-flat_map f h k l same (x ∷ xs) = map-append h (k x) (flat_map k xs) ∙ ap₂ (λ ys zs. ys ++ zs) (same x) (map-flat_map f h k l same xs)

pub any-map : {A B : Type 0} (f : A → B) (p : A → Bool) (q : B → Bool) → ((x : A) → p x ≡ q (f x)) → (xs : List A) → list_any p xs ≡ list_any q (map f xs)
any-map f p q same [] = refl
any-map f p q same (x ∷ xs) = by (p x) (q (f x)) (same x) (any-map f p q same xs)
  where
    by : (b c : Bool) → b ≡ c → list_any p xs ≡ list_any q (map f xs) → (b || list_any p xs) ≡ (c || list_any q (map f xs))
    by true true e rest = refl
    by true false e rest = cc
    by false true e rest = cc
    by false false e rest = rest

-- the parts of a list, joined
pub map-parts : {A B : Type 0} (f : A → B) (parts : List (List A)) → flat_map (map f) parts ≡ map f (flat_map (λ part. part) parts)
map-parts f [] = refl
map-parts f (part ∷ parts) = ap (λ ys. map f part ++ ys) (map-parts f parts) ∙ sym (map-append f part (flat_map (λ part. part) parts))
