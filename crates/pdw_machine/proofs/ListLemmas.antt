-- Lists whose first items were changed, one after the other.
use Rattle.std.proofs.Common.{◌≡◌, ℕ, zero, suc, ◌+◌, ◌<◌, List, [], ◌∷◌, ◌++◌, length, map, set, take, drop, get_or, Some, remove, refl, sym, ap, ◌∙◌, add-one, arith}
use Rattle.std.specs.List.{slice_get}

module _ {X : Type 0} where
  map-one_more : (f : X → X) (xs : List X) (k : ℕ) (d : X) → k < length xs
      → set (map f (take k xs) ++ drop k xs) k (f (get_or xs k d)) ≡ map f (take (suc k) xs) ++ drop (suc k) xs
  map-one_more f [] k d within = absurd (omega arith)
  map-one_more f (x ∷ xs) zero d within = refl
  map-one_more f (x ∷ xs) (suc k) d within = ap (λ ys. f x ∷ ys) (map-one_more f xs k d (omega arith))

  -- the first that is not changed yet
  get_or-mapped : (f : X → X) (xs : List X) (k : ℕ) (d : X) → k < length xs → get_or (map f (take k xs) ++ drop k xs) k d ≡ get_or xs k d
  get_or-mapped f [] k d within = absurd (omega arith)
  get_or-mapped f (x ∷ xs) zero d within = refl
  get_or-mapped f (x ∷ xs) (suc k) d within = get_or-mapped f xs k d (omega arith)

  -- one item more is changed
  pub mapped_more : (f : X → X) (xs now : List X) (count k : ℕ) (x y : X) → count ≡ suc k → k < length xs
      → now ≡ map f (take k xs) ++ drop k xs → x ≡ get_or now k x → y ≡ f x → set now k y ≡ map f (take count xs) ++ drop count xs
  mapped_more f xs now count k x y one_more within before item changed =
      let same = item ∙ ap (λ ys. get_or ys k x) before ∙ get_or-mapped f xs k x within in
      ap (λ ys. set ys k y) before
      ∙ ap (λ z. set (map f (take k xs) ++ drop k xs) k z) (changed ∙ ap f same)
      ∙ map-one_more f xs k x within
      ∙ ap (λ m. map f (take m xs) ++ drop m xs) (sym one_more)

  -- the first of what is left, and what is left after it
  first_of_drop : (xs : List X) (k : ℕ) (x d : X) → slice_get (drop k xs) 0 ≡ Some x → x ≡ get_or xs k d
  first_of_drop [] zero x d there = cc
  first_of_drop [] (suc k) x d there = cc
  first_of_drop (y ∷ xs) zero x d there = cc
  first_of_drop (y ∷ xs) (suc k) x d there = first_of_drop xs k x d there

  pub first_of_rest : (xs rest : List X) (k : ℕ) (x d : X) → rest ≡ drop k xs → slice_get rest 0 ≡ Some x → x ≡ get_or xs k d
  first_of_rest xs rest k x d before there = first_of_drop xs k x d (sym (ap (λ ys. slice_get ys 0) before) ∙ there)

  remove_first : (xs : List X) (k : ℕ) → remove (drop k xs) 0 ≡ drop (suc k) xs
  remove_first [] zero = refl
  remove_first [] (suc k) = refl
  remove_first (y ∷ xs) zero = refl
  remove_first (y ∷ xs) (suc k) = remove_first xs k

  pub rest_without_first : (xs rest : List X) (k : ℕ) → rest ≡ drop k xs → remove rest 0 ≡ drop (k + 1) xs
  rest_without_first xs rest k before = ap (λ ys. remove ys 0) before ∙ remove_first xs k ∙ ap (λ m. drop m xs) (sym (add-one k))
