-- One step of a loop over a list: what holds of the items so far, at one item more.
use Rattle.std.proofs.Common.{◌≡◌, ℕ, zero, suc, ◌+◌, ◌<◌, Bool, List, [], ◌∷◌, ◌++◌, length, map, filter, fold, if◌then◌else◌, take, drop, get_or, refl, sym, ap, ◌∙◌, append_assoc, arith}
use Rattle.std.specs.List.{flat_map, zip}
use Rattle.std.proofs.lemmas.List.Elements.{filter-append}
use Rattle.std.proofs.lemmas.List.Sums.{fold-append}
use Rattle.std.proofs.lemmas.Slice.Zip.{length-zip, get_or-zip}
use Rattle.std.proofs.lemmas.List.{take_more, drop_more, map-append, append-nil}
use Rattle.std.proofs.lemmas.Grind.{flat_map-append}

module _ {X : Type 0} (xs : List X) (i : ℕ) (x : X) (within : i < length xs) (item : x ≡ get_or xs i x) where
  pub take-one_more : take (i + 1) xs ≡ take i xs ++ x ∷ []
  take-one_more = take_more xs i x within ∙ ap (λ y. take i xs ++ y ∷ []) (sym item)

  pub drop-one_more : drop i xs ≡ x ∷ drop (i + 1) xs
  drop-one_more = drop_more xs i x within ∙ ap (λ y. y ∷ drop (i + 1) xs) (sym item)

  pub map-one_more : {Y : Type 0} (f : X → Y) → map f (take (i + 1) xs) ≡ map f (take i xs) ++ f x ∷ []
  map-one_more f = ap (map f) take-one_more ∙ map-append f (take i xs) (x ∷ [])

  pub flat_map-one_more : {Y : Type 0} (f : X → List Y) → flat_map f (take (i + 1) xs) ≡ flat_map f (take i xs) ++ f x
  flat_map-one_more f =
      ap (flat_map f) take-one_more ∙ flat_map-append f (take i xs) (x ∷ []) ∙ ap (λ ys. flat_map f (take i xs) ++ ys) (append-nil (f x))

  -- a text that grows by what each item gives
  pub flat_map-grown : {Y : Type 0} (f : X → List Y) (start now next : List Y) → now ≡ start ++ flat_map f (take i xs) → next ≡ now ++ f x
      → next ≡ start ++ flat_map f (take (i + 1) xs)
  flat_map-grown f start now next before grown =
      grown ∙ ap (λ ys. ys ++ f x) before ∙ append_assoc start (flat_map f (take i xs)) (f x) ∙ ap (λ ys. start ++ ys) (sym (flat_map-one_more f))

  pub filter-one_more : (test : X → Bool) → filter test (take (i + 1) xs) ≡ filter test (take i xs) ++ (if test x then x ∷ [] else [])
  filter-one_more test = ap (filter test) take-one_more ∙ filter-append test (take i xs) (x ∷ [])

  pub fold-one_more : {Y : Type 0} (f : Y → X → Y) (start : Y) → fold f start (take (i + 1) xs) ≡ f (fold f start (take i xs)) x
  fold-one_more f start = ap (fold f start) take-one_more ∙ fold-append f start (take i xs) (x ∷ [])

module _ {X Y : Type 0} where
  zip-take : (i : ℕ) (xs : List X) (ys : List Y) → zip (take i xs) (take i ys) ≡ take i (zip xs ys)
  zip-take zero xs ys = refl
  zip-take (suc i) [] ys = refl
  zip-take (suc i) (x ∷ xs) [] = refl
  zip-take (suc i) (x ∷ xs) (y ∷ ys) = ap (λ pairs. (x, y) ∷ pairs) (zip-take i xs ys)

module _ {X Y : Type 0} (xs : List X) (ys : List Y) (i : ℕ) (x : X) (y : Y) (within : i < length xs) (also : i < length ys) (item : x ≡ get_or xs i x) (other : y ≡ get_or ys i y) where
  pub take_zip-one_more : take (i + 1) (zip xs ys) ≡ take i (zip xs ys) ++ (x, y) ∷ []
  take_zip-one_more =
      let all = length-zip xs ys in
      take-one_more (zip xs ys) i (x, y) (omega arith) ((λ j. (item j, other j)) ∙ sym (get_or-zip xs ys i (x, y) within also))

  pub zip-one_more : zip (take (i + 1) xs) (take (i + 1) ys) ≡ zip (take i xs) (take i ys) ++ (x, y) ∷ []
  zip-one_more = zip-take (i + 1) xs ys ∙ take_zip-one_more ∙ ap (λ pairs. pairs ++ (x, y) ∷ []) (sym (zip-take i xs ys))
