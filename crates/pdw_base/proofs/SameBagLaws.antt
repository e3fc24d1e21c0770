-- The laws of equal bags, and the bridge to std's permutations.
use Rattle.std.proofs.Common.{◌≡◌, ℕ, ◌+◌, ◌<◌, Bool, true, false, List, [], ◌∷◌, ◌++◌, length, map, filter, refl, sym, ap, ◌∙◌, subst, arith, cond, if◌then◌else◌, sum_by}
use Rattle.std.specs.List.{flat_map}
use Rattle.std.specs.List.Sorted.{IsPermutation}
use Rattle.std.proofs.lemmas.List.Sorted.{sum_by-IsPermutation, IsPermutation-refl, IsPermutation-cons, IsPermutation-trans, IsPermutation-sym, IsPermutation-middle}
use Rattle.std.proofs.lemmas.List.Sums.{sum_by-cons}
use Rattle.pdw_base.specs.SameBag.{SameBag, weigh}

module _ {X : Type 0} where
  pub weigh-append : (weight : X → ℕ) (xs ys : List X) → weigh weight (xs ++ ys) ≡ weigh weight xs + weigh weight ys
  weigh-append weight [] ys = omega arith
  weigh-append weight (x ∷ xs) ys = let rest = weigh-append weight xs ys in omega arith

  pub SameBag-refl : (xs : List X) → SameBag xs xs
  SameBag-refl xs = record { weighs = λ weight. refl }

  pub SameBag-≡ : {xs ys : List X} → xs ≡ ys → SameBag xs ys
  SameBag-≡ e = record { weighs = λ weight. ap (weigh weight) e }

  pub SameBag-sym : {xs ys : List X} → SameBag xs ys → SameBag ys xs
  SameBag-sym same = record { weighs = λ weight. sym (same.weighs weight) }

  pub SameBag-trans : {xs ys zs : List X} → SameBag xs ys → SameBag ys zs → SameBag xs zs
  SameBag-trans first second = record { weighs = λ weight. first.weighs weight ∙ second.weighs weight }

  pub SameBag-cons : (x : X) {xs ys : List X} → SameBag xs ys → SameBag (x ∷ xs) (x ∷ ys)
  SameBag-cons x same = record { weighs = λ weight. ap (λ n. weight x + n) (same.weighs weight) }

  pub SameBag-append : {xs ys us vs : List X} → SameBag xs ys → SameBag us vs → SameBag (xs ++ us) (ys ++ vs)
  SameBag-append {xs} {ys} {us} {vs} first second = record {
    weighs = λ weight.
        let left = weigh-append weight xs us in
        let right = weigh-append weight ys vs in
        let a = first.weighs weight in
        let b = second.weighs weight in
        omega arith;
  }

  pub SameBag-append_comm : (xs ys : List X) → SameBag (xs ++ ys) (ys ++ xs)
  SameBag-append_comm xs ys = record {
    weighs = λ weight.
        let left = weigh-append weight xs ys in
        let right = weigh-append weight ys xs in
        omega arith;
  }

  -- what stands in the middle may stand first
  pub SameBag-middle : (xs : List X) (x : X) (ys : List X) → SameBag (xs ++ x ∷ ys) (x ∷ (xs ++ ys))
  SameBag-middle xs x ys = record {
    weighs = λ weight.
        let left = weigh-append weight xs (x ∷ ys) in
        let right = weigh-append weight xs ys in
        omega arith;
  }

  -- equal parts on the left cancel
  pub SameBag-cancel : (zs : List X) {xs ys : List X} → SameBag (zs ++ xs) (zs ++ ys) → SameBag xs ys
  SameBag-cancel zs {xs} {ys} same = record {
    weighs = λ weight.
        let left = weigh-append weight zs xs in
        let right = weigh-append weight zs ys in
        let all = same.weighs weight in
        omega arith;
  }

  weigh-one : (xs : List X) → weigh (λ x. 1) xs ≡ length xs
  weigh-one [] = refl
  weigh-one (x ∷ xs) = let rest = weigh-one xs in omega arith

  pub SameBag-length : {xs ys : List X} → SameBag xs ys → length xs ≡ length ys
  SameBag-length {xs} {ys} same = sym (weigh-one xs) ∙ same.weighs (λ x. 1) ∙ weigh-one ys

  weigh-filter : (weight : X → ℕ) (test : X → Bool) (xs : List X) → weigh weight (filter test xs) ≡ weigh (λ x. if test x then weight x else 0) xs
  weigh-filter weight test [] = refl
  weigh-filter weight test (x ∷ xs) = by (test x) (weigh-filter weight test xs)
    where
      by : (b : Bool) → weigh weight (filter test xs) ≡ weigh (λ y. if test y then weight y else 0) xs
          → weigh weight (cond b (x ∷ filter test xs) (filter test xs)) ≡ (if b then weight x else 0) + weigh (λ y. if test y then weight y else 0) xs
      by true rest = ap (λ n. weight x + n) rest
      by false rest = omega (arith, rest)

  pub SameBag-filter : (test : X → Bool) {xs ys : List X} → SameBag xs ys → SameBag (filter test xs) (filter test ys)
  SameBag-filter test {xs} {ys} same = record {
    weighs = λ weight. weigh-filter weight test xs ∙ same.weighs (λ x. if test x then weight x else 0) ∙ sym (weigh-filter weight test ys);
  }

module _ {X Y : Type 0} where
  weigh-map : (weight : Y → ℕ) (f : X → Y) (xs : List X) → weigh weight (map f xs) ≡ weigh (λ x. weight (f x)) xs
  weigh-map weight f [] = refl
  weigh-map weight f (x ∷ xs) = ap (λ n. weight (f x) + n) (weigh-map weight f xs)

  pub SameBag-map : (f : X → Y) {xs ys : List X} → SameBag xs ys → SameBag (map f xs) (map f ys)
  SameBag-map f {xs} {ys} same = record {
    weighs = λ weight. weigh-map weight f xs ∙ same.weighs (λ x. weight (f x)) ∙ sym (weigh-map weight f ys);
  }

  pub weigh-flat_map : (weight : Y → ℕ) (f : X → List Y) (xs : List X) → weigh weight (flat_map f xs) ≡ weigh (λ x. weigh weight (f x)) xs
  weigh-flat_map weight f [] = refl
  weigh-flat_map weight f (x ∷ xs) = weigh-append weight (f x) (flat_map f xs) ∙ ap (λ n. weigh weight (f x) + n) (weigh-flat_map weight f xs)

  -- the same items, each with its list
  pub SameBag-flat_map : (f : X → List Y) {xs ys : List X} → SameBag xs ys → SameBag (flat_map f xs) (flat_map f ys)
  SameBag-flat_map f {xs} {ys} same = record {
    weighs = λ weight. weigh-flat_map weight f xs ∙ same.weighs (λ x. weigh weight (f x)) ∙ sym (weigh-flat_map weight f ys);
  }

  -- each item with an equal bag
  pub SameBag-flat_map_inner : (f g : X → List Y) → ((x : X) → SameBag (f x) (g x)) → (xs : List X) → SameBag (flat_map f xs) (flat_map g xs)
  SameBag-flat_map_inner f g same [] = SameBag-refl []
  SameBag-flat_map_inner f g same (x ∷ xs) = SameBag-append (same x) (SameBag-flat_map_inner f g same xs)

module _ {X : Type 0} where
  weigh-plus : (f g : X → ℕ) (xs : List X) → weigh (λ x. f x + g x) xs ≡ weigh f xs + weigh g xs
  weigh-plus f g [] = refl
  weigh-plus f g (x ∷ xs) = let rest = weigh-plus f g xs in omega arith

  weigh-zero : (xs : List X) → weigh (λ x. 0) xs ≡ 0
  weigh-zero [] = refl
  weigh-zero (x ∷ xs) = let rest = weigh-zero xs in omega arith

weigh-swap : {X Y : Type 0} (f : X → Y → ℕ) (xs : List X) (ys : List Y) → weigh (λ x. weigh (λ y. f x y) ys) xs ≡ weigh (λ y. weigh (λ x. f x y) xs) ys
weigh-swap f [] ys = sym (weigh-zero ys)
weigh-swap f (x ∷ xs) ys = ap (λ n. weigh (λ y. f x y) ys + n) (weigh-swap f xs ys) ∙ sym (weigh-plus (λ y. f x y) (λ y. weigh (λ x. f x y) xs) ys)

-- two nested loops may be swapped
pub SameBag-swap : {X Y Z : Type 0} (f : X → Y → List Z) (xs : List X) (ys : List Y)
    → SameBag (flat_map (λ x. flat_map (λ y. f x y) ys) xs) (flat_map (λ y. flat_map (λ x. f x y) xs) ys)
SameBag-swap f xs ys = record {
  weighs = λ weight.
      weigh-flat_map weight (λ x. flat_map (λ y. f x y) ys) xs
      ∙ weigh-same (λ x. weigh weight (flat_map (λ y. f x y) ys)) (λ x. weigh (λ y. weigh weight (f x y)) ys) (λ x. weigh-flat_map weight (λ y. f x y) ys) xs
      ∙ weigh-swap (λ x y. weigh weight (f x y)) xs ys
      ∙ sym (weigh-same (λ y. weigh weight (flat_map (λ x. f x y) xs)) (λ y. weigh (λ x. weigh weight (f x y)) xs) (λ y. weigh-flat_map weight (λ x. f x y) xs) ys)
      ∙ sym (weigh-flat_map weight (λ y. flat_map (λ x. f x y) xs) ys);
}
  where
    weigh-same : {A : Type 0} (g h : A → ℕ) → ((a : A) → g a ≡ h a) → (items : List A) → weigh g items ≡ weigh h items
    weigh-same g h same [] = refl
    weigh-same g h same (a ∷ items) = let first = same a in let rest = weigh-same g h same items in omega arith

-- ---- std's permutations

weigh-sum_by : {X : Type 0} (weight : X → ℕ) (xs : List X) → weigh weight xs ≡ sum_by weight xs
weigh-sum_by weight [] = refl
weigh-sum_by weight (x ∷ xs) = ap (λ n. weight x + n) (weigh-sum_by weight xs) ∙ sym (sum_by-cons weight x xs)

pub SameBag-from_IsPermutation : {X : Type 0} (xs ys : List X) → IsPermutation xs ys → SameBag xs ys
SameBag-from_IsPermutation xs ys moved = record {
  weighs = λ weight. weigh-sum_by weight xs ∙ sym (sum_by-IsPermutation weight xs ys moved) ∙ sym (weigh-sum_by weight ys);
}

-- one for an item that passes a test
abbrev counted : Bool → ℕ
counted true = 1
counted false = 0

positive : (first rest all : ℕ) → first ≡ 1 → first + rest ≡ all → 0 < all
positive first rest all one sum = omega arith

-- where a test decides equality, equal bags are permutations of each other
module _ {X : Type 0} (eq : X → X → Bool) (sound : (x y : X) → eq x y ≡ true → x ≡ y) (own : (x : X) → eq x x ≡ true) where
  -- an item that occurs has a place
  split_at : (x : X) (ys : List X) → 0 < weigh (λ y. counted (eq x y)) ys → (us : List X) × (vs : List X) × (ys ≡ us ++ x ∷ vs)
  split_at x [] there = absurd (omega arith)
  split_at x (y ∷ ys) there = by (eq x y) refl there (split_at x ys)
    where
      by : (b : Bool) → eq x y ≡ b → 0 < counted b + weigh (λ z. counted (eq x z)) ys
          → (0 < weigh (λ z. counted (eq x z)) ys → (us : List X) × (vs : List X) × (ys ≡ us ++ x ∷ vs))
          → (us : List X) × (vs : List X) × (y ∷ ys ≡ us ++ x ∷ vs)
      by true same more later = ([], ys, ap (λ z. z ∷ ys) (sym (sound x y same)))
      by false other more later = let rest = later (omega arith) in (y ∷ rest.0, rest.1, ap (λ zs. y ∷ zs) rest.2)

  pub IsPermutation-from_SameBag : (xs ys : List X) → SameBag xs ys → IsPermutation xs ys
  IsPermutation-from_SameBag [] [] same = IsPermutation-refl []
  IsPermutation-from_SameBag [] (y ∷ ys) same = let none = SameBag-length same in absurd (omega arith)
  IsPermutation-from_SameBag (x ∷ xs) ys same =
      let there = positive (counted (eq x x)) _ _ (ap counted (own x)) (same.weighs (λ y. counted (eq x y))) in
      let place = split_at x ys there in
      let front = SameBag-trans (subst (λ zs. SameBag (x ∷ xs) zs) place.2 same) (SameBag-middle place.0 x place.1) in
      let rest = IsPermutation-from_SameBag xs (place.0 ++ place.1) (SameBag-cancel (x ∷ []) front) in
      subst (λ zs. IsPermutation (x ∷ xs) zs) (sym place.2)
      (IsPermutation-trans _ _ _ (IsPermutation-cons x _ _ rest) (IsPermutation-sym _ _ (IsPermutation-middle place.0 x place.1)))
