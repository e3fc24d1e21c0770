-- What occurs in a bag: equal bags have the same items, and an item that occurs may stand first.
use Rattle.std.proofs.Common.{◌≡◌, ℕ, zero, suc, ◌+◌, Bool, true, false, ◌||◌, List, [], ◌∷◌, refl, sym, ap, ◌∙◌, if◌then◌else◌, arith, true≢false}
use Rattle.std.specs.List.{list_any}
use Rattle.pdw_base.proofs.SameBagLaws.{SameBag-≡, SameBag-cancel, SameBag-cons, SameBag-trans}
use Rattle.pdw_base.specs.SameBag.{SameBag, weigh}

abbrev positive : ℕ → Bool
positive zero = false
positive (suc n) = true

abbrev one_if : Bool → ℕ
one_if is = if is then 1 else 0

module _ {X : Type 0} where
  any-weighs : (test : X → Bool) (xs : List X) → list_any test xs ≡ positive (weigh (λ x. one_if (test x)) xs)
  any-weighs test [] = refl
  any-weighs test (x ∷ xs) = by (test x) (weigh (λ x. one_if (test x)) xs) (any-weighs test xs)
    where
      by : (is : Bool) (n : ℕ) → list_any test xs ≡ positive n → (is || list_any test xs) ≡ positive (one_if is + n)
      by true n rest = let more : suc n ≡ 1 + n = omega arith in ap positive more
      by false n rest = let same : n ≡ 0 + n = omega arith in rest ∙ ap positive same

  -- a test that an item of one bag passes, one of the other passes
  pub SameBag-list_any : (test : X → Bool) {xs ys : List X} → SameBag xs ys → list_any test xs ≡ list_any test ys
  SameBag-list_any test {xs} {ys} same = any-weighs test xs ∙ ap positive (same.weighs (λ x. one_if (test x))) ∙ sym (any-weighs test ys)

  SameBag-swap_two : (x y : X) (xs : List X) → SameBag (x ∷ y ∷ xs) (y ∷ x ∷ xs)
  SameBag-swap_two x y xs = record {
    weighs = λ weight. omega arith;
  }

-- ---- what is the same for equal bags

module _ {X A : Type 0} (eq : X → X → Bool) (sound : (x y : X) → eq x y ≡ true → x ≡ y) (own : (x : X) → eq x x ≡ true)
    (of : List X → A) (under : (x : X) (xs ys : List X) → of xs ≡ of ys → of (x ∷ xs) ≡ of (x ∷ ys)) (turned : (x y : X) (xs : List X) → of (x ∷ y ∷ xs) ≡ of (y ∷ x ∷ xs)) where
  -- a list with one of its items before the others
  record Fronted (x : X) (xs : List X) : Type 0 where
    others : List X
    bag : SameBag xs (x ∷ others)
    same : of xs ≡ of (x ∷ others)

  fronted : (x : X) (ys : List X) → list_any (eq x) ys ≡ true → Fronted x ys
  fronted x [] there = absurd (true≢false (sym there))
  fronted x (y ∷ ys) there = by (eq x y) refl there (fronted x ys)
    where
      by : (is : Bool) → eq x y ≡ is → (is || list_any (eq x) ys) ≡ true → (list_any (eq x) ys ≡ true → Fronted x ys) → Fronted x (y ∷ ys)
      by true is _ _ = record {
        others = ys;
        bag = SameBag-≡ (ap (λ z. z ∷ ys) (sym (sound x y is)));
        same = ap (λ z. of (z ∷ ys)) (sym (sound x y is));
      }
      by false _ later more =
          let rest = more later in
          record {
            others = y ∷ rest.others;
            bag = SameBag-trans (SameBag-cons y rest.bag) (SameBag-swap_two y x rest.others);
            same = under y ys (x ∷ rest.others) rest.same ∙ turned y x rest.others;
          }

  -- what neither the first two items exchanged nor others behind the first can change is the same for equal bags
  pub SameBag-same : (xs ys : List X) → SameBag xs ys → of xs ≡ of ys
  SameBag-same [] [] same = refl
  SameBag-same [] (y ∷ ys) same = let none = same.weighs (λ x. 1) in absurd (omega arith)
  SameBag-same (x ∷ xs) ys same =
      let front = fronted x ys (sym (SameBag-list_any (eq x) same) ∙ ap (λ is. is || list_any (eq x) xs) (own x)) in
      under x xs front.others (SameBag-same xs front.others (SameBag-cancel (x ∷ []) (SameBag-trans same front.bag))) ∙ sym front.same
