-- Items by their numbers.
use Rattle.std.proofs.Common.{◌≡◌, ℕ, zero, suc, ◌+◌, List, [], ◌∷◌, ◌++◌, length, Some, sym, subst, arith, append_assoc, length-append}
use Rattle.std.specs.Bool.{⊤}
use Rattle.std.specs.List.{slice_get}
use Rattle.std.proofs.lemmas.Option.{slice_get_within}
use Rattle.pdw_groups.proofs.OrderLaws.{at-end}

some-same : {X : Type 0} (a b : X) → Some a ≡ Some b → a ≡ b
some-same a b same = cc

module _ {X : Type 0} (P : ℕ → X → Type 0) where
  -- each item, where the first has this number
  abbrev pub Each : ℕ → List X → Type 0
  Each first [] = ⊤
  Each first (x ∷ xs) = P first x × Each (suc first) xs

  pub each-append : (first : ℕ) (xs ys : List X) → Each first xs → Each (first + length xs) ys → Each first (xs ++ ys)
  each-append first [] ys here there = let same : first + 0 ≡ first = omega arith in subst (λ n. Each n ys) same there
  each-append first (x ∷ xs) ys here there =
      let same : first + suc (length xs) ≡ suc first + length xs = omega arith in
      (here.0, each-append (suc first) xs ys here.1 (subst (λ n. Each n ys) same there))

  pub each-left : (first : ℕ) (xs ys : List X) → Each first (xs ++ ys) → Each first xs
  each-left first [] ys all = tt
  each-left first (x ∷ xs) ys all = (all.0, each-left (suc first) xs ys all.1)

  pub each-right : (first : ℕ) (xs ys : List X) → Each first (xs ++ ys) → Each (first + length xs) ys
  each-right first [] ys all = let same : first ≡ first + 0 = omega arith in subst (λ n. Each n ys) same all
  each-right first (x ∷ xs) ys all =
      let same : suc first + length xs ≡ first + suc (length xs) = omega arith in
      subst (λ n. Each n ys) same (each-right (suc first) xs ys all.1)

  pub each-at : (first : ℕ) (xs : List X) → Each first xs → (i : ℕ) (x : X) → slice_get xs i ≡ Some x → P (first + i) x
  each-at first [] all i x there = absurd (omega (arith, slice_get_within [] i x there))
  each-at first (y ∷ xs) all zero x there =
      let same : first ≡ first + 0 = omega arith in subst (λ n. P n x) same (subst (P first) (some-same y x there) all.0)
  each-at first (y ∷ xs) all (suc i) x there =
      let same : suc first + i ≡ first + suc i = omega arith in subst (λ n. P n x) same (each-at (suc first) xs all.1 i x there)

-- these items stand in a list from this number on
abbrev pub StandAt : {X : Type 0} → List X → ℕ → List X → Type 0
StandAt all first xs = Each (λ n x. slice_get all n ≡ Some x) first xs

pub stand-after : {X : Type 0} (done xs : List X) (first : ℕ) → first ≡ length done → StandAt (done ++ xs) first xs
stand-after done [] first is = tt
stand-after done (x ∷ xs) first is = (
  subst (λ n. slice_get (done ++ x ∷ xs) n ≡ Some x) (sym is) (at-end done x xs),
  subst (λ all. StandAt all (suc first) xs) (append_assoc done (x ∷ []) xs)
      (stand-after (done ++ x ∷ []) xs (suc first) (let count = length-append done (x ∷ []) in omega (arith, count, is))),
)

pub stand-itself : {X : Type 0} (xs : List X) → StandAt xs 0 xs
stand-itself xs = stand-after [] xs 0 (omega arith)
