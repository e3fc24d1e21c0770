-- Rows and columns of a grid that are set anew flag by flag.
use Rattle.std.proofs.Common.{◌≡◌, ℕ, zero, suc, ◌+◌, ◌<◌, Bool, List, [], ◌∷◌, ◌++◌, length, map, set, take, drop, get_or, refl, sym, ap, ◌∙◌, add-one, arith}
use Rattle.std.proofs.lemmas.List.{get_or-set_same, take_more, length-take-le}
use Rattle.pdw_machine.specs.Flags.{with_column, with_flag}

module _ {X : Type 0} where
  pub set-set : (xs : List X) (i : ℕ) (y z : X) → set (set xs i y) i z ≡ set xs i z
  set-set [] i y z = refl
  set-set (x ∷ xs) zero y z = refl
  set-set (x ∷ xs) (suc i) y z = ap (λ ys. x ∷ ys) (set-set xs i y z)

-- a row that is not empty is there
pub inside_row : {X : Type 0} (rows : List (List X)) (from n : ℕ) → length (get_or rows from []) ≡ suc n → from < length rows
inside_row [] from n long = absurd (omega arith)
inside_row (row ∷ rows) zero n long = omega arith
inside_row (row ∷ rows) (suc from) n long = let rest = inside_row rows from n long in omega arith

module _ {X : Type 0} (f : X → Bool) where
  pub filled : (xs : List X) (old : List Bool) (k : ℕ) (d : X) → k < length xs → length old ≡ length xs
      → set (map f (take k xs) ++ drop k old) k (f (get_or xs k d)) ≡ map f (take (suc k) xs) ++ drop (suc k) old
  filled [] old k d within same = absurd (omega arith)
  filled (x ∷ xs) [] k d within same = absurd (omega arith)
  filled (x ∷ xs) (flag ∷ old) zero d within same = refl
  filled (x ∷ xs) (flag ∷ old) (suc k) d within same = ap (λ flags. f x ∷ flags) (filled xs old k d (omega arith) (omega arith))

  pub row_more : (xs : List X) (before now : List (List Bool)) (from k n : ℕ) (flag : Bool) (d : X)
      → length xs ≡ suc n → k < suc n → length (get_or before from []) ≡ suc n → flag ≡ f (get_or xs k d)
      → now ≡ set before from (map f (take k xs) ++ drop k (get_or before from []))
      → with_flag from k flag now ≡ set before from (map f (take (k + 1) xs) ++ drop (k + 1) (get_or before from []))
  row_more xs before now from k n flag d all within same item was =
      let old = get_or before from [] in
      let row = map f (take k xs) ++ drop k old in
      let there = inside_row before from n same in
      ap (λ rows. with_flag from k flag rows) was
      ∙ set-set before from row (set (get_or (set before from row) from []) k flag)
      ∙ ap (λ r. set before from (set r k flag)) (get_or-set_same before from row [] there)
      ∙ ap (λ b. set before from (set row k b)) item
      ∙ ap (λ r. set before from r) (filled xs old k d (omega arith) (same ∙ sym all))
      ∙ ap (λ m. set before from (map f (take m xs) ++ drop m old)) (sym (add-one k))

-- one flag more of a column
column-more : (to : ℕ) (flags : List Bool) (flag : Bool) (grid : List (List Bool))
    → with_flag (length flags) to flag (with_column to flags grid) ≡ with_column to (flags ++ flag ∷ []) grid
column-more to [] flag [] = refl
column-more to (b ∷ flags) flag [] = refl
column-more to [] flag (row ∷ grid) = refl
column-more to (b ∷ flags) flag (row ∷ grid) = ap (λ rows. set row to b ∷ rows) (column-more to flags flag grid)

pub column_more : (to : ℕ) (column : List Bool) (before now : List (List Bool)) (k : ℕ) (flag : Bool) → k < length column → flag ≡ get_or column k flag
    → now ≡ with_column to (take k column) before → with_flag k to flag now ≡ with_column to (take (k + 1) column) before
column_more to column before now k flag within item was =
    let long = length-take-le k column (omega arith) in
    ap (λ rows. with_flag k to flag rows) was
    ∙ ap (λ m. with_flag m to flag (with_column to (take k column) before)) (sym long)
    ∙ column-more to (take k column) flag before
    ∙ ap (λ flags. with_column to flags before) (sym (take_more column k flag within ∙ ap (λ b. take k column ++ b ∷ []) (sym item)))
