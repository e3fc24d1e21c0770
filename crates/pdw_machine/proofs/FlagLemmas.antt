-- Counts and places of flags that are up.
use Rattle.std.proofs.Common.{◌≡◌, ℕ, zero, suc, ◌+◌, ◌<◌, ◌≤◌, Bool, true, false, List, [], ◌∷◌, length, replicate, set, take, get_or, refl, sym, ap, ◌∙◌, add-one, arith}
use Rattle.pdw_machine.specs.Flags.{one_if, up_count, grid_count}

pub up_count_bounded : (flags : List Bool) → up_count flags ≤ length flags
up_count_bounded [] = omega arith
up_count_bounded (true ∷ flags) = let rest = up_count_bounded flags in omega arith
up_count_bounded (false ∷ flags) = let rest = up_count_bounded flags in omega arith

pub up_count_none : (len : ℕ) → up_count (replicate len false) ≡ 0
up_count_none zero = refl
up_count_none (suc len) = up_count_none len

-- one flag is set anew
pub up_count_set : (flags : List Bool) (place : ℕ) (flag d : Bool) → place < length flags
    → up_count (set flags place flag) + one_if (get_or flags place d) ≡ up_count flags + one_if flag
up_count_set [] place flag d within = absurd (omega arith)
up_count_set (true ∷ flags) zero true d within = refl
up_count_set (true ∷ flags) zero false d within = omega arith
up_count_set (false ∷ flags) zero true d within = omega arith
up_count_set (false ∷ flags) zero false d within = refl
up_count_set (true ∷ flags) (suc place) flag d within = let rest = up_count_set flags place flag d (omega arith) in omega arith
up_count_set (false ∷ flags) (suc place) flag d within = let rest = up_count_set flags place flag d (omega arith) in omega arith

-- a flag that is up is counted
pub one_if_bounded : (flags : List Bool) (place : ℕ) (d : Bool) → place < length flags → one_if (get_or flags place d) ≤ up_count flags
one_if_bounded [] place d within = absurd (omega arith)
one_if_bounded (true ∷ flags) zero d within = omega arith
one_if_bounded (false ∷ flags) zero d within = omega arith
one_if_bounded (true ∷ flags) (suc place) d within = let rest = one_if_bounded flags place d (omega arith) in omega arith
one_if_bounded (false ∷ flags) (suc place) d within = one_if_bounded flags place d (omega arith)

-- one row more is counted
grid_count-take : (rows : List (List Bool)) (i : ℕ) (d : List Bool) → i < length rows → grid_count (take (suc i) rows) ≡ grid_count (take i rows) + up_count (get_or rows i d)
grid_count-take [] i d within = absurd (omega arith)
grid_count-take (row ∷ rows) zero d within = omega arith
grid_count-take (row ∷ rows) (suc i) d within = let rest = grid_count-take rows i d (omega arith) in omega arith

pub grid_count_more : (rows : List (List Bool)) (i : ℕ) (row : List Bool) → i < length rows → row ≡ get_or rows i row
    → grid_count (take (i + 1) rows) ≡ grid_count (take i rows) + up_count row
grid_count_more rows i row within item =
    ap (λ k. grid_count (take k rows)) (add-one i) ∙ grid_count-take rows i row within ∙ ap (λ flags. grid_count (take i rows) + up_count flags) (sym item)
