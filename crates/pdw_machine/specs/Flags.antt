-- Flags, and the place of the k-th that is up.
use Rattle.std.specs.Prelude.{ℕ, zero, suc, ◌+◌, ◌-◌, nat_lt, Bool, true, false, List, [], ◌∷◌, slice_index_or, slice_set, if◌then◌else◌}

abbrev pub one_if : Bool → ℕ
one_if true = 1
one_if false = 0

-- how many are up
abbrev pub up_count : List Bool → ℕ
up_count [] = 0
up_count (true ∷ flags) = suc (up_count flags)
up_count (false ∷ flags) = up_count flags

-- the place of the k-th that is up, counted from 0; the end where there are not so many
abbrev pub up_place : List Bool → ℕ → ℕ
up_place [] k = 0
up_place (true ∷ flags) zero = 0
up_place (true ∷ flags) (suc k) = suc (up_place flags k)
up_place (false ∷ flags) k = suc (up_place flags k)

-- rows of flags, one after the other
abbrev pub Grid : Type 0
Grid = List (List Bool)

abbrev pub grid_count : Grid → ℕ
grid_count [] = 0
grid_count (flags ∷ rows) = up_count flags + grid_count rows

-- the row and the place in it of the k-th that is up
abbrev pub grid_row : Grid → ℕ → ℕ
grid_row [] k = 0
grid_row (flags ∷ rows) k = if nat_lt k (up_count flags) then 0 else suc (grid_row rows (k - up_count flags))

abbrev pub grid_place : Grid → ℕ → ℕ
grid_place [] k = 0
grid_place (flags ∷ rows) k = if nat_lt k (up_count flags) then up_place flags k else grid_place rows (k - up_count flags)

abbrev pub row_at : ℕ → Grid → List Bool
row_at row grid = slice_index_or grid row []

-- with one flag set anew
abbrev pub with_flag : ℕ → ℕ → Bool → Grid → Grid
with_flag row place flag grid = slice_set grid row (slice_set (row_at row grid) place flag)

-- with the flags at one place of each row set anew
abbrev pub with_column : ℕ → List Bool → Grid → Grid
with_column place [] grid = grid
with_column place (flag ∷ flags) [] = []
with_column place (flag ∷ flags) (row ∷ rows) = slice_set row place flag ∷ with_column place flags rows
