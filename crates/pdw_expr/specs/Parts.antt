-- Groups of rows (SQL-92, 7.7) and rows without their duplicates (7.9): two NULLs are the same.
use Rattle.std.specs.Prelude.{Bool, List, [], ◌∷◌, map}
use Rattle.std.specs.Cmp.Lexicographic.{slice_cmp}
use Rattle.std.specs.FinMap as finite
use Rattle.std.specs.List.{filter}
use Rattle.std.specs.Ordering.{is_eq}
use Rattle.std.specs.declared.cmp.Ordering.{Ordering}
use Rattle.pdw_base.specs.Comparison.{value_cmp}
use Rattle.pdw_base.specs.declared.value.Value.{Value}

-- rows are ordered value by value
abbrev pub row_cmp : List Value → List Value → Ordering
row_cmp = slice_cmp value_cmp

abbrev pub same_row : List Value → List Value → Bool
same_row a b = is_eq (row_cmp a b)

-- each row once, in rising order: the keys of a finite map
unfoldable pub each_once : List (List Value) → List (List Value)
each_once rows = finite.keys (finite.from_entries {R = row_cmp} (map (λ row. (row, tt {0})) rows))

-- rows of any form in parts of equal keys, by rising keys; within a part they keep their order
abbrev pub parts : {X : Type 0} → (X → List Value) → List X → List (List X)
parts key rows = map (λ k. filter (λ row. same_row (key row) k) rows) (each_once (map key rows))

-- without keys there is exactly one group, also over no row
abbrev pub groups : {K X : Type 0} → List K → (X → List Value) → List X → List (List X)
groups [] key rows = rows ∷ []
groups (first ∷ rest) key rows = parts key rows
