-- The predicates of a search condition over values and rows (SQL-92, 8.3 to 8.10).
use Rattle.std.specs.Prelude.{Bool, true, false, List, [], ◌∷◌, map, if◌then◌else◌}
use Rattle.pdw_base.specs.declared.truth.Truth.{Truth}
use Rattle.pdw_base.specs.declared.value.Value.{Value}
use Rattle.pdw_base.specs.declared.value.Value.TheVariants.{Null}
use Rattle.pdw_expr.specs.Comparison.{comparison}
use Rattle.pdw_expr.specs.Logic.{any_of, conjunction, negation}
use Rattle.pdw_expr.specs.Parts.{each_once}
use Rattle.pdw_expr.specs.declared.cond.Cmp.TheVariants.{Eq, Ge, Le}

abbrev pub negated_if : Bool → Truth → Truth
negated_if negated truth = if negated then negation truth else truth

-- x >= low AND x <= high (SQL-92, 8.3)
abbrev pub between : Value → Value → Value → Truth
between x low high = conjunction (comparison Ge x low) (comparison Le x high)

-- x equals one of them (SQL-92, 8.4): True where some comparison is, False where all are, else Unknown
abbrev pub is_one_of : Value → List Value → Truth
is_one_of x list = any_of (map (comparison Eq x) list)

-- what IN takes of a subquery's row
abbrev pub first_column : List Value → Value
first_column [] = Null
first_column (value ∷ row) = value

-- EXISTS (SQL-92, 8.10)
abbrev pub has_rows : List (List Value) → Bool
has_rows [] = false
has_rows (row ∷ rows) = true

-- DISTINCT keeps each row once (SQL-92, 7.9)
abbrev pub distinct_if : Bool → List (List Value) → List (List Value)
distinct_if distinct rows = if distinct then each_once rows else rows
