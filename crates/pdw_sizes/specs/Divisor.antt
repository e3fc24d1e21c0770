-- How a condition lessens rows, by how many different values its columns have.
use Rattle.std.specs.Prelude.{ℕ, Bool, List, [], max, Option, Some, None, if◌then◌else◌}
use Rattle.std.specs.List.{list_all}
use Rattle.pdw_algebra.specs.Shape.{has_number}
use Rattle.pdw_base.specs.declared.schema.ColId.{ColId}
use Rattle.pdw_expr.specs.Columns.{scalar_columns}
use Rattle.pdw_expr.specs.declared.cond.Cmp.{Cmp}
use Rattle.pdw_expr.specs.declared.cond.Cmp.TheVariants as compares
use Rattle.pdw_expr.specs.declared.cond.Cond.{Cond}
use Rattle.pdw_expr.specs.declared.cond.Cond.TheOpen.{Cond-F}
use Rattle.pdw_expr.specs.declared.cond.Cond.TheFolds.{fold-Cond}
use Rattle.pdw_expr.specs.declared.scalar.Scalar.{Scalar}
use Rattle.pdw_groups.specs.Columns.{column_alone}
use Rattle.pdw_sizes.specs.declared.divisors.Side.{Side}
use Rattle.pdw_sizes.specs.declared.divisors.Side.TheVariants as side

-- one side of a comparison: the column that it is, or an expression without columns, or any other
abbrev pub side_if : Bool → Side
side_if constant = if constant then side.Constant else side.Other

abbrev pub side_by : Option ColId → List ColId → Side
side_by (Some c) columns = side.Column c
side_by None columns = side_if (list_all (λ c. has_number c []) columns)

abbrev pub side_of : Scalar → Side
side_of expression = side_by (column_alone expression) (scalar_columns expression)

module _ (distinct : ColId → ℕ) where
  -- an equality of two columns, or of a column and an expression without columns, in either writing
  abbrev pub equality_divisor : Side → Side → ℕ
  equality_divisor (side.Column a) (side.Column b) = max (distinct a) (distinct b)
  equality_divisor (side.Column a) side.Constant = distinct a
  equality_divisor side.Constant (side.Column b) = distinct b
  equality_divisor _ _ = 2

  abbrev pub compare_divisor : Cmp → Side → Side → ℕ
  compare_divisor compares.Eq left right = equality_divisor left right
  compare_divisor compares.Ne left right = 2
  compare_divisor compares.Lt left right = 3
  compare_divisor compares.Le left right = 3
  compare_divisor compares.Gt left right = 3
  compare_divisor compares.Ge left right = 3

  abbrev pub divisor_step : Cond-F ℕ → ℕ
  divisor_step (Cond-F.Compare compare left right) = compare_divisor compare (side_of left) (side_of right)
  divisor_step _ = 2

  -- by what a conjunct divides the rows
  abbrev pub divisor : Cond → ℕ
  divisor = fold-Cond ℕ divisor_step
