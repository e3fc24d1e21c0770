-- The truth of a search condition (SQL-92, 8.2 to 8.12) over a row or a group.
use Rattle.std.specs.Prelude.{ℕ, Bool, true, List, map, Option, Some, None}
use Rattle.pdw_syntax.specs.declared.query.Primary.TheOpen.{SqlCond-F}
use Rattle.pdw_base.specs.declared.truth.Truth.{Truth}
use Rattle.pdw_base.specs.declared.truth.Truth.TheVariants.{True}
use Rattle.pdw_base.specs.declared.value.Value.{Value}
use Rattle.pdw_expr.specs.Comparison.{comparison, is_null}
use Rattle.pdw_expr.specs.Like.{like}
use Rattle.pdw_expr.specs.Logic.{all_of, any_of, decided, is_truth, negation}
use Rattle.pdw_expr.specs.Predicates.{between, first_column, has_rows, is_one_of, negated_if}
use Rattle.pdw_semantics.specs.Environment.{Environment, Group, environment}
use Rattle.pdw_semantics.specs.Exprs.{value_of}

-- what a query means: the names of its output columns, and its rows by the environment that encloses it
pub record QueryMeaning : Type 0 where
  pub names : List (List ℕ)
  pub rows : Environment → List (List Value)

-- one layer of a condition, with the truths of its parts and what its subqueries mean; the carriers are those of a
-- source of FROM, a condition, a join, a query and a joined table
abbrev pub truth_step : {Source Join Table : Type 0} → SqlCond-F Source (Group → Truth) Join QueryMeaning Table → Group → Truth
truth_step (SqlCond-F.Compare op x y) group = comparison op (value_of x group) (value_of y group)
truth_step (SqlCond-F.Like negated x y) group = negated_if negated (like (value_of x group) (value_of y group))
truth_step (SqlCond-F.IsNull negated x) group = negated_if negated (decided (is_null (value_of x group)))
truth_step (SqlCond-F.Between negated x low high) group = negated_if negated (between (value_of x group) (value_of low group) (value_of high group))
truth_step (SqlCond-F.InList negated x list) group = negated_if negated (is_one_of (value_of x group) (map (λ y. value_of y group) list))
truth_step (SqlCond-F.InQuery negated x query) group = negated_if negated (is_one_of (value_of x group) (map first_column (query.rows (environment group))))
truth_step (SqlCond-F.Exists query) group = decided (has_rows (query.rows (environment group)))
truth_step (SqlCond-F.Test negated part truth) group = negated_if negated (decided (is_truth (part group) truth))
truth_step (SqlCond-F.Not part) group = negation (part group)
truth_step (SqlCond-F.All parts) group = all_of (map (λ part. part group) parts)
truth_step (SqlCond-F.Any parts) group = any_of (map (λ part. part group) parts)
truth_step (SqlCond-F.«SqlCond::Paren» part) group = part group

-- WHERE, ON and HAVING keep what makes the condition True, and all where none is written
abbrev pub passes : Option (Group → Truth) → Group → Bool
passes None group = true
passes (Some condition) group = is_truth (condition group) True
