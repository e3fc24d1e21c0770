-- The columns that an expression and a condition use.
use Rattle.std.specs.Prelude.{List, [], ◌∷◌, ◌++◌}
use Rattle.std.specs.List.{flat_map}
use Rattle.pdw_base.specs.declared.schema.ColId.{ColId}
use Rattle.pdw_expr.specs.declared.cond.Cond.{Cond}
use Rattle.pdw_expr.specs.declared.cond.Cond.TheOpen.{Cond-F}
use Rattle.pdw_expr.specs.declared.cond.Cond.TheFolds.{fold-Cond}
use Rattle.pdw_expr.specs.declared.scalar.Scalar.{Scalar}
use Rattle.pdw_expr.specs.declared.scalar.Scalar.TheOpen.{Scalar-F}
use Rattle.pdw_expr.specs.declared.scalar.Scalar.TheFolds.{fold-Scalar}

-- one layer of an expression, with the columns of its operands
abbrev pub scalar_columns_step : Scalar-F (List ColId) → List ColId
scalar_columns_step (Scalar-F.Col c) = c ∷ []
scalar_columns_step (Scalar-F.Lit value) = []
scalar_columns_step (Scalar-F.Neg operand) = operand
scalar_columns_step (Scalar-F.Chain first rest) = first ++ flat_map (λ link. link.1) rest

-- the columns of an expression
abbrev pub scalar_columns : Scalar → List ColId
scalar_columns = fold-Scalar (List ColId) scalar_columns_step

-- one layer of a condition, with the columns of its parts
abbrev pub cond_columns_step : Cond-F (List ColId) → List ColId
cond_columns_step (Cond-F.Compare op a b) = scalar_columns a ++ scalar_columns b
cond_columns_step (Cond-F.Like text pattern) = scalar_columns text ++ scalar_columns pattern
cond_columns_step (Cond-F.IsNull a) = scalar_columns a
cond_columns_step (Cond-F.Test part wanted) = part
cond_columns_step (Cond-F.Not part) = part
cond_columns_step (Cond-F.All parts) = flat_map (λ part. part) parts
cond_columns_step (Cond-F.Any parts) = flat_map (λ part. part) parts

-- the columns of a condition
abbrev pub cond_columns : Cond → List ColId
cond_columns = fold-Cond (List ColId) cond_columns_step
