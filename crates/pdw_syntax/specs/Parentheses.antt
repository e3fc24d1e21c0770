-- What may stand in a pair of parentheses.
use Rattle.std.specs.Prelude.{List}
use Rattle.pdw_syntax.specs.Rule.{Rule}
use Rattle.pdw_syntax.specs.declared.expr.SqlExpr.{SqlExpr}
use Rattle.pdw_syntax.specs.declared.query.SqlCond.{SqlCond}
use Rattle.pdw_syntax.specs.declared.query.Query.{Query}
use Rattle.pdw_syntax.specs.declared.query.TableRef.{TableRef}

-- the texts of each kind that parentheses may hold
pub record Parentheses : Type 1 where
  pub star : Rule (Unit {0})
  pub expr : Rule SqlExpr
  pub exprs : Rule (List SqlExpr)
  pub cond : Rule SqlCond
  pub query : Rule Query
  pub tables : Rule TableRef

-- no parentheses
abbrev pub no_parentheses : Parentheses
no_parentheses = record { star = λ w a. ⊥; expr = λ w a. ⊥; exprs = λ w a. ⊥; cond = λ w a. ⊥; query = λ w a. ⊥; tables = λ w a. ⊥ }
