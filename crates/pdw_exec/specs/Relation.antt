-- Rows with their columns, as the environments that they stand for.
use Rattle.std.specs.Prelude.{◌≡◌, All, Bool, List, map}
use Rattle.pdw_base.specs.SameBag.{SameBag}
use Rattle.pdw_base.specs.Schema.{Columns, Env, FitsColumns, cell}
use Rattle.pdw_base.specs.declared.value.Value.{Value}
use Rattle.pdw_exec.specs.declared.relation.Held.TheVariants.{Lent, Made}
use Rattle.pdw_exec.specs.declared.relation.Held.{Held}
use Rattle.pdw_exec.specs.declared.relation.Relation.{Relation}
use Rattle.pdw_expr.specs.Rows.{meets}
use Rattle.pdw_expr.specs.declared.cond.Cond.{Cond}

abbrev pub rows_in : Held → List (List Value)
rows_in (Lent bag) = bag.now
rows_in (Made bag) = bag

-- all conditions are True of a row of these columns
abbrev pub meets_over : Columns → List Cond → List Value → Bool
meets_over columns conds row = meets conds (cell columns row)

-- what the rows stand for
abbrev pub environments : Relation → List Env
environments relation = map (cell relation.columns) (rows_in relation.rows)

-- each row has one value for each column, each NULL or of the column's kind
abbrev pub Fits : Relation → Type 0
Fits relation = All (FitsColumns relation.columns) (rows_in relation.rows)

-- a relation has these columns, its rows stand for these in any order, and they fit under a condition
pub record Gives (schema : Columns) (envs : List Env) (condition : Type 0) (relation : Relation) : Type 0 where
  pub columns : relation.columns ≡ schema
  pub rows : SameBag (environments relation) envs
  pub fits : condition → Fits relation
