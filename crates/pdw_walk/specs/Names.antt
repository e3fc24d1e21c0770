-- What the parts of a query are by their words alone: names of output columns, bare columns, aggregates.
use Rattle.std.specs.Prelude.{ℕ, ◌||◌, Bool, true, false, List, [], ◌∷◌, ◌++◌, Option, Some, None, codes, decimal}
use Rattle.std.specs.List.{list_any}
use Rattle.pdw_syntax.specs.declared.expr.ColRef.{ColRef}
use Rattle.pdw_syntax.specs.declared.expr.SqlExpr.{SqlExpr}
use Rattle.pdw_syntax.specs.declared.expr.SqlExpr.TheOpen.{SqlExpr-F}
use Rattle.pdw_syntax.specs.declared.expr.SqlExpr.TheFolds.{fold-SqlExpr}
use Rattle.pdw_syntax.specs.declared.query.Item.{Item}
use Rattle.pdw_syntax.specs.declared.query.Item.TheVariants.{AliasStar, Made}
use Rattle.pdw_syntax.specs.declared.query.Items.{Items}
use Rattle.pdw_syntax.specs.declared.query.Items.TheVariants.{Star, List as Listed}

-- whether an aggregate stands in an expression
abbrev pub aggregates_step : SqlExpr-F Bool → Bool
aggregates_step (SqlExpr-F.Col ref) = false
aggregates_step (SqlExpr-F.Number n) = false
aggregates_step (SqlExpr-F.Text t) = false
aggregates_step (SqlExpr-F.Signed minus x) = x
aggregates_step (SqlExpr-F.Chain first rest) = first || list_any (λ link. link.1) rest
aggregates_step (SqlExpr-F.Agg kind x) = true
aggregates_step (SqlExpr-F.Paren x) = x

abbrev pub has_aggregate : SqlExpr → Bool
has_aggregate = fold-SqlExpr Bool aggregates_step

abbrev pub item_aggregates : Item → Bool
item_aggregates (AliasStar alias) = false
item_aggregates (Made x name) = has_aggregate x

abbrev pub items_aggregate : Items → Bool
items_aggregate Star = false
items_aggregate (Listed items) = list_any item_aggregates items

-- a query is grouped where it has GROUP BY, HAVING, or an aggregate in an item
abbrev pub is_grouped : List ColRef → Bool → Items → Bool
is_grouped [] having items = having || items_aggregate items
is_grouped (first ∷ rest) having items = true

-- the name of the column that an expression is by itself; parentheses do not count
abbrev pub column_name_step : SqlExpr-F (Option (List ℕ)) → Option (List ℕ)
column_name_step (SqlExpr-F.Col ref) = Some ref.column
column_name_step (SqlExpr-F.Number n) = None
column_name_step (SqlExpr-F.Text t) = None
column_name_step (SqlExpr-F.Signed minus x) = None
column_name_step (SqlExpr-F.Chain first rest) = None
column_name_step (SqlExpr-F.Agg kind x) = None
column_name_step (SqlExpr-F.Paren x) = x

abbrev pub column_name : SqlExpr → Option (List ℕ)
column_name = fold-SqlExpr (Option (List ℕ)) column_name_step

-- `col` and the position from 1
abbrev pub numbered_name : ℕ → List ℕ
numbered_name position = codes "col" ++ decimal position

abbrev pub bare_name : Option (List ℕ) → ℕ → List ℕ
bare_name None position = numbered_name position
bare_name (Some column) position = column

-- the written name, else a bare column's name, else one by the position
abbrev pub item_name : SqlExpr → Option (List ℕ) → ℕ → List ℕ
item_name x None position = bare_name (column_name x) position
item_name x (Some name) position = name
