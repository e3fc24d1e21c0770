-- What the grammar gives of every statement: texts that are not too long, aggregates that have the argument that they take,
-- at least one element of FROM and one item, and a table with a column and with columns of INT and TEXT alone.
use Rattle.std.specs.Prelude.{◌&&◌, leb, Bool, true, false, not, List, [], ◌∷◌, length, Option, Some, None}
use Rattle.std.specs.List.{list_all}
use Rattle.pdw_syntax.specs.declared.expr.SqlExpr.{SqlExpr}
use Rattle.pdw_syntax.specs.declared.expr.SqlExpr.TheOpen.{SqlExpr-F}
use Rattle.pdw_syntax.specs.declared.expr.SqlExpr.TheFolds.{fold-SqlExpr}
use Rattle.pdw_syntax.specs.declared.query.Item.{Item}
use Rattle.pdw_syntax.specs.declared.query.Item.TheVariants as item
use Rattle.pdw_syntax.specs.declared.query.Items.{Items}
use Rattle.pdw_syntax.specs.declared.query.Items.TheVariants.{Star, List as Listed}
use Rattle.pdw_syntax.specs.declared.query.Primary.TheFolds.{fold-Query}
use Rattle.pdw_syntax.specs.declared.query.Primary.TheOpen.{Primary-F, SqlCond-F, JoinPart-F, Query-F, TableRef-F}
use Rattle.pdw_syntax.specs.declared.query.Query.{Query}
use Rattle.pdw_syntax.specs.declared.statement.Statement.{Statement}
use Rattle.pdw_syntax.specs.declared.statement.Statement.TheVariants as statement
use Rattle.pdw_base.specs.declared.value.Kind.{Kind}
use Rattle.pdw_base.specs.declared.value.Kind.TheVariants as kind
use Rattle.pdw_catalog.specs.declared.table.Column.{Column}
use Rattle.pdw_catalog.specs.declared.table.TheConstants.{MOST_TEXT_BYTES}
use Rattle.pdw_expr.specs.declared.agg.AggKind.{AggKind}
use Rattle.pdw_expr.specs.declared.agg.AggKind.TheVariants.{CountStar}

-- ---- expressions

-- exactly COUNT of `*` has no argument
abbrev pub counts_rows : AggKind → Bool
counts_rows CountStar = true
counts_rows _ = false

abbrev pub argument_written : AggKind → Option Bool → Bool
argument_written aggregate None = counts_rows aggregate
argument_written aggregate (Some written) = not (counts_rows aggregate) && written

abbrev pub expr_written_step : SqlExpr-F Bool → Bool
expr_written_step (SqlExpr-F.Col ref) = true
expr_written_step (SqlExpr-F.Number n) = true
expr_written_step (SqlExpr-F.Text t) = leb (length t) MOST_TEXT_BYTES
expr_written_step (SqlExpr-F.Signed minus x) = x
expr_written_step (SqlExpr-F.Chain first rest) = first && list_all (λ link. link.1) rest
expr_written_step (SqlExpr-F.Agg aggregate x) = argument_written aggregate x
expr_written_step (SqlExpr-F.Paren x) = x

abbrev pub expr_written : SqlExpr → Bool
expr_written = fold-SqlExpr Bool expr_written_step

-- ---- items

abbrev pub item_written : Item → Bool
item_written (item.AliasStar alias) = true
item_written (item.Made x name) = expr_written x

abbrev pub some_items : List Item → Bool
some_items [] = false
some_items (first ∷ rest) = true

abbrev pub items_written : Items → Bool
items_written Star = true
items_written (Listed items) = some_items items && list_all item_written items

-- ---- conditions, elements of FROM and queries

abbrev pub if_any : Option Bool → Bool
if_any None = true
if_any (Some written) = written

abbrev pub cond_written_step : SqlCond-F Bool Bool Bool Bool Bool → Bool
cond_written_step (SqlCond-F.Compare op x y) = expr_written x && expr_written y
cond_written_step (SqlCond-F.Like negated x y) = expr_written x && expr_written y
cond_written_step (SqlCond-F.IsNull negated x) = expr_written x
cond_written_step (SqlCond-F.Between negated x low high) = expr_written x && (expr_written low && expr_written high)
cond_written_step (SqlCond-F.InList negated x list) = expr_written x && list_all expr_written list
cond_written_step (SqlCond-F.InQuery negated x query) = expr_written x && query
cond_written_step (SqlCond-F.Exists query) = query
cond_written_step (SqlCond-F.Test negated part truth) = part
cond_written_step (SqlCond-F.Not part) = part
cond_written_step (SqlCond-F.All parts) = list_all (λ part. part) parts
cond_written_step (SqlCond-F.Any parts) = list_all (λ part. part) parts
cond_written_step (SqlCond-F.«SqlCond::Paren» part) = part

abbrev pub primary_written_step : Primary-F Bool Bool Bool Bool Bool → Bool
primary_written_step (Primary-F.Named table alias) = true
primary_written_step (Primary-F.Derived query alias) = query
primary_written_step (Primary-F.«Primary::Paren» element) = element

abbrev pub join_written_step : JoinPart-F Bool Bool Bool Bool Bool → Bool
join_written_step join = join.right && if_any join.on

abbrev pub table_written_step : TableRef-F Bool Bool Bool Bool Bool → Bool
table_written_step table = table.first && list_all (λ join. join) table.joins

abbrev pub some_elements : List Bool → Bool
some_elements [] = false
some_elements (first ∷ rest) = true

abbrev pub query_written_step : Query-F Bool Bool Bool Bool Bool → Bool
query_written_step q =
    items_written q.items && (some_elements q.from && (list_all (λ element. element) q.from && (if_any q.filter && if_any q.having)))

abbrev pub query_written : Query → Bool
query_written = fold-Query Bool Bool Bool Bool Bool primary_written_step cond_written_step join_written_step query_written_step table_written_step

-- ---- statements

abbrev pub some_columns : List Column → Bool
some_columns [] = false
some_columns (first ∷ rest) = true

-- INT and TEXT are the types of columns
abbrev pub is_type : Kind → Bool
is_type kind.Int = true
is_type kind.Text = true
is_type kind.Wide = false

abbrev pub column_written : Column → Bool
column_written column = is_type column.kind

-- what the grammar gives of every statement
abbrev pub statement_written : Statement → Bool
statement_written (statement.CreateNamed table columns hash) = some_columns columns && list_all column_written columns
statement_written (statement.Select s) = query_written s.query
statement_written (statement.Explain s) = query_written s.query
statement_written (statement.ExplainJson s) = query_written s.query
statement_written (statement.Profile s) = query_written s.query
statement_written (statement.CheckPlan file s) = query_written s.query
statement_written _ = true
