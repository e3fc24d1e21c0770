-- What a query means (SQL-92, 7.9): a list of rows that stands for a bag.
use Rattle.std.specs.Prelude.{ℕ, ◌+◌, Bool, List, [], ◌∷◌, ◌++◌, length, map, fold, is_some, if◌then◌else◌}
use Rattle.std.specs.List.{filter, flat_map}
use Rattle.std.specs.Str.{bytes_eq}
use Rattle.pdw_syntax.specs.declared.expr.ColRef.{ColRef}
use Rattle.pdw_syntax.specs.declared.query.Item.{Item}
use Rattle.pdw_syntax.specs.declared.query.Item.TheVariants.{AliasStar, Made}
use Rattle.pdw_syntax.specs.declared.query.Items.{Items}
use Rattle.pdw_syntax.specs.declared.query.Items.TheVariants.{Star, List as Listed}
use Rattle.pdw_syntax.specs.declared.query.Primary.TheOpen.{Query-F}
use Rattle.pdw_syntax.specs.declared.query.JoinPart.{JoinPart}
use Rattle.pdw_syntax.specs.declared.query.Primary.{Primary}
use Rattle.pdw_syntax.specs.declared.query.Primary.TheFolds.{fold-JoinPart, fold-Primary, fold-Query, fold-SqlCond, fold-TableRef}
use Rattle.pdw_syntax.specs.declared.query.Query.{Query}
use Rattle.pdw_syntax.specs.declared.query.SqlCond.{SqlCond}
use Rattle.pdw_syntax.specs.declared.query.TableRef.{TableRef}
use Rattle.pdw_base.specs.declared.truth.Truth.{Truth}
use Rattle.pdw_base.specs.declared.value.Value.{Value}
use Rattle.pdw_catalog.specs.Database.{Database}
use Rattle.pdw_expr.specs.Join.{crossed}
use Rattle.pdw_expr.specs.Parts.{groups}
use Rattle.pdw_expr.specs.Predicates.{distinct_if}
use Rattle.pdw_semantics.specs.Conds.{QueryMeaning, passes, truth_step}
use Rattle.pdw_semantics.specs.Environment.{Environment, Group, Scope, alone, first_row, looked_up}
use Rattle.pdw_semantics.specs.Exprs.{value_of}
use Rattle.pdw_semantics.specs.Froms.{ElementMeaning, JoinMeaning, beside, join_step, primary_step, table_ref_step}
use Rattle.pdw_semantics.specs.declared.labels.Label.{Label}
use Rattle.pdw_walk.specs.Names.{is_grouped, item_name}

-- the parts of a query's text, with the meanings of those that lead back to queries
abbrev pub Text : Type 0
Text = Query-F ElementMeaning (Group → Truth) JoinMeaning QueryMeaning ElementMeaning

-- ---- FROM and WHERE

-- elements side by side: one scope of each
abbrev pub side_by_side : List ElementMeaning → Environment → List Scope
side_by_side elements outers = fold (λ scopes element. crossed beside scopes (element.scopes outers)) ([] ∷ []) elements

abbrev pub all_labels : List ElementMeaning → List Label
all_labels elements = flat_map (λ element. element.labels) elements

-- ---- GROUP BY and HAVING

abbrev pub key_of : List ColRef → Environment → Scope → List Value
key_of refs outers row = map (λ ref. looked_up ref (row ∷ outers)) refs

abbrev pub is_grouped_text : Text → Bool
is_grouped_text q = is_grouped q.group (is_some q.having) q.items

-- a query that is not grouped gives a row for each row of FROM, a grouped one for each group
abbrev pub all_groups : Bool → List ColRef → Environment → List Scope → List Group
all_groups grouped refs outers rows =
    if grouped then map (λ part. record { rows = part; outers = outers }) (groups refs (key_of refs outers) rows)
    else map (alone outers) rows

-- ---- items

abbrev pub item_values : Group → Item → List Value
item_values group (AliasStar alias) = map (λ cell. cell.value) (filter (λ cell. bytes_eq alias cell.alias) (first_row group.rows))
item_values group (Made x name) = value_of x group ∷ []

abbrev pub values_of : Items → Group → List Value
values_of Star group = map (λ cell. cell.value) (first_row group.rows)
values_of (Listed items) group = flat_map (item_values group) items

-- the names of an item's columns, after so many others
abbrev pub item_names : List Label → ℕ → Item → List (List ℕ)
item_names labels before (AliasStar alias) = map (λ label. label.column) (filter (λ label. bytes_eq alias label.alias) labels)
item_names labels before (Made x name) = item_name x name (before + 1) ∷ []

abbrev pub names_of_list : List Label → List Item → List (List ℕ)
names_of_list labels = fold (λ names item. names ++ item_names labels (length names) item) []

abbrev pub names_of : List Label → Items → List (List ℕ)
names_of labels Star = map (λ label. label.column) labels
names_of labels (Listed items) = names_of_list labels items

-- ---- a query

abbrev pub query_rows : Text → Environment → List (List Value)
query_rows q outers =
    let rows = filter (λ row. passes q.filter (alone outers row)) (side_by_side q.from outers) in
    let kept = filter (passes q.having) (all_groups (is_grouped_text q) q.group outers rows) in
    distinct_if q.distinct (map (values_of q.items) kept)

abbrev pub query_step : Text → QueryMeaning
query_step q = record { names = names_of (all_labels q.from) q.items; rows = query_rows q }

module _ (database : Database) where
  abbrev pub primary : Primary → ElementMeaning
  primary = fold-Primary ElementMeaning (Group → Truth) JoinMeaning QueryMeaning ElementMeaning (primary_step database) truth_step (join_step database) query_step (table_ref_step database)

  abbrev pub condition : SqlCond → Group → Truth
  condition = fold-SqlCond ElementMeaning (Group → Truth) JoinMeaning QueryMeaning ElementMeaning (primary_step database) truth_step (join_step database) query_step (table_ref_step database)

  abbrev pub join : JoinPart → JoinMeaning
  join = fold-JoinPart ElementMeaning (Group → Truth) JoinMeaning QueryMeaning ElementMeaning (primary_step database) truth_step (join_step database) query_step (table_ref_step database)

  abbrev pub query : Query → QueryMeaning
  query = fold-Query ElementMeaning (Group → Truth) JoinMeaning QueryMeaning ElementMeaning (primary_step database) truth_step (join_step database) query_step (table_ref_step database)

  abbrev pub table_ref : TableRef → ElementMeaning
  table_ref = fold-TableRef ElementMeaning (Group → Truth) JoinMeaning QueryMeaning ElementMeaning (primary_step database) truth_step (join_step database) query_step (table_ref_step database)
