-- Sound numbered forms: every column is made once and stands only where it is seen, with its kind, and the limits of a
-- statement are kept. What is judged has a sound form.
use Rattle.std.specs.Prelude.{◌≡◌, ◌≢◌, ℕ, ◌+◌, ◌≤◌, ◌&&◌, leb, length, Bool, true, not, List, [], ◌++◌, map, fold, Option, Some, None, is_some, AllPairs, if◌then◌else◌}
use Rattle.std.specs.List.{flat_map, list_all}
use Rattle.pdw_algebra.specs.Shape.{aggregate_column, all_apart, all_typed, are_apart, has_number, is_empty, item_column, item_kind, key_column, made_by, scan_shape}
use Rattle.pdw_algebra.specs.Types.{aggregate_kind, same_kinds, scalar_kind}
use Rattle.pdw_algebra.specs.declared.tree.TheConstants.{MOST_LEAVES}
use Rattle.pdw_syntax.specs.declared.query.JoinWord.{JoinWord}
use Rattle.pdw_syntax.specs.declared.query.JoinWord.TheVariants as word
use Rattle.pdw_base.specs.Schema.{Columns}
use Rattle.pdw_base.specs.declared.schema.ColId.{ColId}
use Rattle.pdw_base.specs.declared.value.Kind.{Kind}
use Rattle.pdw_form.specs.Columns.{each_item_once, each_number_once, first_of}
use Rattle.pdw_catalog.specs.Catalog.{Tables, table_named}
use Rattle.pdw_catalog.specs.declared.table.Table.{Table}
use Rattle.pdw_expr.specs.declared.cond.Cond.{Cond}
use Rattle.pdw_expr.specs.declared.scalar.Scalar.{Scalar}
use Rattle.pdw_form.specs.declared.judged.JFrom.TheOpen.{JFrom-F, JSub-F, JudgedQuery-F}
use Rattle.pdw_form.specs.declared.judged.JFrom.TheFolds.{fold-JFrom, fold-JSub, fold-JudgedQuery}
use Rattle.pdw_form.specs.declared.judged.JFrom.{JFrom}
use Rattle.pdw_form.specs.declared.judged.JGroup.{JGroup}
use Rattle.pdw_form.specs.declared.judged.JItem.{JItem}
use Rattle.pdw_form.specs.declared.judged.JSub.{JSub}
use Rattle.pdw_form.specs.declared.judged.JudgedQuery.{JudgedQuery}

-- every table has a column, as those of an appliance have
abbrev pub HaveColumns : Tables → Type 0
HaveColumns tables = (name : List ℕ) (table : Table) → table_named name tables ≡ Some table → 1 ≤ length table.columns

-- an element of FROM
pub record ElementShape : Type 0 where
  -- its columns, and the numbers that it makes
  pub columns : Columns
  pub made : List ColId
  -- how many leaves it adds to the block of its query
  pub leaves : ℕ
  pub sound : Bool

-- a subquery of WHERE, within the columns of the query's FROM
pub record SubqueryShape : Type 0 where
  pub made : List ColId
  pub sound_in : Columns → Bool

pub record QueryShape : Type 0 where
  -- the columns of FROM, and the numbers that FROM and WHERE make
  pub rows : Columns
  pub rows_made : List ColId
  -- the output columns, each once, and the numbers that the query makes
  pub columns : Columns
  pub columns_made : List ColId
  pub is_grouped : Bool
  -- the kind of the first output column, where there is one
  pub first_kind : Option Kind
  pub has_items : Bool
  -- whether a conjunct of WHERE has a column of the enclosing query
  pub reaches : Bool
  -- within the columns of the enclosing query's FROM
  pub sound_in : Columns → Bool

-- ---- FROM

-- so many leaves can stand in a block
abbrev pub fit_block : ℕ → Bool
fit_block leaves = leb 1 leaves && leb leaves MOST_LEAVES

-- both sides of a join and the conjuncts of its ON
abbrev pub sides_sound : ElementShape → ElementShape → List Cond → Bool
sides_sound left right on = (left.sound && right.sound) && (are_apart left.columns right.columns && all_typed (left.columns ++ right.columns) on)

-- CROSS and INNER join put the leaves of both sides into one block
abbrev pub block_join : ElementShape → ElementShape → List Cond → ElementShape
block_join left right on = record {
  columns = left.columns ++ right.columns;
  made = left.made ++ right.made;
  leaves = left.leaves + right.leaves;
  sound = sides_sound left right on;
}

-- the sides of an outer join are blocks of their own
abbrev pub outer_join : ElementShape → ElementShape → List Cond → ElementShape
outer_join left right on = record {
  columns = left.columns ++ right.columns;
  made = left.made ++ right.made;
  leaves = 1;
  sound = sides_sound left right on && (fit_block left.leaves && fit_block right.leaves);
}

-- RIGHT is LEFT with its sides exchanged
abbrev pub joined_shape : JoinWord → ElementShape → ElementShape → List Cond → ElementShape
joined_shape word.Cross left right on = block_join left right on
joined_shape word.Inner left right on = block_join left right on
joined_shape word.Left left right on = outer_join left right on
joined_shape word.Right left right on = outer_join right left on
joined_shape word.Full left right on = outer_join left right on

-- a query that stands by itself has no column of another one, and has output columns
abbrev pub stands_alone : QueryShape → Bool
stands_alone query = query.sound_in [] && (not query.reaches && query.has_items)

abbrev pub derived_shape : QueryShape → ElementShape
derived_shape query = record { columns = query.columns; made = query.columns_made; leaves = 1; sound = stands_alone query }

-- ---- subqueries

-- what a subquery's join has on its right
abbrev pub subquery_columns : QueryShape → Columns
subquery_columns query = if query.is_grouped then query.columns else query.rows

abbrev pub subquery_made : QueryShape → List ColId
subquery_made query = if query.is_grouped then query.columns_made else query.rows_made

-- the left side of IN has the kind of the subquery's first column
abbrev pub left_fits : Option Scalar → QueryShape → Columns → Bool
left_fits None query outer = true
left_fits (Some x) query outer = same_kinds (scalar_kind outer x) query.first_kind

-- a grouped subquery has no column of the enclosing query
abbrev pub subquery_sound : Option Scalar → QueryShape → Columns → Bool
subquery_sound left query outer =
    query.sound_in outer && (are_apart outer (subquery_columns query) && (left_fits left query outer && not (query.is_grouped && query.reaches)))

-- ---- groups and output columns

-- the columns that items and HAVING may use
abbrev pub group_columns : Option JGroup → Columns → Columns
group_columns None rows = rows
group_columns (Some group) rows = map (key_column rows) (each_number_once group.keys) ++ map (aggregate_column rows) group.aggs

abbrev pub group_made : Option JGroup → List ColId
group_made None = []
group_made (Some group) = map (λ agg. agg.out) group.aggs

abbrev pub group_sound : Option JGroup → Columns → Bool
group_sound None rows = true
group_sound (Some group) rows =
    list_all (λ key. has_number key rows) group.keys
    && (list_all (λ agg. is_some (aggregate_kind rows agg)) group.aggs && all_typed (group_columns (Some group) rows) group.having)

abbrev pub judged_kind : Columns → JItem → Option Kind
judged_kind columns item = item_kind columns (item.out, item.make)

abbrev pub kind_of_first : Columns → Option JItem → Option Kind
kind_of_first columns None = None
kind_of_first columns (Some item) = judged_kind columns item

abbrev pub output_columns : List JItem → Columns → Columns
output_columns items columns = map (item_column columns) (each_item_once items)

abbrev pub items_made : List JItem → List ColId
items_made items = flat_map made_by (each_item_once items)

-- ---- FROM and WHERE together

abbrev pub from_columns : List ElementShape → Columns
from_columns elements = flat_map (λ element. element.columns) elements

abbrev pub from_leaves : List ElementShape → ℕ
from_leaves elements = fold (λ leaves element. leaves + element.leaves) 0 elements

-- FROM by itself
abbrev pub from_sound : List ElementShape → Bool
from_sound elements =
    list_all (λ element. element.sound) elements
    && (fit_block (from_leaves elements) && all_apart (map (λ element. element.columns) elements))

-- WHERE, within the columns of the enclosing query's FROM
abbrev pub where_sound : JudgedQuery-F ElementShape SubqueryShape QueryShape → Columns → Columns → Bool
where_sound q rows outer =
    all_typed rows q.plain && (all_typed (outer ++ rows) q.outer && list_all (λ sub. sub.sound_in rows) q.subs)

-- the numbers that FROM makes, and then those of the subqueries
abbrev pub made_by_rows : JudgedQuery-F ElementShape SubqueryShape QueryShape → List ColId
made_by_rows q = fold (λ made sub. made ++ sub.made) (flat_map (λ element. element.made) q.from) q.subs

abbrev pub subquery_step : JSub-F ElementShape SubqueryShape QueryShape → SubqueryShape
subquery_step sub = record { made = subquery_made sub.query; sound_in = subquery_sound sub.left sub.query }

abbrev pub query_step : JudgedQuery-F ElementShape SubqueryShape QueryShape → QueryShape
query_step q =
    let rows = from_columns q.from in
    let columns = group_columns q.group rows in
    record {
      rows = rows;
      rows_made = made_by_rows q;
      columns = output_columns q.items columns;
      columns_made = (made_by_rows q ++ group_made q.group) ++ items_made q.items;
      is_grouped = is_some q.group;
      first_kind = kind_of_first columns (first_of q.items);
      has_items = is_some (first_of q.items);
      reaches = not (is_empty q.outer);
      sound_in = λ outer. from_sound q.from && (where_sound q rows outer && (group_sound q.group rows && list_all (λ item. is_some (judged_kind columns item)) q.items));
    }

-- ---- any of these

module _ (tables : Tables) where
  abbrev pub element_step : JFrom-F ElementShape SubqueryShape QueryShape → ElementShape
  element_step (JFrom-F.Table table alias cols) =
      let scan = scan_shape (table_named table tables) cols in
      record { columns = scan.columns; made = scan.made; leaves = 1; sound = scan.sound }
  element_step (JFrom-F.Derived query) = derived_shape query
  element_step (JFrom-F.Join word left right on) = joined_shape word left right on

  abbrev pub element_shape : JFrom → ElementShape
  element_shape = fold-JFrom ElementShape SubqueryShape QueryShape element_step subquery_step query_step

  abbrev pub subquery_shape : JSub → SubqueryShape
  subquery_shape = fold-JSub ElementShape SubqueryShape QueryShape element_step subquery_step query_step

  abbrev pub query_shape : JudgedQuery → QueryShape
  query_shape = fold-JudgedQuery ElementShape SubqueryShape QueryShape element_step subquery_step query_step

-- the numbered form of a statement's query: each part is sound, and no number is made at two places
pub record IsSound (tables : Tables) (q : JudgedQuery) : Type 0 where
  pub parts : stands_alone (query_shape tables q) ≡ true
  pub made : AllPairs (λ a b. a.0 ≢ b.0) (query_shape tables q).columns_made
