-- Local aggregation over positional rows.
use Rattle.std.specs.List.{AllByRecursion, flat_map}
use Rattle.std.specs.Prelude.{◌≢◌, List, [], map}
use Rattle.pdw_agg.specs.Columns.{final_schema, grouped_schema, partial_schema}
use Rattle.pdw_base.specs.SameBag.{SameBag}
use Rattle.pdw_base.specs.Schema.{Columns, cell, row_over}
use Rattle.pdw_base.specs.declared.schema.ColId.{ColId}
use Rattle.pdw_base.specs.declared.value.Value.{Value}
use Rattle.pdw_expr.specs.Rows.{grouped}
use Rattle.pdw_expr.specs.declared.agg.Agg.{Agg}
use Rattle.pdw_partial.specs.Partial.{final_rows, partial_rows}

module _ (keys : List ColId) (aggs : List Agg) (columns : Columns) (rows : List (List Value)) where
  -- a row for each group of rows over some columns: its keys and the values of its aggregates (SQL-92, 7.7)
  abbrev pub grouped_over : List (List Value)
  grouped_over = map (row_over (grouped_schema keys aggs columns)) (grouped keys aggs (map (cell columns) rows))

  -- a row for each group: its keys and what the aggregates keep of these rows alone
  abbrev pub partial_over : List (List Value)
  partial_over = map (row_over (partial_schema keys aggs columns)) (partial_rows keys aggs (map (cell columns) rows))

  -- a row for each group of partial rows over some columns: its keys and the values of its aggregates
  abbrev pub final_over : List (List Value)
  final_over = map (row_over (final_schema keys aggs columns)) (final_rows keys aggs (map (cell columns) rows))

-- the partial rows of one or more bags that add up to the input, each in any order
pub record IsPartialOver (keys : List ColId) (aggs : List Agg) (columns : Columns) (input partials : List (List Value)) : Type 0 where
  -- each bag, and what `partial` makes of it
  pub pairs : List (List (List Value) × List (List Value))
  pub some : pairs ≢ []
  pub kept : AllByRecursion (λ pair. SameBag pair.1 (partial_over keys aggs columns pair.0)) pairs
  pub whole : SameBag (flat_map (λ pair. pair.0) pairs) input
  pub rows : SameBag partials (flat_map (λ pair. pair.1) pairs)
