-- The rows that a grouping makes of positional rows, at any stage. Kinds play no part in rows.
use Rattle.std.specs.Prelude.{◌++◌, List, map}
use Rattle.pdw_agg.specs.Stage.{made_row}
use Rattle.pdw_agg.specs.declared.stage.Stage.{Stage}
use Rattle.pdw_base.specs.Schema.{Columns, cell, row_over}
use Rattle.pdw_base.specs.declared.schema.ColId.{ColId}
use Rattle.pdw_base.specs.declared.value.Kind.{Kind}
use Rattle.pdw_base.specs.declared.value.Kind.TheVariants as kind
use Rattle.pdw_base.specs.declared.value.Value.{Value}
use Rattle.pdw_expr.specs.Parts.{groups}
use Rattle.pdw_expr.specs.Rows.{key_of}
use Rattle.pdw_expr.specs.declared.agg.Agg.{Agg}

abbrev pub numbered : ColId → (ColId × Kind)
numbered number = (number, kind.Int)

-- the keys, and a column for each aggregate
abbrev pub made_columns : List ColId → List Agg → Columns
made_columns keys aggs = map numbered keys ++ map (λ agg. numbered agg.out) aggs

-- the row of a group of rows over some columns
abbrev pub row_of : Columns → Stage → List ColId → List Agg → Columns → List (List Value) → List Value
row_of made stage keys aggs columns group = row_over made (made_row stage keys aggs (map (cell columns) group))

abbrev pub key_over : List ColId → Columns → List Value → List Value
key_over keys columns row = key_of keys (cell columns row)

-- the rows of all groups
abbrev pub rows_of : Columns → Stage → List ColId → List Agg → Columns → List (List Value) → List (List Value)
rows_of made stage keys aggs columns rows = map (row_of made stage keys aggs columns) (groups keys (key_over keys columns) rows)
