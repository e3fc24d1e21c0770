-- The columns that a local tree gives, and which local trees are well-typed.
use Rattle.std.specs.List.{list_all, list_any}
use Rattle.std.specs.Prelude.{◌≡◌, ◌==◌, ◌&&◌, ℕ, zero, suc, Bool, true, not, List, [], map, slice_index_or, Option, is_some}
use Rattle.pdw_agg.specs.Columns.{final_schema, grouped_schema, partial_schema}
use Rattle.pdw_agg.specs.Fitting.{is_plain, keeps_plain}
use Rattle.pdw_algebra.specs.Schema.{kind_at, rising}
use Rattle.pdw_algebra.specs.Shape.{are_apart, columns_in, item_column, item_kind, scan_column}
use Rattle.pdw_algebra.specs.Types.{aggregate_kind}
use Rattle.pdw_algebra.specs.declared.local.LocalTree.TheFolds.{fold-LocalTree}
use Rattle.pdw_algebra.specs.declared.local.LocalTree.TheOpen.{LocalTree-F}
use Rattle.pdw_algebra.specs.declared.local.LocalTree.{LocalTree}
use Rattle.pdw_base.specs.Schema.{Columns}
use Rattle.pdw_base.specs.declared.schema.ColId.{ColId}
use Rattle.pdw_catalog.specs.Catalog.{Tables, table_named}
use Rattle.pdw_expr.specs.declared.agg.Agg.{Agg}
use Rattle.pdw_expr.specs.declared.scalar.Scalar.{Scalar}
use Rattle.pdw_join.specs.Joined.{joined_columns}

pub record LocalShape : Type 0 where
  -- the columns with their kinds, by rising numbers
  pub columns : Columns
  -- whether each node has the kinds that it asks of its columns
  pub typed : Bool

-- the schema of a temporary table; these are numbered from 1
abbrev pub temporary_schema : List Columns → ℕ → Columns
temporary_schema schemas zero = []
temporary_schema schemas (suc before) = slice_index_or schemas before []

-- the columns that are read of a table
abbrev pub base_columns : Tables → List ℕ → List (ColId × ℕ) → Columns
base_columns tables table cols = rising (map (scan_column (columns_in (table_named table tables))) cols)

-- ---- what an operator asks of its child's columns

-- each item has a kind: its column is there, or its expression is well-typed
abbrev pub have_kinds : Columns → List (ColId × Option Scalar) → Bool
have_kinds columns items = list_all (λ item. is_some (item_kind columns item)) items

module _ (keys : List ColId) (aggs : List Agg) (columns : Columns) where
  -- no aggregate makes a column that is a key
  abbrev pub keys_apart : Bool
  keys_apart = list_all (λ agg. not (list_any (λ key. key.0 == agg.out.0) keys)) aggs

  -- and each aggregate has a kind that a column of a table may have
  abbrev pub can_group : Bool
  can_group = keys_apart && list_all (λ agg. is_plain (aggregate_kind columns agg)) aggs

  -- of partial rows any kind will do
  abbrev pub can_keep : Bool
  can_keep = keys_apart && list_all (λ agg. is_some (aggregate_kind columns agg)) aggs

  -- what MIN and MAX kept is of a kind that a column of a table may have; it stands in the aggregate's own column
  abbrev pub can_finish : Bool
  can_finish = keys_apart && list_all (λ agg. keeps_plain agg.kind (kind_at columns agg.out)) aggs

-- ---- any tree

module _ (tables : Tables) (schemas : List Columns) where
  -- one layer of a local tree, with the shapes of its children: the sides of a join have no column in common
  abbrev pub local_shape_step : LocalTree-F LocalShape → LocalShape
  local_shape_step (LocalTree-F.Base table cols) = record { columns = base_columns tables table cols; typed = true }
  local_shape_step (LocalTree-F.Temp id) = record { columns = temporary_schema schemas id; typed = true }
  local_shape_step (LocalTree-F.Filter conds child) = child
  local_shape_step (LocalTree-F.Project items child) = record {
    columns = rising (map (item_column child.columns) items);
    typed = child.typed && have_kinds child.columns items;
  }
  local_shape_step (LocalTree-F.Join kind conds left right) = record {
    columns = joined_columns kind left.columns right.columns;
    typed = left.typed && (right.typed && are_apart left.columns right.columns);
  }
  local_shape_step (LocalTree-F.GroupBy keys aggs child) = record {
    columns = grouped_schema keys aggs child.columns;
    typed = child.typed && can_group keys aggs child.columns;
  }
  local_shape_step (LocalTree-F.Partial keys aggs child) = record {
    columns = partial_schema keys aggs child.columns;
    typed = child.typed && can_keep keys aggs child.columns;
  }
  local_shape_step (LocalTree-F.Final keys aggs child) = record {
    columns = final_schema keys aggs child.columns;
    typed = child.typed && can_finish keys aggs child.columns;
  }

  abbrev pub local_shape : LocalTree → LocalShape
  local_shape = fold-LocalTree LocalShape local_shape_step

  -- the schema of what a local tree gives
  abbrev pub local_schema : LocalTree → Columns
  local_schema tree = (local_shape tree).columns

  -- as much of the rules of types as the kinds of its rows rest on. Conditions may be of any form, since a row that is kept
  -- stays as it is, and what is read of a table or of a temporary table has a kind whatever is asked
  abbrev pub IsTypedLocal : LocalTree → Type 0
  IsTypedLocal tree = (local_shape tree).typed ≡ true
