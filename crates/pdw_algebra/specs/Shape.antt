-- The columns that a tree gives and those that it makes, and whether each of its nodes is well-formed.
use Rattle.std.specs.Prelude.{ℕ, ◌==◌, ◌&&◌, leb, Bool, true, false, not, List, [], ◌∷◌, ◌++◌, length, map, Option, Some, None, is_some}
use Rattle.std.specs.List.{flat_map, list_all, list_any, slice_get}
use Rattle.std.specs.Option.{option_map}
use Rattle.pdw_algebra.specs.Schema.{kind_at}
use Rattle.pdw_algebra.specs.Types.{aggregate_kind, is_typed, item_kind_by}
use Rattle.pdw_algebra.specs.declared.tree.Tree.{Tree}
use Rattle.pdw_algebra.specs.declared.tree.Tree.TheOpen.{Tree-F}
use Rattle.pdw_algebra.specs.declared.tree.Tree.TheFolds.{fold-Tree}
use Rattle.pdw_algebra.specs.declared.tree.TheConstants.{MOST_LEAVES}
use Rattle.pdw_base.specs.Schema.{Columns}
use Rattle.pdw_base.specs.declared.schema.ColId.{ColId}
use Rattle.pdw_base.specs.declared.value.Kind.{Kind}
use Rattle.pdw_base.specs.declared.value.Kind.TheVariants as kind
use Rattle.pdw_catalog.specs.Catalog.{Tables, table_named}
use Rattle.pdw_catalog.specs.declared.table.Column.{Column}
use Rattle.pdw_catalog.specs.declared.table.Table.{Table}
use Rattle.pdw_expr.specs.declared.agg.Agg.{Agg}
use Rattle.pdw_expr.specs.declared.agg.JoinKind.{JoinKind}
use Rattle.pdw_expr.specs.declared.agg.JoinKind.TheVariants as join
use Rattle.pdw_expr.specs.declared.cond.Cond.{Cond}
use Rattle.pdw_expr.specs.declared.scalar.Scalar.{Scalar}

pub record Shape : Type 0 where
  -- the columns that it gives, in any order; one may stand twice
  pub columns : Columns
  -- the numbers that are made: by a Scan, an item with an expression or an aggregate
  pub made : List ColId
  -- whether each node is well-formed by itself
  pub sound : Bool

-- INT where there is no kind
abbrev pub kind_or_int : Option Kind → Kind
kind_or_int None = kind.Int
kind_or_int (Some kind) = kind

abbrev pub has_number : ColId → Columns → Bool
has_number c columns = list_any (λ column. column.0.0 == c.0) columns

-- two lists of columns have no number in common
abbrev pub are_apart : Columns → Columns → Bool
are_apart left right = list_all (λ column. not (has_number column.0 right)) left

-- each of some lists of columns has no number in common with those after it
abbrev pub all_apart : List Columns → Bool
all_apart [] = true
all_apart (first ∷ rest) = are_apart first (flat_map (λ columns. columns) rest) && all_apart rest

abbrev pub all_typed : Columns → List Cond → Bool
all_typed columns conds = list_all (is_typed columns) conds

-- ---- scans

abbrev pub columns_in : Option Table → List Column
columns_in None = []
columns_in (Some table) = table.columns

-- the kind of the column at a place of a table
abbrev pub column_kind : List Column → ℕ → Option Kind
column_kind columns place = option_map (λ column. column.kind) (slice_get columns place)

abbrev pub scan_column : List Column → (ColId × ℕ) → (ColId × Kind)
scan_column columns col = (col.0, kind_or_int (column_kind columns col.1))

-- a known table, and columns that it has
abbrev pub scan_shape : Option Table → List (ColId × ℕ) → Shape
scan_shape table cols = record {
  columns = map (scan_column (columns_in table)) cols;
  made = map (λ col. col.0) cols;
  sound = is_some table && list_all (λ col. is_some (column_kind (columns_in table) col.1)) cols;
}

-- ---- projection

abbrev pub item_kind : Columns → (ColId × Option Scalar) → Option Kind
item_kind columns item = item_kind_by columns (kind_at columns item.0) item.1

abbrev pub item_column : Columns → (ColId × Option Scalar) → (ColId × Kind)
item_column columns item = (item.0, kind_or_int (item_kind columns item))

abbrev pub made_by : (ColId × Option Scalar) → List ColId
made_by (c, None) = []
made_by (c, Some x) = c ∷ []

abbrev pub project_shape : List (ColId × Option Scalar) → Shape → Shape
project_shape items child = record {
  columns = map (item_column child.columns) items;
  made = child.made ++ flat_map made_by items;
  sound = child.sound && list_all (λ item. is_some (item_kind child.columns item)) items;
}

-- ---- blocks and joins

abbrev pub is_empty : List Cond → Bool
is_empty [] = true
is_empty (first ∷ rest) = false

-- a block has 1 to 10 leaves, and one of one leaf has a conjunct
abbrev pub leaves_fit : ℕ → List Cond → Bool
leaves_fit count conds = leb 1 count && (leb count MOST_LEAVES && not ((count == 1) && is_empty conds))

abbrev pub block_columns : List Shape → Columns
block_columns leaves = flat_map (λ leaf. leaf.columns) leaves

abbrev pub block_shape : List Shape → List Cond → Shape
block_shape leaves conds = record {
  columns = block_columns leaves;
  made = flat_map (λ leaf. leaf.made) leaves;
  sound = list_all (λ leaf. leaf.sound) leaves && (leaves_fit (length leaves) conds && (all_apart (map (λ leaf. leaf.columns) leaves) && all_typed (block_columns leaves) conds));
}

-- Semi and Anti give the left side alone
abbrev pub joined_columns : JoinKind → Columns → Columns → Columns
joined_columns join.Semi left right = left
joined_columns join.Anti left right = left
joined_columns _ left right = left ++ right

-- an inner join is a block
abbrev pub is_outer : JoinKind → Bool
is_outer join.Inner = false
is_outer _ = true

abbrev pub join_shape : JoinKind → List Cond → Shape → Shape → Shape
join_shape kind conds left right = record {
  columns = joined_columns kind left.columns right.columns;
  made = left.made ++ right.made;
  sound = (left.sound && right.sound) && (is_outer kind && (are_apart left.columns right.columns && all_typed (left.columns ++ right.columns) conds));
}

-- ---- groups

abbrev pub key_column : Columns → ColId → (ColId × Kind)
key_column columns key = (key, kind_or_int (kind_at columns key))

abbrev pub aggregate_column : Columns → Agg → (ColId × Kind)
aggregate_column columns agg = (agg.out, kind_or_int (aggregate_kind columns agg))

abbrev pub group_shape : List ColId → List Agg → Shape → Shape
group_shape keys aggs child = record {
  columns = map (key_column child.columns) keys ++ map (aggregate_column child.columns) aggs;
  made = child.made ++ map (λ agg. agg.out) aggs;
  sound = child.sound && (list_all (λ key. has_number key child.columns) keys && list_all (λ agg. is_some (aggregate_kind child.columns agg)) aggs);
}

-- ---- any tree

module _ (tables : Tables) where
  abbrev pub shape_step : Tree-F Shape → Shape
  shape_step (Tree-F.Scan table alias cols) = scan_shape (table_named table tables) cols
  shape_step (Tree-F.Filter conds child) = record { columns = child.columns; made = child.made; sound = child.sound && all_typed child.columns conds }
  shape_step (Tree-F.Project items child) = project_shape items child
  shape_step (Tree-F.Block leaves conds) = block_shape leaves conds
  shape_step (Tree-F.Join kind conds left right) = join_shape kind conds left right
  shape_step (Tree-F.GroupBy keys aggs child) = group_shape keys aggs child

  abbrev pub shape_of : Tree → Shape
  shape_of = fold-Tree Shape shape_step

  -- the columns that a tree gives
  abbrev pub columns_of : Tree → Columns
  columns_of tree = (shape_of tree).columns
