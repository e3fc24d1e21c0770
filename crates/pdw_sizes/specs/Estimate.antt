-- What is reckoned of a tree: its rows, and of each column that it makes how many different values there are, and how wide.
use Rattle.std.specs.Prelude.{ℕ, Bool, ◌==◌, ◌*◌, ◌/◌, List, [], ◌∷◌, length, fold, max, min, Option, Some, None, if◌then◌else◌}
use Rattle.std.specs.List.{find, slice_get}
use Rattle.std.specs.Map.{lookup}
use Rattle.std.specs.Option.{option_and_then, option_map, option_or, unwrap_or}
use Rattle.pdw_algebra.specs.declared.tree.Tree.{Tree}
use Rattle.pdw_algebra.specs.declared.tree.Tree.TheOpen.{Tree-F}
use Rattle.pdw_algebra.specs.declared.tree.Tree.TheFolds.{fold-Tree}
use Rattle.pdw_base.specs.declared.schema.ColId.{ColId}
use Rattle.pdw_base.specs.declared.value.Value.{Value}
use Rattle.pdw_base.specs.declared.value.Value.TheVariants as value
use Rattle.pdw_expr.specs.declared.agg.Agg.{Agg}
use Rattle.pdw_expr.specs.declared.agg.AggKind.{AggKind}
use Rattle.pdw_expr.specs.declared.agg.AggKind.TheVariants as aggregate
use Rattle.pdw_expr.specs.declared.agg.JoinKind.{JoinKind}
use Rattle.pdw_expr.specs.declared.agg.JoinKind.TheVariants as join
use Rattle.pdw_expr.specs.declared.cond.Cond.{Cond}
use Rattle.pdw_expr.specs.declared.scalar.Scalar.{Scalar}
use Rattle.pdw_expr.specs.declared.scalar.Scalar.TheOpen.{Scalar-F}
use Rattle.pdw_expr.specs.declared.scalar.Scalar.TheFolds.{fold-Scalar}
use Rattle.pdw_sizes.specs.Divisor.{divisor}
use Rattle.pdw_sizes.specs.declared.size.TheConstants.{WIDEST}
use Rattle.pdw_stats.specs.Book.{Book, stats_of}
use Rattle.pdw_stats.specs.declared.stats.ColStat.{ColStat}
use Rattle.pdw_stats.specs.declared.stats.Stats.{Stats}
use Rattle.pdw_stats.specs.declared.stats.TheConstants.{MOST_ROWS}

-- ---- numbers of rows

-- a product is at most 10^12
abbrev pub times : ℕ → ℕ → ℕ
times rows more = min MOST_ROWS (rows * more)

-- a division is rounded down, but from some rows it leaves one
abbrev pub divided : ℕ → ℕ → ℕ
divided rows by_many = if rows == 0 then 0 else max 1 (rows / by_many)

-- ---- columns

-- the numbers of a column, by its own number
abbrev pub ColStats : Type 0
ColStats = ColId → Option ColStat

-- a column that is computed from others has 100 different values
abbrev pub computed : ℕ → ColStat
computed width = record { distinct = 100; width = width }

-- a column of which no numbers are there
abbrev pub known : Option ColStat → ColStat
known found = unwrap_or found (computed 8)

abbrev pub distinct_in : ColStats → ColId → ℕ
distinct_in columns c = (known (columns c)).distinct

abbrev pub width_in : ColStats → ColId → ℕ
width_in columns c = (known (columns c)).width

-- ---- widths of expressions

-- a text is as wide as its bytes, as far as a width goes
abbrev pub literal_width : Value → ℕ
literal_width (value.Text text) = min WIDEST (max 1 (length text))
literal_width _ = 8

-- a bare column is as wide as it is, a text literal as its bytes, and any other expression 8
abbrev pub width_step : ColStats → Scalar-F ℕ → ℕ
width_step columns (Scalar-F.Col c) = width_in columns c
width_step columns (Scalar-F.Lit v) = literal_width v
width_step columns _ = 8

abbrev pub expression_width : ColStats → Scalar → ℕ
expression_width columns = fold-Scalar ℕ (width_step columns)

abbrev pub argument_width : ColStats → Option Scalar → ℕ
argument_width columns None = 8
argument_width columns (Some argument) = expression_width columns argument

-- counts and sums have a width of their own, and the least and the greatest that of their argument
abbrev pub aggregate_width : ℕ → AggKind → ℕ → ℕ
aggregate_width count aggregate.CountStar argument = count
aggregate_width count aggregate.Count argument = count
aggregate_width count aggregate.Sum argument = count
aggregate_width count aggregate.Min argument = argument
aggregate_width count aggregate.Max argument = argument

-- ---- the columns that a node makes, over those below it

abbrev pub is_number : ColId → ColId → Bool
is_number c other = other.0 == c.0

-- a column of a scanned table, by its place in the table
abbrev pub scanned_columns : Option Stats → List (ColId × ℕ) → ColStats
scanned_columns None cols c = None
scanned_columns (Some stats) cols c = option_and_then (λ place. slice_get stats.cols place) (lookup (is_number c) cols)

-- an item without an expression passes its column on
abbrev pub item_columns : ColStats → List (ColId × Option Scalar) → ColStats
item_columns below items c = option_or (option_map (λ made. computed (expression_width below made)) (option_and_then (λ item. item) (lookup (is_number c) items))) (below c)

-- counts and sums of this width
abbrev pub aggregate_columns : ℕ → ColStats → List Agg → ColStats
aggregate_columns count below aggs c =
    option_or (option_map (λ (agg : Agg). computed (aggregate_width count agg.kind (argument_width below agg.arg))) (find (λ (agg : Agg). is_number c agg.out) aggs)) (below c)

-- the columns of two sides, and of leaves, which have none in common
abbrev pub both_columns : ColStats → ColStats → ColStats
both_columns left right c = option_or (left c) (right c)

-- ---- rows

module _ (columns : ColStats) where
  -- the rows that conjuncts leave, each in turn
  abbrev pub rows_left : ℕ → List Cond → ℕ
  rows_left rows conds = fold (λ left cond. divided left (divisor (distinct_in columns) cond)) rows conds

  -- each list of key values occurs once, and there are no more than there are rows
  abbrev pub key_rows : ℕ → List ColId → ℕ
  key_rows rows [] = 1
  key_rows rows (key ∷ keys) = min rows (fold (λ product c. times product (distinct_in columns c)) 1 (key ∷ keys))

-- a preserved row stands at least once
abbrev pub join_rows : JoinKind → ℕ → ℕ → ℕ → ℕ
join_rows join.Inner joined left right = joined
join_rows join.Left joined left right = max joined left
join_rows join.Full joined left right = max (max joined left) right
join_rows join.Semi joined left right = divided left 2
join_rows join.Anti joined left right = divided left 2

-- ---- trees

pub record Estimate : Type 0 where
  pub rows : ℕ
  pub columns : ColStats

abbrev pub leaf_rows : List Estimate → ℕ
leaf_rows leaves = fold (λ rows (leaf : Estimate). times rows leaf.rows) 1 leaves

abbrev pub leaf_columns : List Estimate → ColStats
leaf_columns leaves = fold (λ columns (leaf : Estimate). both_columns columns leaf.columns) (λ c. None) leaves

abbrev pub table_rows : Option Stats → ℕ
table_rows None = 0
table_rows (Some stats) = stats.rows

module _ (book : Book) where
  abbrev pub estimate_step : Tree-F Estimate → Estimate
  estimate_step (Tree-F.Scan table alias cols) = record { rows = table_rows (stats_of table book); columns = scanned_columns (stats_of table book) cols }
  estimate_step (Tree-F.Filter conds child) = record { rows = rows_left child.columns child.rows conds; columns = child.columns }
  estimate_step (Tree-F.Project items child) = record { rows = child.rows; columns = item_columns child.columns items }
  estimate_step (Tree-F.Block leaves conds) = record { rows = rows_left (leaf_columns leaves) (leaf_rows leaves) conds; columns = leaf_columns leaves }
  estimate_step (Tree-F.Join kind conds left right) = record {
    rows = join_rows kind (rows_left (both_columns left.columns right.columns) (times left.rows right.rows) conds) left.rows right.rows;
    columns = both_columns left.columns right.columns;
  }
  estimate_step (Tree-F.GroupBy keys aggs child) = record { rows = key_rows child.columns child.rows keys; columns = aggregate_columns 8 child.columns aggs }

  abbrev pub estimate : Tree → Estimate
  estimate = fold-Tree Estimate estimate_step

  abbrev pub rows_of_tree : Tree → ℕ
  rows_of_tree tree = (estimate tree).rows

  -- how many different values a column is reckoned to have, where the tree has it, and its width
  abbrev pub distinct_of : Tree → ColId → ℕ
  distinct_of tree = distinct_in (estimate tree).columns

  abbrev pub width_of_column : Tree → ColId → ℕ
  width_of_column tree = width_in (estimate tree).columns
