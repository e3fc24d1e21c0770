-- The columns of groups: which of them are interesting, and those of partial rows.
use Rattle.std.specs.Prelude.{ℕ, ◌==◌, nat_lt, Bool, true, false, List, [], ◌∷◌, ◌++◌, map, fold, Option, Some, None, if◌then◌else◌}
use Rattle.std.specs.List.{filter, flat_map, list_any}
use Rattle.pdw_algebra.specs.Schema.{rising}
use Rattle.pdw_algebra.specs.Shape.{key_column, kind_or_int}
use Rattle.pdw_algebra.specs.Types.{aggregate_kind}
use Rattle.pdw_algebra.specs.declared.tree.Tree.{Tree}
use Rattle.pdw_algebra.specs.declared.tree.Tree.TheOpen.{Tree-F}
use Rattle.pdw_algebra.specs.declared.tree.Tree.TheFolds.{fold-Tree}
use Rattle.pdw_base.specs.Schema.{Columns}
use Rattle.pdw_base.specs.declared.schema.ColId.{ColId}
use Rattle.pdw_base.specs.declared.value.Kind.{Kind}
use Rattle.pdw_base.specs.declared.value.Kind.TheVariants as kind
use Rattle.pdw_catalog.specs.Catalog.{Tables, table_named}
use Rattle.pdw_catalog.specs.declared.table.Placing.{Placing}
use Rattle.pdw_catalog.specs.declared.table.Placing.TheVariants as placing
use Rattle.pdw_catalog.specs.declared.table.Table.{Table}
use Rattle.pdw_expr.specs.declared.agg.Agg.{Agg}
use Rattle.pdw_expr.specs.declared.agg.AggKind.{AggKind}
use Rattle.pdw_expr.specs.declared.agg.AggKind.TheVariants as aggregate
use Rattle.pdw_expr.specs.declared.cond.Cmp.{Cmp}
use Rattle.pdw_expr.specs.declared.cond.Cmp.TheVariants as compares
use Rattle.pdw_expr.specs.declared.cond.Cond.{Cond}
use Rattle.pdw_expr.specs.declared.cond.Cond.TheOpen.{Cond-F}
use Rattle.pdw_expr.specs.declared.cond.Cond.TheFolds.{fold-Cond}
use Rattle.pdw_expr.specs.declared.scalar.Scalar.{Scalar}
use Rattle.pdw_expr.specs.declared.scalar.Scalar.TheOpen.{Scalar-F}
use Rattle.pdw_expr.specs.declared.scalar.Scalar.TheFolds.{fold-Scalar}

-- ---- the placing of a scanned table

-- a column, or another of a smaller number
abbrev pub lesser : Option ColId → ColId → Option ColId
lesser None c = Some c
lesser (Some least) c = if nat_lt c.0 least.0 then Some c else Some least

-- of the columns that are read at a place of the table, the one of the least number
abbrev pub least_at : ℕ → List (ColId × ℕ) → Option ColId
least_at place cols = fold (λ least col. if col.1 == place then lesser least col.0 else least) None cols

-- the used column by whose hash the rows of a table are placed
abbrev pub hash_by : Placing → List (ColId × ℕ) → Option ColId
hash_by (placing.Hash place) cols = least_at place cols
hash_by placing.Replicate cols = None

abbrev pub hash_in : Option Table → List (ColId × ℕ) → Option ColId
hash_in None cols = None
hash_in (Some table) cols = hash_by table.placing cols

abbrev pub is_replicate : Placing → Bool
is_replicate (placing.Hash place) = false
is_replicate placing.Replicate = true

abbrev pub replicated_in : Option Table → Bool
replicated_in None = false
replicated_in (Some table) = is_replicate table.placing

-- ---- interesting columns

-- an expression that is a column alone
abbrev pub column_step : Scalar-F (Option ColId) → Option ColId
column_step (Scalar-F.Col c) = Some c
column_step _ = None

abbrev pub column_alone : Scalar → Option ColId
column_alone = fold-Scalar (Option ColId) column_step

abbrev pub equal_pair : Cmp → Option ColId → Option ColId → List ColId
equal_pair compares.Eq (Some a) (Some b) = a ∷ b ∷ []
equal_pair _ _ _ = []

-- a conjunct that compares two columns by `=` has these two
abbrev pub equality_step : Cond-F (List ColId) → List ColId
equality_step (Cond-F.Compare compare a b) = equal_pair compare (column_alone a) (column_alone b)
equality_step _ = []

abbrev pub equality_columns : Cond → List ColId
equality_columns = fold-Cond (List ColId) equality_step

abbrev pub equated : List Cond → List ColId
equated conds = flat_map equality_columns conds

abbrev pub as_list : Option ColId → List ColId
as_list None = []
as_list (Some c) = c ∷ []

module _ (tables : Tables) where
  -- the columns by which rows of a statement's tree may usefully be placed: those of a column equality, grouping keys, and the
  -- columns by whose hash tables are placed
  abbrev pub useful_step : Tree-F (List ColId) → List ColId
  useful_step (Tree-F.Scan table alias cols) = as_list (hash_in (table_named table tables) cols)
  useful_step (Tree-F.Filter conds child) = child ++ equated conds
  useful_step (Tree-F.Project items child) = child
  useful_step (Tree-F.Block leaves conds) = flat_map (λ leaf. leaf) leaves ++ equated conds
  useful_step (Tree-F.Join kind conds left right) = (left ++ right) ++ equated conds
  useful_step (Tree-F.GroupBy keys aggs child) = child ++ keys

  abbrev pub useful_columns : Tree → List ColId
  useful_columns = fold-Tree (List ColId) useful_step

-- where there is none it is the first of all
abbrev pub or_first : List ColId → List ColId → List ColId
or_first [] [] = []
or_first [] (first ∷ rest) = first ∷ []
or_first (c ∷ some) all = c ∷ some

abbrev pub numbers_of : Columns → List ColId
numbers_of schema = map (λ column. column.0) schema

-- the interesting columns of a schema, by rising numbers
abbrev pub interesting_in : List ColId → Columns → List ColId
interesting_in useful schema = or_first (filter (λ c. list_any (λ u. u.0 == c.0) useful) (numbers_of schema)) (numbers_of schema)

-- ---- partial rows

-- counts and sums are kept as wide numbers
abbrev pub partial_kind : AggKind → Kind → Kind
partial_kind aggregate.CountStar final = kind.Wide
partial_kind aggregate.Count final = kind.Wide
partial_kind aggregate.Sum final = kind.Wide
partial_kind aggregate.Min final = final
partial_kind aggregate.Max final = final

abbrev pub partial_column : Columns → Agg → (ColId × Kind)
partial_column columns agg = (agg.out, partial_kind agg.kind (kind_or_int (aggregate_kind columns agg)))

-- the schema of partial rows over some columns
abbrev pub partial_schema : List ColId → List Agg → Columns → Columns
partial_schema keys aggs columns = rising (map (key_column columns) keys ++ map (partial_column columns) aggs)
