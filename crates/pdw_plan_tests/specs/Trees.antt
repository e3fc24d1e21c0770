-- The trees of which memos are made in the tests, over the table t (a INT, b TEXT).
use Rattle.std.specs.Prelude.{ℕ, List, [], ◌∷◌, Option, Some, None}
use Rattle.pdw_algebra.specs.declared.tree.Tree.{Tree}
use Rattle.pdw_algebra.specs.declared.tree.Tree.TheVariants as tree
use Rattle.pdw_base.specs.declared.schema.ColId.{ColId}
use Rattle.pdw_base.specs.declared.value.Value.TheVariants as value
use Rattle.pdw_catalog.specs.Catalog.{Tables}
use Rattle.pdw_catalog.specs.Sample.{sample_table}
use Rattle.pdw_catalog.specs.declared.table.Placing.TheVariants as placing
use Rattle.pdw_expr.specs.declared.agg.Agg.{Agg}
use Rattle.pdw_expr.specs.declared.agg.AggKind.TheVariants as aggregate
use Rattle.pdw_expr.specs.declared.cond.Cmp.TheVariants as compares
use Rattle.pdw_expr.specs.declared.cond.Cond.{Cond}
use Rattle.pdw_expr.specs.declared.cond.Cond.TheVariants as cond
use Rattle.pdw_expr.specs.declared.scalar.Scalar.{Scalar}
use Rattle.pdw_expr.specs.declared.scalar.Scalar.TheVariants as scalar

abbrev pub id : ℕ → ColId
id n = record { 0 = n }

abbrev pub t : List ℕ
t = 116 ∷ []

abbrev pub tables : Tables
tables = (t, sample_table t (placing.Hash 0)) ∷ []

abbrev pub scanned : List (ColId × ℕ) → Tree
scanned cols = tree.Scan t t cols

-- ---- SELECT COUNT(*) FROM t

abbrev pub counts : List Agg
counts = record { kind = aggregate.CountStar; arg = None; out = id 0 } ∷ []

abbrev pub grouped : Tree
grouped = tree.GroupBy [] counts (scanned [])

abbrev pub items : List (ColId × Option Scalar)
items = (id 0, None) ∷ []

abbrev pub counted : Tree
counted = tree.Project items grouped

-- ---- the table with itself: the columns a of both are equal, and b of the second is 'x'

abbrev pub same_a : Cond
same_a = cond.Compare compares.Eq (scalar.Col (id 0)) (scalar.Col (id 2))

abbrev pub b_is_x : Cond
b_is_x = cond.Compare compares.Eq (scalar.Col (id 3)) (scalar.Lit (value.Text (120 ∷ [])))

abbrev pub conjuncts : List Cond
conjuncts = same_a ∷ b_is_x ∷ []

abbrev pub first_cols : List (ColId × ℕ)
first_cols = (id 0, 0) ∷ (id 1, 1) ∷ []

abbrev pub second_cols : List (ColId × ℕ)
second_cols = (id 2, 0) ∷ (id 3, 1) ∷ []

abbrev pub joined : Tree
joined = tree.Block (scanned first_cols ∷ scanned second_cols ∷ []) conjuncts
