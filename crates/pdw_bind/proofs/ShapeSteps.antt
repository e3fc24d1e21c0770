-- The shape of each operator by those of its children, and the kinds of the conditions that a subquery's join has.
use Rattle.std.proofs.Common.{◌≡◌, ℕ, ◌&&◌, Bool, List, map, Option}
use Rattle.pdw_algebra.specs.Schema.{kind_at}
use Rattle.pdw_algebra.specs.Shape.{Shape, all_typed, block_shape, group_shape, join_shape, project_shape, scan_shape, shape_of, shape_step}
use Rattle.pdw_algebra.specs.Types.{is_typed, same_kinds, scalar_kind, scalar_kind_step, typed_step}
use Rattle.pdw_algebra.specs.declared.tree.Tree.TheFolds.{fold-roll-Tree}
use Rattle.pdw_algebra.specs.declared.tree.Tree.TheOpen.{Tree-F}
use Rattle.pdw_algebra.specs.declared.tree.Tree.TheVariants as tree
use Rattle.pdw_algebra.specs.declared.tree.Tree.{Tree}
use Rattle.pdw_base.specs.Schema.{Columns}
use Rattle.pdw_base.specs.declared.schema.ColId.{ColId}
use Rattle.pdw_base.specs.declared.truth.Truth.{Truth}
use Rattle.pdw_base.specs.declared.value.Kind.{Kind}
use Rattle.pdw_catalog.specs.Catalog.{Tables, table_named}
use Rattle.pdw_expr.specs.declared.agg.Agg.{Agg}
use Rattle.pdw_expr.specs.declared.agg.JoinKind.{JoinKind}
use Rattle.pdw_expr.specs.declared.cond.Cmp.{Cmp}
use Rattle.pdw_expr.specs.declared.cond.Cond.TheFolds.{fold-roll-Cond}
use Rattle.pdw_expr.specs.declared.cond.Cond.TheOpen.{Cond-F}
use Rattle.pdw_expr.specs.declared.cond.Cond.TheVariants as cond
use Rattle.pdw_expr.specs.declared.cond.Cond.{Cond}
use Rattle.pdw_expr.specs.declared.scalar.Scalar.TheFolds.{fold-roll-Scalar}
use Rattle.pdw_expr.specs.declared.scalar.Scalar.TheOpen.{Scalar-F}
use Rattle.pdw_expr.specs.declared.scalar.Scalar.TheVariants.{Col}
use Rattle.pdw_expr.specs.declared.scalar.Scalar.{Scalar}

module _ (tables : Tables) where
  pub shape-scan : (table alias : List ℕ) (cols : List (ColId × ℕ)) → shape_of tables (tree.Scan table alias cols) ≡ scan_shape (table_named table tables) cols
  unfolding Rattle.pdw_algebra.specs.declared.tree.Tree.TheViews.roll-Tree denote.Hole.Carrier.roll
  shape-scan table alias cols = fold-roll-Tree Shape (shape_step tables) (Tree-F.Scan table alias cols)

  pub shape-filter : (conds : List Cond) (child : Tree)
      → shape_of tables (tree.Filter conds child) ≡ record { columns = (shape_of tables child).columns; made = (shape_of tables child).made; sound = (shape_of tables child).sound && all_typed (shape_of tables child).columns conds }
  unfolding Rattle.pdw_algebra.specs.declared.tree.Tree.TheViews.roll-Tree denote.Hole.Carrier.roll
  shape-filter conds child = fold-roll-Tree Shape (shape_step tables) (Tree-F.Filter conds child)

  pub shape-project : (items : List (ColId × Option Scalar)) (child : Tree) → shape_of tables (tree.Project items child) ≡ project_shape items (shape_of tables child)
  unfolding Rattle.pdw_algebra.specs.declared.tree.Tree.TheViews.roll-Tree denote.Hole.Carrier.roll
  shape-project items child = fold-roll-Tree Shape (shape_step tables) (Tree-F.Project items child)

  pub shape-block : (leaves : List Tree) (conds : List Cond) → shape_of tables (tree.Block leaves conds) ≡ block_shape (map (shape_of tables) leaves) conds
  unfolding Rattle.pdw_algebra.specs.declared.tree.Tree.TheViews.roll-Tree denote.Hole.Carrier.roll
  shape-block leaves conds = fold-roll-Tree Shape (shape_step tables) (Tree-F.Block leaves conds)

  pub shape-join : (kind : JoinKind) (conds : List Cond) (left right : Tree)
      → shape_of tables (tree.Join kind conds left right) ≡ join_shape kind conds (shape_of tables left) (shape_of tables right)
  unfolding Rattle.pdw_algebra.specs.declared.tree.Tree.TheViews.roll-Tree denote.Hole.Carrier.roll
  shape-join kind conds left right = fold-roll-Tree Shape (shape_step tables) (Tree-F.Join kind conds left right)

  pub shape-groups : (keys : List ColId) (aggs : List Agg) (child : Tree) → shape_of tables (tree.GroupBy keys aggs child) ≡ group_shape keys aggs (shape_of tables child)
  unfolding Rattle.pdw_algebra.specs.declared.tree.Tree.TheViews.roll-Tree denote.Hole.Carrier.roll
  shape-groups keys aggs child = fold-roll-Tree Shape (shape_step tables) (Tree-F.GroupBy keys aggs child)

module _ (columns : Columns) where
  pub kind-column : (c : ColId) → scalar_kind columns (Col c) ≡ kind_at columns c
  unfolding Rattle.pdw_expr.specs.declared.scalar.Scalar.TheViews.roll-Scalar denote.Hole.Carrier.roll
  kind-column c = fold-roll-Scalar (Option Kind) (scalar_kind_step columns) (Scalar-F.Col c)

  pub typed-comparison : (op : Cmp) (a b : Scalar) → is_typed columns (cond.Compare op a b) ≡ same_kinds (scalar_kind columns a) (scalar_kind columns b)
  unfolding Rattle.pdw_expr.specs.declared.cond.Cond.TheViews.roll-Cond denote.Hole.Carrier.roll
  typed-comparison op a b = fold-roll-Cond Bool (typed_step columns) (Cond-F.Compare op a b)

  pub typed-test : (part : Cond) (truth : Truth) → is_typed columns (cond.Test part truth) ≡ is_typed columns part
  unfolding Rattle.pdw_expr.specs.declared.cond.Cond.TheViews.roll-Cond denote.Hole.Carrier.roll
  typed-test part truth = fold-roll-Cond Bool (typed_step columns) (Cond-F.Test part truth)

  pub typed-not : (part : Cond) → is_typed columns (cond.Not part) ≡ is_typed columns part
  unfolding Rattle.pdw_expr.specs.declared.cond.Cond.TheViews.roll-Cond denote.Hole.Carrier.roll
  typed-not part = fold-roll-Cond Bool (typed_step columns) (Cond-F.Not part)
