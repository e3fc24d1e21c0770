-- Conjuncts by their form, and what is reckoned of trees by their nodes.
use Rattle.std.proofs.Common.{◌≡◌, ℕ, List, map, Option, ap, ap₂, ◌∙◌}
use Rattle.pdw_algebra.proofs.TreeFolds.{fold-block, fold-filter, fold-group, fold-join, fold-project, fold-scan}
use Rattle.pdw_algebra.specs.declared.tree.Tree.{Tree}
use Rattle.pdw_algebra.specs.declared.tree.Tree.TheOpen.{Tree-F}
use Rattle.pdw_algebra.specs.declared.tree.Tree.TheVariants as tree
use Rattle.pdw_base.specs.declared.schema.ColId.{ColId}
use Rattle.pdw_base.specs.declared.value.Value.{Value}
use Rattle.pdw_expr.specs.Columns.{scalar_columns_step}
use Rattle.pdw_expr.specs.declared.agg.Agg.{Agg}
use Rattle.pdw_expr.specs.declared.agg.JoinKind.{JoinKind}
use Rattle.pdw_expr.specs.declared.cond.Cmp.{Cmp}
use Rattle.pdw_expr.specs.declared.cond.Cond.{Cond}
use Rattle.pdw_expr.specs.declared.cond.Cond.TheOpen.{Cond-F}
use Rattle.pdw_expr.specs.declared.cond.Cond.TheFolds.{fold-roll-Cond}
use Rattle.pdw_expr.specs.declared.cond.Cond.TheVariants as cond
use Rattle.pdw_expr.specs.declared.scalar.Scalar.{Scalar}
use Rattle.pdw_expr.specs.declared.scalar.Scalar.TheOpen.{Scalar-F}
use Rattle.pdw_expr.specs.declared.scalar.Scalar.TheFolds.{fold-roll-Scalar}
use Rattle.pdw_expr.specs.declared.scalar.Scalar.TheVariants as scalar
use Rattle.pdw_groups.specs.Columns.{column_step}
use Rattle.pdw_sizes.specs.Divisor.{compare_divisor, divisor, divisor_step, side_by, side_of}
use Rattle.pdw_sizes.specs.Estimate.{ColStats, Estimate, estimate, estimate_step, expression_width, literal_width, width_in, width_step}
use Rattle.pdw_sizes.specs.declared.divisors.Side.{Side}
use Rattle.pdw_sizes.specs.declared.divisors.Side.TheVariants as side
use Rattle.pdw_stats.specs.Book.{Book}

-- ---- sides of a comparison

pub side_of-column : (c : ColId) → side_of (scalar.Col c) ≡ side.Column c
unfolding Rattle.pdw_expr.specs.declared.scalar.Scalar.TheViews.roll-Scalar denote.Hole.Carrier.roll
side_of-column c = ap₂ side_by (fold-roll-Scalar (Option ColId) column_step (Scalar-F.Col c)) (fold-roll-Scalar (List ColId) scalar_columns_step (Scalar-F.Col c))

pub side_of-literal : (v : Value) → side_of (scalar.Lit v) ≡ side.Constant
unfolding Rattle.pdw_expr.specs.declared.scalar.Scalar.TheViews.roll-Scalar denote.Hole.Carrier.roll
side_of-literal v = ap₂ side_by (fold-roll-Scalar (Option ColId) column_step (Scalar-F.Lit v)) (fold-roll-Scalar (List ColId) scalar_columns_step (Scalar-F.Lit v))

-- ---- conjuncts

pub divisor-compare : (distinct : ColId → ℕ) (op : Cmp) (left right : Scalar) → divisor distinct (cond.Compare op left right) ≡ compare_divisor distinct op (side_of left) (side_of right)
unfolding Rattle.pdw_expr.specs.declared.cond.Cond.TheViews.roll-Cond denote.Hole.Carrier.roll
divisor-compare distinct op left right = fold-roll-Cond ℕ (divisor_step distinct) (Cond-F.Compare op left right)

pub divisor-not : (distinct : ColId → ℕ) (part : Cond) → divisor distinct (cond.Not part) ≡ 2
unfolding Rattle.pdw_expr.specs.declared.cond.Cond.TheViews.roll-Cond denote.Hole.Carrier.roll
divisor-not distinct part = fold-roll-Cond ℕ (divisor_step distinct) (Cond-F.Not part)

-- a comparison whose sides are known
pub divisor-sides : (op : Cmp) (left right : Scalar) (a b : Side) → side_of left ≡ a → side_of right ≡ b → (distinct : ColId → ℕ)
    → divisor distinct (cond.Compare op left right) ≡ compare_divisor distinct op a b
divisor-sides op left right a b first second distinct = divisor-compare distinct op left right ∙ ap₂ (compare_divisor distinct op) first second

-- ---- expressions

pub expression_width-column : (columns : ColStats) (c : ColId) → expression_width columns (scalar.Col c) ≡ width_in columns c
unfolding Rattle.pdw_expr.specs.declared.scalar.Scalar.TheViews.roll-Scalar denote.Hole.Carrier.roll
expression_width-column columns c = fold-roll-Scalar ℕ (width_step columns) (Scalar-F.Col c)

pub expression_width-literal : (columns : ColStats) (v : Value) → expression_width columns (scalar.Lit v) ≡ literal_width v
unfolding Rattle.pdw_expr.specs.declared.scalar.Scalar.TheViews.roll-Scalar denote.Hole.Carrier.roll
expression_width-literal columns v = fold-roll-Scalar ℕ (width_step columns) (Scalar-F.Lit v)

-- ---- trees

module _ (book : Book) where
  abbrev step : Tree-F Estimate → Estimate
  step = estimate_step book

  pub estimate-scan : (table alias : List ℕ) (cols : List (ColId × ℕ)) → estimate book (tree.Scan table alias cols) ≡ estimate_step book (Tree-F.Scan table alias cols)
  estimate-scan = fold-scan step

  pub estimate-filter : (conds : List Cond) (child : Tree) (below : Estimate) → estimate book child ≡ below
      → estimate book (tree.Filter conds child) ≡ estimate_step book (Tree-F.Filter conds below)
  estimate-filter conds child below same = fold-filter step conds child ∙ ap (λ e. step (Tree-F.Filter conds e)) same

  pub estimate-project : (items : List (ColId × Option Scalar)) (child : Tree) (below : Estimate) → estimate book child ≡ below
      → estimate book (tree.Project items child) ≡ estimate_step book (Tree-F.Project items below)
  estimate-project items child below same = fold-project step items child ∙ ap (λ e. step (Tree-F.Project items e)) same

  pub estimate-block : (leaves : List Tree) (conds : List Cond) (below : List Estimate) → map (estimate book) leaves ≡ below
      → estimate book (tree.Block leaves conds) ≡ estimate_step book (Tree-F.Block below conds)
  estimate-block leaves conds below same = fold-block step leaves conds ∙ ap (λ es. step (Tree-F.Block es conds)) same

  pub estimate-join : (kind : JoinKind) (conds : List Cond) (left right : Tree) (first second : Estimate) → estimate book left ≡ first → estimate book right ≡ second
      → estimate book (tree.Join kind conds left right) ≡ estimate_step book (Tree-F.Join kind conds first second)
  estimate-join kind conds left right first second here there = fold-join step kind conds left right ∙ ap₂ (λ a b. step (Tree-F.Join kind conds a b)) here there

  pub estimate-group : (keys : List ColId) (aggs : List Agg) (child : Tree) (below : Estimate) → estimate book child ≡ below
      → estimate book (tree.GroupBy keys aggs child) ≡ estimate_step book (Tree-F.GroupBy keys aggs below)
  estimate-group keys aggs child below same = fold-group step keys aggs child ∙ ap (λ e. step (Tree-F.GroupBy keys aggs e)) same
