-- Folds over trees, constructor by constructor, and induction over trees.
use Rattle.std.proofs.Common.{◌≡◌, ℕ, List, [], ◌∷◌, map, Option, sym, ap, subst, ◌∙◌}
use Rattle.std.specs.List.{AllByRecursion}
use Rattle.pdw_algebra.specs.declared.tree.Tree.{Tree}
use Rattle.pdw_algebra.specs.declared.tree.Tree.TheOpen.{Tree-F}
use Rattle.pdw_algebra.specs.declared.tree.Tree.TheViews.{roll-Tree}
use Rattle.pdw_algebra.specs.declared.tree.Tree.TheFolds.{fold-Tree, fold-roll-Tree, ind-Tree, map-Tree}
use Rattle.pdw_algebra.specs.declared.tree.Tree.TheVariants as tree
use Rattle.pdw_base.specs.declared.schema.ColId.{ColId}
use Rattle.pdw_expr.specs.declared.agg.Agg.{Agg}
use Rattle.pdw_expr.specs.declared.agg.JoinKind.{JoinKind}
use Rattle.pdw_expr.specs.declared.cond.Cond.{Cond}
use Rattle.pdw_expr.specs.declared.scalar.Scalar.{Scalar}

-- ---- folds

module _ {N : Type 0} (step : Tree-F N → N) where
  abbrev folded : Tree → N
  folded = fold-Tree N step

  pub fold-scan : (table alias : List ℕ) (cols : List (ColId × ℕ)) → folded (tree.Scan table alias cols) ≡ step (Tree-F.Scan table alias cols)
  fold-scan table alias cols = ap folded (sym (tree.rolls-Scan table alias cols)) ∙ fold-roll-Tree N step (Tree-F.Scan table alias cols)

  pub fold-filter : (conds : List Cond) (child : Tree) → folded (tree.Filter conds child) ≡ step (Tree-F.Filter conds (folded child))
  fold-filter conds child = ap folded (sym (tree.rolls-Filter conds child)) ∙ fold-roll-Tree N step (Tree-F.Filter conds child)

  pub fold-project : (items : List (ColId × Option Scalar)) (child : Tree) → folded (tree.Project items child) ≡ step (Tree-F.Project items (folded child))
  fold-project items child = ap folded (sym (tree.rolls-Project items child)) ∙ fold-roll-Tree N step (Tree-F.Project items child)

  pub fold-block : (leaves : List Tree) (conds : List Cond) → folded (tree.Block leaves conds) ≡ step (Tree-F.Block (map folded leaves) conds)
  fold-block leaves conds = ap folded (sym (tree.rolls-Block leaves conds)) ∙ fold-roll-Tree N step (Tree-F.Block leaves conds)

  pub fold-join : (kind : JoinKind) (conds : List Cond) (left right : Tree) → folded (tree.Join kind conds left right) ≡ step (Tree-F.Join kind conds (folded left) (folded right))
  fold-join kind conds left right = ap folded (sym (tree.rolls-Join kind conds left right)) ∙ fold-roll-Tree N step (Tree-F.Join kind conds left right)

  pub fold-group : (keys : List ColId) (aggs : List Agg) (child : Tree) → folded (tree.GroupBy keys aggs child) ≡ step (Tree-F.GroupBy keys aggs (folded child))
  fold-group keys aggs child = ap folded (sym (tree.rolls-GroupBy keys aggs child)) ∙ fold-roll-Tree N step (Tree-F.GroupBy keys aggs child)

-- ---- induction

-- what holds of a tree where it holds of its children
pub record Inductive (P : Tree → Type 0) : Type 0 where
  pub scan : (table alias : List ℕ) (cols : List (ColId × ℕ)) → P (tree.Scan table alias cols)
  pub filter : (conds : List Cond) (child : Tree) → P child → P (tree.Filter conds child)
  pub project : (items : List (ColId × Option Scalar)) (child : Tree) → P child → P (tree.Project items child)
  pub block : (leaves : List Tree) (conds : List Cond) → AllByRecursion P leaves → P (tree.Block leaves conds)
  pub join : (kind : JoinKind) (conds : List Cond) (left right : Tree) → P left → P right → P (tree.Join kind conds left right)
  pub group : (keys : List ColId) (aggs : List Agg) (child : Tree) → P child → P (tree.GroupBy keys aggs child)

module _ (P : Tree → Type 0) (cases : Inductive P) where
  abbrev Known : Type 0
  Known = (t : Tree) × P t

  abbrev known : Tree-F Known → Tree-F Tree
  known = map-Tree Known Tree (λ t. t.0)

  each-known : (leaves : List Known) → AllByRecursion P (map (λ (leaf : Known). leaf.0) leaves)
  each-known [] = tt
  each-known (leaf ∷ leaves) = (leaf.1, each-known leaves)

  layer : (y : Tree-F Known) → P (roll-Tree (known y))
  layer (Tree-F.Scan table alias cols) = subst P (sym (tree.rolls-Scan table alias cols)) (cases.scan table alias cols)
  layer (Tree-F.Filter conds child) = subst P (sym (tree.rolls-Filter conds child.0)) (cases.filter conds child.0 child.1)
  layer (Tree-F.Project items child) = subst P (sym (tree.rolls-Project items child.0)) (cases.project items child.0 child.1)
  layer (Tree-F.Block leaves conds) = subst P (sym (tree.rolls-Block (map (λ (leaf : Known). leaf.0) leaves) conds)) (cases.block (map (λ (leaf : Known). leaf.0) leaves) conds (each-known leaves))
  layer (Tree-F.Join kind conds left right) = subst P (sym (tree.rolls-Join kind conds left.0 right.0)) (cases.join kind conds left.0 right.0 left.1 right.1)
  layer (Tree-F.GroupBy keys aggs child) = subst P (sym (tree.rolls-GroupBy keys aggs child.0)) (cases.group keys aggs child.0 child.1)

  pub by_trees : (t : Tree) → P t
  by_trees = ind-Tree P (λ x y is. subst (λ z. P (roll-Tree z)) is (layer y))
