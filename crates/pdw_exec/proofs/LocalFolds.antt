-- Folds over local trees, constructor by constructor.
use Rattle.std.proofs.Common.{◌≡◌, ℕ, List, Option, sym, ap, ◌∙◌}
use Rattle.pdw_algebra.specs.declared.local.LocalTree.TheFolds.{fold-LocalTree, fold-roll-LocalTree}
use Rattle.pdw_algebra.specs.declared.local.LocalTree.TheOpen.{LocalTree-F}
use Rattle.pdw_algebra.specs.declared.local.LocalTree.TheVariants as tree
use Rattle.pdw_algebra.specs.declared.local.LocalTree.{LocalTree}
use Rattle.pdw_base.specs.declared.schema.ColId.{ColId}
use Rattle.pdw_expr.specs.declared.agg.Agg.{Agg}
use Rattle.pdw_expr.specs.declared.agg.JoinKind.{JoinKind}
use Rattle.pdw_expr.specs.declared.cond.Cond.{Cond}
use Rattle.pdw_expr.specs.declared.scalar.Scalar.{Scalar}

module _ {N : Type 0} (step : LocalTree-F N → N) where
  abbrev folded : LocalTree → N
  folded = fold-LocalTree N step

  pub fold-base : (table : List ℕ) (cols : List (ColId × ℕ)) → folded (tree.Base table cols) ≡ step (LocalTree-F.Base table cols)
  fold-base table cols = ap folded (sym (tree.rolls-Base table cols)) ∙ fold-roll-LocalTree N step (LocalTree-F.Base table cols)

  pub fold-temp : (id : ℕ) → folded (tree.Temp id) ≡ step (LocalTree-F.Temp id)
  fold-temp id = ap folded (sym (tree.rolls-Temp id)) ∙ fold-roll-LocalTree N step (LocalTree-F.Temp id)

  pub fold-filter : (conds : List Cond) (child : LocalTree) → folded (tree.Filter conds child) ≡ step (LocalTree-F.Filter conds (folded child))
  fold-filter conds child = ap folded (sym (tree.rolls-Filter conds child)) ∙ fold-roll-LocalTree N step (LocalTree-F.Filter conds child)

  pub fold-project : (items : List (ColId × Option Scalar)) (child : LocalTree) → folded (tree.Project items child) ≡ step (LocalTree-F.Project items (folded child))
  fold-project items child = ap folded (sym (tree.rolls-Project items child)) ∙ fold-roll-LocalTree N step (LocalTree-F.Project items child)

  pub fold-join : (kind : JoinKind) (conds : List Cond) (left right : LocalTree) → folded (tree.Join kind conds left right) ≡ step (LocalTree-F.Join kind conds (folded left) (folded right))
  fold-join kind conds left right = ap folded (sym (tree.rolls-Join kind conds left right)) ∙ fold-roll-LocalTree N step (LocalTree-F.Join kind conds left right)

  pub fold-group : (keys : List ColId) (aggs : List Agg) (child : LocalTree) → folded (tree.GroupBy keys aggs child) ≡ step (LocalTree-F.GroupBy keys aggs (folded child))
  fold-group keys aggs child = ap folded (sym (tree.rolls-GroupBy keys aggs child)) ∙ fold-roll-LocalTree N step (LocalTree-F.GroupBy keys aggs child)

  pub fold-partial : (keys : List ColId) (aggs : List Agg) (child : LocalTree) → folded (tree.Partial keys aggs child) ≡ step (LocalTree-F.Partial keys aggs (folded child))
  fold-partial keys aggs child = ap folded (sym (tree.rolls-Partial keys aggs child)) ∙ fold-roll-LocalTree N step (LocalTree-F.Partial keys aggs child)

  pub fold-final : (keys : List ColId) (aggs : List Agg) (child : LocalTree) → folded (tree.Final keys aggs child) ≡ step (LocalTree-F.Final keys aggs (folded child))
  fold-final keys aggs child = ap folded (sym (tree.rolls-Final keys aggs child)) ∙ fold-roll-LocalTree N step (LocalTree-F.Final keys aggs child)
