-- Useful columns of blocks, joins and groupings, by their parts.
use Rattle.std.proofs.Common.{◌≡◌, ◌++◌, List, Result, Ok, Err, ap, append_assoc, ◌∙◌}
use Rattle.std.specs.List.{flat_map}
use Rattle.std.specs.Prelude.{OnOk}
use Rattle.std.proofs.lemmas.List.Folds.{flat_map-map}
use Rattle.pdw_algebra.proofs.TreeFolds.{fold-block, fold-group, fold-join}
use Rattle.pdw_algebra.specs.declared.tree.Tree.{Tree}
use Rattle.pdw_algebra.specs.declared.tree.Tree.TheVariants as tree
use Rattle.pdw_base.specs.declared.schema.ColId.{ColId}
use Rattle.pdw_catalog.specs.Catalog.{Tables}
use Rattle.pdw_expr.specs.declared.agg.Agg.{Agg}
use Rattle.pdw_expr.specs.declared.agg.JoinKind.{JoinKind}
use Rattle.pdw_expr.specs.declared.cond.Cond.{Cond}
use Rattle.pdw_groups.specs.Columns.{equated, useful_columns, useful_step}

pub OnOk-map : {T E P Q : Type 0} (r : Result T E) → (P → Q) → OnOk r P → OnOk r Q
OnOk-map (Ok x) f holds = f holds
OnOk-map (Err e) f holds = tt

-- three lists one after the other
pub joined : {X : Type 0} (start a b c : List X) {first second third : List X} → first ≡ start ++ a → second ≡ first ++ b → third ≡ second ++ c → third ≡ start ++ ((a ++ b) ++ c)
joined start a b c one two three =
    three ∙ ap (λ xs. xs ++ c) (two ∙ ap (λ xs. xs ++ b) one ∙ append_assoc start a b) ∙ append_assoc start (a ++ b) c

module _ (tables : Tables) where
  pub useful-block : (leaves : List Tree) (conds : List Cond) → useful_columns tables (tree.Block leaves conds) ≡ flat_map (useful_columns tables) leaves ++ equated conds
  useful-block leaves conds = fold-block (useful_step tables) leaves conds ∙ ap (λ some. some ++ equated conds) (flat_map-map (λ leaf. leaf) (useful_columns tables) leaves)

  pub useful-join : (kind : JoinKind) (conds : List Cond) (left right : Tree)
      → useful_columns tables (tree.Join kind conds left right) ≡ (useful_columns tables left ++ useful_columns tables right) ++ equated conds
  useful-join kind conds left right = fold-join (useful_step tables) kind conds left right

  pub useful-group : (keys : List ColId) (aggs : List Agg) (child : Tree) → useful_columns tables (tree.GroupBy keys aggs child) ≡ useful_columns tables child ++ keys
  useful-group keys aggs child = fold-group (useful_step tables) keys aggs child
