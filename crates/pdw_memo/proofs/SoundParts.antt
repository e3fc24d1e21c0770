-- The children of a tree whose nodes are well-formed have well-formed nodes, and its blocks have few leaves.
use Rattle.std.proofs.Common.{◌≡◌, ℕ, ◌≤◌, ◌==◌, ◌&&◌, leb, true, not, List, map, length, Option, sym, ap, ◌∙◌}
use Rattle.std.specs.List.{list_all}
use Rattle.std.proofs.lemmas.Bool.{and_parts, leb-true}
use Rattle.std.proofs.lemmas.List.{length-map}
use Rattle.pdw_algebra.proofs.TreeFolds.{fold-block, fold-filter, fold-group, fold-join, fold-project}
use Rattle.pdw_algebra.specs.Shape.{Shape, is_empty, leaves_fit, shape_of, shape_step}
use Rattle.pdw_algebra.specs.declared.tree.TheConstants.{MOST_LEAVES}
use Rattle.pdw_algebra.specs.declared.tree.Tree.{Tree}
use Rattle.pdw_algebra.specs.declared.tree.Tree.TheVariants as tree
use Rattle.pdw_base.specs.declared.schema.ColId.{ColId}
use Rattle.pdw_catalog.specs.Catalog.{Tables}
use Rattle.pdw_expr.specs.declared.agg.Agg.{Agg}
use Rattle.pdw_expr.specs.declared.agg.JoinKind.{JoinKind}
use Rattle.pdw_expr.specs.declared.cond.Cond.{Cond}
use Rattle.pdw_expr.specs.declared.scalar.Scalar.{Scalar}

abbrev sound_of : Shape → Type 0
sound_of shape = shape.sound ≡ true

module _ (tables : Tables) where
  pub filter-child : (conds : List Cond) (child : Tree) → (shape_of tables (tree.Filter conds child)).sound ≡ true → (shape_of tables child).sound ≡ true
  filter-child conds child sound = (and_parts (shape_of tables child).sound _ (ap (λ (shape : Shape). shape.sound) (sym (fold-filter (shape_step tables) conds child)) ∙ sound)).0

  pub project-child : (items : List (ColId × Option Scalar)) (child : Tree) → (shape_of tables (tree.Project items child)).sound ≡ true → (shape_of tables child).sound ≡ true
  project-child items child sound = (and_parts (shape_of tables child).sound _ (ap (λ (shape : Shape). shape.sound) (sym (fold-project (shape_step tables) items child)) ∙ sound)).0

  pub join-children : (kind : JoinKind) (conds : List Cond) (left right : Tree) → (shape_of tables (tree.Join kind conds left right)).sound ≡ true
      → ((shape_of tables left).sound ≡ true) × ((shape_of tables right).sound ≡ true)
  join-children kind conds left right sound =
      and_parts (shape_of tables left).sound (shape_of tables right).sound
      (and_parts ((shape_of tables left).sound && (shape_of tables right).sound) _ (ap (λ (shape : Shape). shape.sound) (sym (fold-join (shape_step tables) kind conds left right)) ∙ sound)).0

  pub group-child : (keys : List ColId) (aggs : List Agg) (child : Tree) → (shape_of tables (tree.GroupBy keys aggs child)).sound ≡ true → (shape_of tables child).sound ≡ true
  group-child keys aggs child sound = (and_parts (shape_of tables child).sound _ (ap (λ (shape : Shape). shape.sound) (sym (fold-group (shape_step tables) keys aggs child)) ∙ sound)).0

  pub block-parts : (leaves : List Tree) (conds : List Cond) → (shape_of tables (tree.Block leaves conds)).sound ≡ true
      → (list_all (λ leaf. leaf.sound) (map (shape_of tables) leaves) ≡ true) × (leaves_fit (length leaves) conds ≡ true)
  block-parts leaves conds sound =
      let all = and_parts (list_all (λ (leaf : Shape). leaf.sound) (map (shape_of tables) leaves)) _ (ap (λ (shape : Shape). shape.sound) (sym (fold-block (shape_step tables) leaves conds)) ∙ sound) in
      let fits = and_parts (leaves_fit (length (map (shape_of tables) leaves)) conds) _ all.1 in
      (all.0, ap (λ n. leaves_fit n conds) (sym (length-map leaves (shape_of tables))) ∙ fits.0)

pub few-leaves : (count : ℕ) (conds : List Cond) → leaves_fit count conds ≡ true → count ≤ 10
few-leaves count conds fits =
    let rest = and_parts (leb 1 count) (leb count MOST_LEAVES && not ((count == 1) && is_empty conds)) fits in
    leb-true count MOST_LEAVES (and_parts (leb count MOST_LEAVES) (not ((count == 1) && is_empty conds)) rest.1).0
