-- Trees: each operator makes equal bags of equal bags.
use Rattle.std.proofs.Common.{◌≡◌, List, [], ◌∷◌, map, fold, sym, subst, subst₂}
use Rattle.pdw_algebra.specs.Meaning.{rows_of, rows_step}
use Rattle.pdw_algebra.specs.declared.tree.Tree.TheFolds.{fold-roll-Tree, ind-Tree, map-Tree}
use Rattle.pdw_algebra.specs.declared.tree.Tree.TheOpen.{Tree-F}
use Rattle.pdw_algebra.specs.declared.tree.Tree.TheViews.{roll-Tree}
use Rattle.pdw_algebra.specs.declared.tree.Tree.{Tree}
use Rattle.pdw_bag_laws.proofs.Groups.{SameBag-grouped}
use Rattle.pdw_bag_laws.proofs.Operators.{SameBag-crossed, SameBag-joined}
use Rattle.pdw_base.proofs.SameBagLaws.{SameBag-filter, SameBag-map, SameBag-refl, SameBag-≡}
use Rattle.pdw_base.specs.SameBag.{SameBag}
use Rattle.pdw_base.specs.Schema.{Env}
use Rattle.pdw_catalog.specs.Database.{Database}
use Rattle.pdw_expr.specs.Env.{nulls, union}
use Rattle.pdw_expr.specs.Join.{crossed}
use Rattle.pdw_expr.specs.Rows.{meets, products, projected, scanned}
use Rattle.pdw_form.proofs.Related.{Related, more, none}
use Rattle.pdw_same_rows.specs.SameRows.{SameRows}

-- ---- rows side by side

products-from : {leaves others : List (List Env)} → Related SameBag leaves others → (start from : List Env) → SameBag start from → SameBag (fold (crossed union) start leaves) (fold (crossed union) from others)
products-from none start from same = same
products-from (more {x = leaf} {y = other} first rest) start from same = products-from rest (crossed union start leaf) (crossed union from other) (SameBag-crossed union same first)

-- lists of equal bags, leaf by leaf
pub same_products : {leaves others : List (List Env)} → Related SameBag leaves others → SameBag (products leaves) (products others)
same_products leaves = products-from leaves (nulls ∷ []) (nulls ∷ []) (SameBag-refl (nulls ∷ []))

-- ---- any tree

module _ (one other : Database) (same : SameRows one other) where
  abbrev Law : Tree → Type 0
  Law t = SameBag (rows_of one t) (rows_of other t)

  abbrev Known : Type 0
  Known = (t : Tree) × Law t

  abbrev known : Tree-F Known → Tree-F Tree
  known = map-Tree Known Tree (λ t. t.0)

  leaves_same : (leaves : List Known) → Related SameBag (map (rows_of one) (map (λ (t : Known). t.0) leaves)) (map (rows_of other) (map (λ (t : Known). t.0) leaves))
  leaves_same [] = none
  leaves_same (leaf ∷ leaves) = more leaf.1 (leaves_same leaves)

  layer : (y : Tree-F Known) → SameBag (rows_step one (map-Tree Tree (List Env) (rows_of one) (known y))) (rows_step other (map-Tree Tree (List Env) (rows_of other) (known y)))
  layer (Tree-F.Scan table alias cols) = SameBag-map (scanned cols) (same.rows table)
  layer (Tree-F.Filter conds child) = SameBag-filter (meets conds) child.1
  layer (Tree-F.Project items child) = SameBag-map (projected items) child.1
  layer (Tree-F.Block leaves conds) = SameBag-filter (meets conds) (same_products (leaves_same leaves))
  layer (Tree-F.Join kind conds left right) = SameBag-joined kind conds left.1 right.1
  layer (Tree-F.GroupBy keys aggs child) = SameBag-≡ (SameBag-grouped keys aggs (rows_of one child.0) (rows_of other child.0) child.1)

  tree_law : (x : Tree-F Tree) (y : Tree-F Known) → known y ≡ x → Law (roll-Tree x)
  tree_law x y is = subst (λ z. Law (roll-Tree z)) is
      (subst₂ SameBag (sym (fold-roll-Tree (List Env) (rows_step one) (known y))) (sym (fold-roll-Tree (List Env) (rows_step other) (known y))) (layer y))

  -- the rows of a tree over equal bags are equal bags
  pub same_trees : (t : Tree) → SameBag (rows_of one t) (rows_of other t)
  same_trees = ind-Tree Law tree_law
