-- What a local tree gives over equal bags.
use Rattle.std.proofs.Common.{ℕ, zero, suc, List, [], ◌∷◌, slice_index_or, sym, subst, subst₂}
use Rattle.pdw_algebra.specs.Local.{local_rows, local_step, temporary}
use Rattle.pdw_algebra.specs.declared.local.LocalTree.TheFolds.{fold-roll-LocalTree, ind-LocalTree, map-LocalTree}
use Rattle.pdw_algebra.specs.declared.local.LocalTree.TheOpen.{LocalTree-F}
use Rattle.pdw_algebra.specs.declared.local.LocalTree.TheViews.{roll-LocalTree}
use Rattle.pdw_algebra.specs.declared.local.LocalTree.{LocalTree}
use Rattle.pdw_bag_laws.proofs.Groups.{SameBag-grouped}
use Rattle.pdw_bag_laws.proofs.Operators.{SameBag-joined}
use Rattle.pdw_base.proofs.SameBagLaws.{SameBag-filter, SameBag-map, SameBag-refl, SameBag-≡}
use Rattle.pdw_base.specs.SameBag.{SameBag}
use Rattle.pdw_base.specs.Schema.{Columns, Env, cell}
use Rattle.pdw_base.specs.declared.node.Node.{Node}
use Rattle.pdw_catalog.specs.Database.{Database}
use Rattle.pdw_exec.specs.Nodes.{SameTemporaries, temporaries}
use Rattle.pdw_expr.specs.Rows.{meets, projected, scanned}
use Rattle.pdw_move.specs.declared.placed.Placed.{Placed}
use Rattle.pdw_partial.proofs.Groups.{SameBag-final_rows, SameBag-partial_rows}

module _ (database other : Database) (temps others : List (List Env)) (tables : (name : List ℕ) → SameBag (database.rows name) (other.rows name))
    (temporaries_too : (id : ℕ) → SameBag (temporary temps id) (temporary others id)) where
  abbrev first : LocalTree → List Env
  first = local_rows database temps

  abbrev second : LocalTree → List Env
  second = local_rows other others

  abbrev Same : LocalTree → Type 0
  Same tree = SameBag (first tree) (second tree)

  abbrev Known : Type 0
  Known = (tree : LocalTree) × Same tree

  abbrev known : LocalTree-F Known → LocalTree-F LocalTree
  known = map-LocalTree Known LocalTree (λ tree. tree.0)

  layer : (y : LocalTree-F Known)
      → SameBag (local_step database temps (map-LocalTree LocalTree (List Env) first (known y))) (local_step other others (map-LocalTree LocalTree (List Env) second (known y)))
  layer (LocalTree-F.Base table cols) = SameBag-map (scanned cols) (tables table)
  layer (LocalTree-F.Temp id) = temporaries_too id
  layer (LocalTree-F.Filter conds child) = SameBag-filter (meets conds) child.1
  layer (LocalTree-F.Project items child) = SameBag-map (projected items) child.1
  layer (LocalTree-F.Join kind conds left right) = SameBag-joined kind conds left.1 right.1
  layer (LocalTree-F.GroupBy keys aggs child) = SameBag-≡ (SameBag-grouped keys aggs _ _ child.1)
  layer (LocalTree-F.Partial keys aggs child) = SameBag-≡ (SameBag-partial_rows keys aggs _ _ child.1)
  layer (LocalTree-F.Final keys aggs child) = SameBag-≡ (SameBag-final_rows keys aggs _ _ child.1)

  pub same-trees : (tree : LocalTree) → Same tree
  same-trees = ind-LocalTree Same (λ x y is. subst (λ z. Same (roll-LocalTree z)) is
      (subst₂ (λ xs ys. SameBag xs ys) (sym (fold-roll-LocalTree (List Env) (local_step database temps) (known y))) (sym (fold-roll-LocalTree (List Env) (local_step other others) (known y))) (layer y)))

module _ (node : Node) where
  same-at : (temps others : List Placed) → SameTemporaries temps others → (schemas : List Columns) (place : ℕ)
      → SameBag (slice_index_or (temporaries temps schemas node) place []) (slice_index_or (temporaries others schemas node) place [])
  same-at [] [] same schemas place = SameBag-refl []
  same-at [] (other ∷ others) same schemas place = absurd same
  same-at (temp ∷ temps) [] same schemas place = absurd same
  same-at (temp ∷ temps) (other ∷ others) same [] place = SameBag-refl []
  same-at (temp ∷ temps) (other ∷ others) same (schema ∷ schemas) zero = SameBag-map (cell schema) (same.0 node)
  same-at (temp ∷ temps) (other ∷ others) same (schema ∷ schemas) (suc place) = same-at temps others same.1 schemas place

  pub same-temporaries : (temps others : List Placed) → SameTemporaries temps others → (schemas : List Columns) (id : ℕ)
      → SameBag (temporary (temporaries temps schemas node) id) (temporary (temporaries others schemas node) id)
  same-temporaries temps others same schemas zero = SameBag-refl []
  same-temporaries temps others same schemas (suc before) = same-at temps others same schemas before
