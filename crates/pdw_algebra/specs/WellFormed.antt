-- Well-formed trees.
use Rattle.std.specs.Prelude.{◌≡◌, ◌≢◌, true, AllPairs}
use Rattle.pdw_algebra.specs.Shape.{shape_of}
use Rattle.pdw_algebra.specs.declared.tree.Tree.{Tree}
use Rattle.pdw_catalog.specs.Catalog.{Tables}

-- each node is well-formed by itself, and no number is made at two places
pub record IsWellFormed (tables : Tables) (tree : Tree) : Type 0 where
  pub nodes : (shape_of tables tree).sound ≡ true
  pub made : AllPairs (λ a b. a.0 ≢ b.0) (shape_of tables tree).made
