-- What a tree means over whole tables: a list of rows that stands for a bag.
use Rattle.std.specs.Prelude.{List, map}
use Rattle.pdw_expr.specs.Rows.{filtered, grouped, joined, products, projected, scanned}
use Rattle.pdw_algebra.specs.declared.tree.Tree.{Tree}
use Rattle.pdw_algebra.specs.declared.tree.Tree.TheOpen.{Tree-F}
use Rattle.pdw_algebra.specs.declared.tree.Tree.TheFolds.{fold-Tree}
use Rattle.pdw_base.specs.Schema.{Env}
use Rattle.pdw_catalog.specs.Database.{Database}

module _ (database : Database) where
  -- one layer of a tree, with the rows of its children
  abbrev pub rows_step : Tree-F (List Env) → List Env
  rows_step (Tree-F.Scan table alias cols) = map (scanned cols) (database.rows table)
  rows_step (Tree-F.Filter conds child) = filtered conds child
  rows_step (Tree-F.Project items child) = map (projected items) child
  rows_step (Tree-F.Block leaves conds) = filtered conds (products leaves)
  rows_step (Tree-F.Join kind conds left right) = joined kind conds left right
  rows_step (Tree-F.GroupBy keys aggs child) = grouped keys aggs child

  -- the rows of a tree
  abbrev pub rows_of : Tree → List Env
  rows_of = fold-Tree (List Env) rows_step
