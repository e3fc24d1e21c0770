-- The rows of a block, by those of its leaves.
use Rattle.std.proofs.Common.{◌≡◌, List, map}
use Rattle.pdw_algebra.specs.Meaning.{rows_of, rows_step}
use Rattle.pdw_algebra.specs.declared.tree.Tree.{Tree}
use Rattle.pdw_algebra.specs.declared.tree.Tree.TheOpen.{Tree-F}
use Rattle.pdw_algebra.specs.declared.tree.Tree.TheFolds.{fold-roll-Tree}
use Rattle.pdw_algebra.specs.declared.tree.Tree.TheVariants.{Block}
use Rattle.pdw_base.specs.Schema.{Env}
use Rattle.pdw_catalog.specs.Database.{Database}
use Rattle.pdw_expr.specs.Rows.{filtered, products}
use Rattle.pdw_expr.specs.declared.cond.Cond.{Cond}

pub rows-block : (database : Database) (leaves : List Tree) (conds : List Cond) → rows_of database (Block leaves conds) ≡ filtered conds (products (map (rows_of database) leaves))
unfolding Rattle.pdw_algebra.specs.declared.tree.Tree.TheViews.roll-Tree denote.Hole.Carrier.roll
rows-block database leaves conds = fold-roll-Tree (List Env) (rows_step database) (Tree-F.Block leaves conds)
