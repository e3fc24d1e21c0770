-- What a local tree means at a node, over the node's rows of each table and of each temporary table.
use Rattle.std.specs.Prelude.{ℕ, zero, suc, List, [], map, slice_index_or}
use Rattle.pdw_algebra.specs.declared.local.LocalTree.{LocalTree}
use Rattle.pdw_algebra.specs.declared.local.LocalTree.TheOpen.{LocalTree-F}
use Rattle.pdw_algebra.specs.declared.local.LocalTree.TheFolds.{fold-LocalTree}
use Rattle.pdw_base.specs.Schema.{Env}
use Rattle.pdw_catalog.specs.Database.{Database}
use Rattle.pdw_expr.specs.Rows.{filtered, grouped, joined, projected, scanned}
use Rattle.pdw_partial.specs.Partial.{final_rows, partial_rows}

-- the rows of a temporary table; these are numbered from 1
abbrev pub temporary : List (List Env) → ℕ → List Env
temporary temps zero = []
temporary temps (suc before) = slice_index_or temps before []

module _ (database : Database) (temps : List (List Env)) where
  -- one layer of a local tree, with the rows of its children
  abbrev pub local_step : LocalTree-F (List Env) → List Env
  local_step (LocalTree-F.Base table cols) = map (scanned cols) (database.rows table)
  local_step (LocalTree-F.Temp id) = temporary temps id
  local_step (LocalTree-F.Filter conds child) = filtered conds child
  local_step (LocalTree-F.Project items child) = map (projected items) child
  local_step (LocalTree-F.Join kind conds left right) = joined kind conds left right
  local_step (LocalTree-F.GroupBy keys aggs child) = grouped keys aggs child
  local_step (LocalTree-F.Partial keys aggs child) = partial_rows keys aggs child
  local_step (LocalTree-F.Final keys aggs child) = final_rows keys aggs child

  -- the rows of a local tree
  abbrev pub local_rows : LocalTree → List Env
  local_rows = fold-LocalTree (List Env) local_step
