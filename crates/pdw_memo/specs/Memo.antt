-- What a memo is: the groups and the blocks of some tree, at some levels of its blocks.
use Rattle.std.specs.Prelude.{◌≡◌, ℕ, suc, ◌+◌, ◌<◌, ◌==◌, ◌^◌, Bool, true, false, List, [], length, sum, if◌then◌else◌}
use Rattle.std.specs.List.{filter, flat_map}
use Rattle.pdw_algebra.specs.WellFormed.{IsWellFormed}
use Rattle.pdw_algebra.specs.declared.tree.Tree.{Tree}
use Rattle.pdw_algebra.specs.declared.tree.Tree.TheOpen.{Tree-F}
use Rattle.pdw_algebra.specs.declared.tree.Tree.TheFolds.{fold-Tree}
use Rattle.pdw_catalog.specs.Catalog.{Tables}
use Rattle.pdw_groups.specs.Memo.{Contents, memo_of}
use Rattle.pdw_groups.specs.declared.block.Level.{Level}
use Rattle.pdw_groups.specs.declared.group.Expr.{Expr}
use Rattle.pdw_groups.specs.declared.group.Group.{Group}
use Rattle.pdw_groups.specs.declared.key.GroupKey.{GroupKey}
use Rattle.pdw_groups.specs.declared.key.GroupKey.TheVariants as key
use Rattle.pdw_groups.specs.declared.op.Op.{Op}
use Rattle.pdw_groups.specs.declared.op.Op.TheVariants as op

-- ---- the nodes of a tree

abbrev pub count_step : Tree-F ℕ → ℕ
count_step (Tree-F.Scan table alias cols) = 1
count_step (Tree-F.Filter conds child) = suc child
count_step (Tree-F.Project items child) = suc child
count_step (Tree-F.Block leaves conds) = suc (sum leaves)
count_step (Tree-F.Join kind conds left right) = suc (left + right)
count_step (Tree-F.GroupBy keys aggs child) = suc child

-- how many nodes a tree has
abbrev pub node_count : Tree → ℕ
node_count = fold-Tree ℕ count_step

-- a tree of which a memo is made: well-formed over the tables, with fewer than 65,536 nodes
pub record IsPlannable (tables : Tables) (tree : Tree) : Type 0 where
  pub well_formed : IsWellFormed tables tree
  pub few : node_count tree < 2 ^ 16

-- the memo of some such tree, where each block has some level
pub record IsMemo (contents : Contents) : Type 0 where
  pub tables : Tables
  pub levels : ℕ → Level
  pub tree : Tree
  pub plannable : IsPlannable tables tree
  pub is : contents ≡ memo_of tables levels tree

-- ---- the joins of a block

abbrev pub is_join : Op → Bool
is_join (op.Join kind conds) = true
is_join _ = false

abbrev pub is_of_block : ℕ → GroupKey → Bool
is_of_block block (key.Part other leaves) = other == block
is_of_block block _ = false

-- the join expressions of a group, where it is one of the block
abbrev pub joins_in : ℕ → Group → List Expr
joins_in block group = if is_of_block block group.key then filter (λ expr. is_join expr.op) group.exprs else []

-- how many join expressions of a block these groups have
abbrev pub join_count : ℕ → List Group → ℕ
join_count block groups = length (flat_map (joins_in block) groups)
