-- In every memo each group has an expression.
use Rattle.std.proofs.Common.{ℕ, ◌^◌, ◌<◌, ◌≤◌, ◌≡◌, true, List, [], ◌∷◌, length, map, filter, sym, subst, arith}
use Rattle.std.specs.List.{AllByRecursion}
use Rattle.std.proofs.lemmas.List.{length-map}
use Rattle.std.proofs.lemmas.Option.{slice_get_within}
use Rattle.pdw_algebra.proofs.WellFormedParts.{sound-tree}
use Rattle.pdw_catalog.specs.Catalog.{Tables}
use Rattle.pdw_expr.specs.declared.cond.Cond.{Cond}
use Rattle.pdw_groups.proofs.PartOrder.{kept-at}
use Rattle.pdw_groups.specs.Block.{BlockLeaf, join_of, second_group, set_group}
use Rattle.pdw_groups.specs.Columns.{useful_columns}
use Rattle.pdw_groups.specs.Group.{GroupOf, kept_expr, kept_group}
use Rattle.pdw_groups.specs.Level.{below, has_set, is_left, lefts}
use Rattle.pdw_groups.specs.Memo.{Contents, at_first, groups_of}
use Rattle.pdw_groups.specs.Node.{block_leaves, node_of, passed_all}
use Rattle.pdw_groups.specs.declared.block.Level.{Level}
use Rattle.pdw_memo.proofs.Counts.{map-all}
use Rattle.pdw_memo.proofs.EachGroup.{OfOwnGroups, each-of_block, each-of_tree}
use Rattle.pdw_memo.proofs.LeftParts.{has-left}
use Rattle.pdw_memo.specs.Laws.{HasExpression}
use Rattle.pdw_memo.specs.Memo.{IsMemo}

abbrev IsSome : GroupOf → Type 0
IsSome group = 1 ≤ length group.exprs

second-some : (block place : ℕ) (leaf : BlockLeaf) (some : List Cond) → AllByRecursion IsSome (second_group block place leaf some)
second-some block place leaf [] = tt
second-some block place leaf (first ∷ rest) = (omega arith, tt)

set-some : (block : ℕ) (level : Level) (conds : List Cond) (leaves : List BlockLeaf) (first mask : ℕ) → mask < 2 ^ length leaves → has_set level mask ≡ true → IsSome (set_group block level conds leaves first mask)
set-some block level conds leaves first mask within has =
    let side = has-left level mask (length leaves) within has in
    let there = slice_get_within (map (join_of block level conds leaves first mask) (lefts level mask)) (length (filter (is_left level mask) (below side.left))) (join_of block level conds leaves first mask side.left)
    (kept-at (join_of block level conds leaves first mask) (is_left level mask) mask side.left side.less side.is) in
    omega (arith, there)

own-some : (tables : Tables) (levels : ℕ → Level) → OfOwnGroups IsSome tables levels
own-some tables levels = record {
  scan = λ number table alias cols sound. omega arith;
  filter = λ number t conds child. omega arith;
  project = λ number t items child. omega arith;
  block = λ leaves conds before parts.
      let after = passed_all before (map (node_of tables levels) leaves) in
      let sides = block_leaves tables levels (map (node_of tables levels) leaves) before in
      each-of_block IsSome after.blocks conds (second-some after.blocks) (levels after.blocks) sides after.groups
      (set-some after.blocks (levels after.blocks) conds sides after.groups);
  join = λ number t kind conds left right before sound. omega arith;
  group = λ keys aggs child before sound. (omega arith, (omega arith, tt));
}

pub memo-exprs : (contents : Contents) → IsMemo contents → AllByRecursion HasExpression contents.groups
memo-exprs contents memo =
    subst (λ (c : Contents). AllByRecursion HasExpression c.groups) (sym memo.is)
    (map-all IsSome HasExpression (kept_group (useful_columns memo.tables memo.tree)) (λ group some. let same = length-map group.exprs kept_expr in omega (arith, some, same))
    (groups_of memo.tables memo.levels memo.tree)
    (each-of_tree IsSome memo.tables memo.levels (own-some memo.tables memo.levels) memo.tree (sound-tree memo.tables memo.tree memo.plannable.well_formed) at_first))
