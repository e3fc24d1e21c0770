use Rattle.std.proofs.Common.{◌≡◌, ◌≤◌, ◌++◌, length, drop}
use Rattle.std.specs.List.{AllByRecursion}
use Rattle.pdw_explore.specs.Levels.{leaf_counts, level_list}
use Rattle.pdw_explore.proofs.levels.levels.Given as goal

abbrev pub invariant-loop-block : goal.invariant-loop-block
invariant-loop-block l = record {
  levels : l.levels ++ level_list l.left (leaf_counts (drop l.block-index l.blocks)) ≡ level_list l.budget (leaf_counts l.blocks);
  few : AllByRecursion (λ block. length block.leaves ≤ 10) (drop l.block-index l.blocks);
}
