use Rattle.std.proofs.Common.{◌≡◌, ◌<◌, ◌+◌, ◌++◌, drop, length, reverse}
use Rattle.std.specs.List.{AllByRecursion}
use Rattle.pdw_explore.specs.Grown.{moved_blocks}
use Rattle.pdw_explore.proofs.blocks.moved_blocks.Given as goal

abbrev pub invariant-loop-level : goal.invariant-loop-level
invariant-loop-level l = record {
  all : l.moved ++ moved_blocks l.numbers (drop l.level-index l.levels) (reverse l.blocks) ≡ moved_blocks l.numbers l.levels (reverse l.initial.blocks);
  leaves : AllByRecursion (λ block. AllByRecursion (λ leaf. leaf.0 < length l.numbers) block.leaves) (reverse l.blocks);
  each : length l.blocks + l.level-index ≡ length l.levels;
}
