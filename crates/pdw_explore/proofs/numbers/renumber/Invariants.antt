use Rattle.std.proofs.Common.{◌≡◌, ◌<◌, ◌++◌, drop, length, map, take}
use Rattle.std.specs.List.{AllByRecursion}
use Rattle.pdw_explore.specs.Grown.{new_number}
use Rattle.pdw_explore.proofs.numbers.renumber.Given as goal

abbrev pub invariant-loop-place : goal.invariant-loop-place
invariant-loop-place l = record {
  ids : l.ids ≡ map (new_number l.numbers) (take l.place l.initial.ids) ++ drop l.place l.initial.ids;
  range : AllByRecursion (λ id. id.0 < length l.numbers) (drop l.place l.initial.ids);
}
