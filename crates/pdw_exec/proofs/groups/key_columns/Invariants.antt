use Rattle.std.proofs.Common.{◌≡◌, map, take}
use Rattle.pdw_algebra.specs.Shape.{key_column}
use Rattle.pdw_exec.proofs.groups.key_columns.Given as goal

abbrev pub invariant-loop-key : goal.invariant-loop-key
invariant-loop-key l = l.made.items ≡ map (key_column l.columns) (take l.key-index l.keys)
