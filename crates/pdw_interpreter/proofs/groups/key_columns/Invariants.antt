use Rattle.std.proofs.Common.{◌≡◌, map, take}
use Rattle.pdw_interpreter.specs.Relation as spec
use Rattle.pdw_interpreter.proofs.groups.key_columns.Given as goal

abbrev pub invariant-loop-key : goal.invariant-loop-key
invariant-loop-key l = l.columns.items ≡ map spec.numbered (take l.key-index l.keys)
