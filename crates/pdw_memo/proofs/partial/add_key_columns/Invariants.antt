use Rattle.std.proofs.Common.{◌≡◌, ◌++◌, map, take}
use Rattle.pdw_algebra.specs.Shape.{key_column}
use Rattle.pdw_memo.proofs.partial.add_key_columns.Given as goal

abbrev pub invariant-loop-key : goal.invariant-loop-key
invariant-loop-key l = l.columns.items ≡ l.initial.columns.items ++ map (key_column l.input) (take l.key-index l.keys)
