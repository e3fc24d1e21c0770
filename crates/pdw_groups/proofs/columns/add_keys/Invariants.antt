use Rattle.std.proofs.Common.{◌≡◌, ◌++◌, take}
use Rattle.pdw_groups.proofs.columns.add_keys.Given as goal

abbrev pub invariant-loop-key : goal.invariant-loop-key
invariant-loop-key l = l.useful.items ≡ l.initial.useful.items ++ take l.key-index l.keys
