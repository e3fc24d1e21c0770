use Rattle.std.proofs.Common.{◌≡◌, map, take}
use Rattle.pdw_agg.specs.Made as spec
use Rattle.pdw_agg.proofs.columns.key_columns.Given as goal

abbrev pub invariant-loop-key : goal.invariant-loop-key
invariant-loop-key l = l.columns.items ≡ map spec.numbered (take l.key-index l.keys)
