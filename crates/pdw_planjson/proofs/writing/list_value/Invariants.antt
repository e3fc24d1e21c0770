use Rattle.std.proofs.Common.{◌≡◌, map, take}
use Rattle.serde_json.specs.View.{view}
use Rattle.pdw_planjson.specs.Written.{bound_data}
use Rattle.pdw_planjson.proofs.writing.list_value.Given as goal

abbrev pub invariant-loop-bound : goal.invariant-loop-bound
invariant-loop-bound l = map view l.values.items ≡ map bound_data (take l.bound-index l.bounds)
