use Rattle.std.proofs.Common.{◌≡◌, map, take}
use Rattle.serde_json.specs.View.{view}
use Rattle.pdw_planjson.specs.Written.{list_data}
use Rattle.pdw_planjson.proofs.writing.list_values.Given as goal

abbrev pub invariant-loop-list : goal.invariant-loop-list
invariant-loop-list l = map view l.values.items ≡ map list_data (take l.list-index l.lists)
