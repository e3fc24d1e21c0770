use Rattle.std.proofs.Common.{◌≡◌, drop, map, reverse}
use Rattle.serde_json.specs.View.{view}
use Rattle.pdw_planjson.specs.Stack.{added, run}
use Rattle.pdw_planjson.proofs.nodes.add_all.Given as goal

abbrev pub invariant-loop-number : goal.invariant-loop-number
invariant-loop-number l = run added 0 (map view l.values) (reverse l.initial.stack) ≡ run added l.number (map view (drop l.number l.values)) (reverse l.stack)
