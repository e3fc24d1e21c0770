use Rattle.std.proofs.Common.{◌≡◌, drop, map, []}
use Rattle.serde_json.specs.View.{view}
use Rattle.pdw_planjson.specs.Bounds.{with_list}
use Rattle.pdw_planjson.specs.Stack.{run}
use Rattle.pdw_planjson.proofs.bounds.bounds_in.Given as goal

abbrev pub invariant-loop-group : goal.invariant-loop-group
invariant-loop-group l = run (λ group. with_list) 0 (map view l.values) [] ≡ run (λ group. with_list) l.group (map view (drop l.group l.values)) l.lists
