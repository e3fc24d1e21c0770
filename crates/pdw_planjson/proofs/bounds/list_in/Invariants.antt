use Rattle.std.proofs.Common.{◌≡◌, drop, map, []}
use Rattle.serde_json.specs.View.{view}
use Rattle.pdw_planjson.specs.Bounds.{with_bound}
use Rattle.pdw_planjson.specs.Stack.{run}
use Rattle.pdw_planjson.proofs.bounds.list_in.Given as goal

abbrev pub invariant-loop-place : goal.invariant-loop-place
invariant-loop-place l = run (λ place. with_bound) 0 (map view l.values) [] ≡ run (λ place. with_bound) l.place (map view (drop l.place l.values)) l.list
