use Rattle.std.proofs.Common.{◌≡◌, ◌+◌, ◌<◌, ◌^◌, map, sum, drop}
use Rattle.pdw_plan.specs.Count.{node_count}
use Rattle.pdw_plan.specs.Walk as spec
use Rattle.pdw_ways.specs.Shape.{shape_of}
use Rattle.pdw_plan.proofs.walk.+walk.Given as goal

abbrev pub invariant-walk_all-loop-plan : goal.invariant-walk_all-loop-plan
invariant-walk_all-loop-plan l = record {
  is : spec.all_walked l.below (map (shape_of l.groups spec.no_costs) (drop l.plan-index l.plans)) ≡ spec.all_walked l.initial.below (map (shape_of l.groups spec.no_costs) l.plans);
  room : l.below.next + sum (map node_count (drop l.plan-index l.plans)) < 2 ^ 32;
}
