use Rattle.std.proofs.Common.{◌≡◌, ◌+◌, ◌++◌, drop, length, map, true}
use Rattle.std.specs.List.{list_all}
use Rattle.serde_json.specs.View.{view}
use Rattle.pdw_planjson.specs.Limits.{has_numbers}
use Rattle.pdw_planjson.specs.Written.{count_of_all, listing, nodes_of_all, roots}
use Rattle.pdw_planjson.proofs.lines.+write.Given as goal

abbrev pub invariant-write_all-loop-plan : goal.invariant-write_all-loop-plan
invariant-write_all-loop-plan l = record {
  kids : map view l.kids.items ++ roots (length l.nodes.items) (map listing (drop l.plan-index l.plans)) ≡ roots (length l.initial.nodes.items) (map listing l.plans);
  numbers : list_all (λ numbers. numbers) (map has_numbers (drop l.plan-index l.plans)) ≡ list_all (λ numbers. numbers) (map has_numbers l.plans);
  count : length l.nodes.items + count_of_all (map listing (drop l.plan-index l.plans)) ≡ length l.initial.nodes.items + count_of_all (map listing l.plans);
  nodes : map view l.nodes.items ++ nodes_of_all (length l.nodes.items) (map listing (drop l.plan-index l.plans)) ≡ map view l.initial.nodes.items ++ nodes_of_all (length l.initial.nodes.items) (map listing l.plans);
}
