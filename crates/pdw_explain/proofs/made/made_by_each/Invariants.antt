use Rattle.std.proofs.Common.{◌≡◌, map, take}
use Rattle.pdw_explain.specs.Makes.{makes}
use Rattle.pdw_explain.proofs.made.made_by_each.Given as goal

abbrev pub invariant-loop-plan : goal.invariant-loop-plan
invariant-loop-plan l = l.made.items ≡ map makes (take l.plan-index l.plans)
