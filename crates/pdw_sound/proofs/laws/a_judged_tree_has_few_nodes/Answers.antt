use Rattle.pdw_sound.proofs.Limits.{few_scans, judged_filters, judged_groups, judged_joins, judged_leaves, judged_operators, judged_plan, judged_projections}
use Rattle.pdw_sound.proofs.laws.a_judged_tree_has_few_nodes.Goals as goal

pub returns-clause-scans : goal.returns-clause-scans
returns-clause-scans c = few_scans

pub returns-clause-filters : goal.returns-clause-filters
returns-clause-filters c = judged_filters

pub returns-clause-projections : goal.returns-clause-projections
returns-clause-projections c = judged_projections

pub returns-clause-groups : goal.returns-clause-groups
returns-clause-groups c = judged_groups

pub returns-clause-joins : goal.returns-clause-joins
returns-clause-joins c = judged_joins

pub returns-clause-leaves : goal.returns-clause-leaves
returns-clause-leaves c = judged_leaves

pub returns-clause-operators : goal.returns-clause-operators
returns-clause-operators c = judged_operators

pub returns-clause-plan : goal.returns-clause-plan
returns-clause-plan c = judged_plan
