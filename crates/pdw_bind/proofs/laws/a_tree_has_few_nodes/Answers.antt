use Rattle.pdw_bind.proofs.NodesBounds.{few_filters, few_groups, few_leaves, few_projections, fewer_blocks, fewer_joins, scans_are}
use Rattle.pdw_bind.proofs.laws.a_tree_has_few_nodes.Goals as goal

pub returns-clause-scans : goal.returns-clause-scans
returns-clause-scans c = scans_are

pub returns-clause-filters : goal.returns-clause-filters
returns-clause-filters c = few_filters

pub returns-clause-projections : goal.returns-clause-projections
returns-clause-projections c = few_projections

pub returns-clause-groups : goal.returns-clause-groups
returns-clause-groups c = few_groups

pub returns-clause-joins : goal.returns-clause-joins
returns-clause-joins c = fewer_joins

pub returns-clause-blocks : goal.returns-clause-blocks
returns-clause-blocks c = fewer_blocks

pub returns-clause-leaves : goal.returns-clause-leaves
returns-clause-leaves c = few_leaves
