use Rattle.pdw_select.proofs.RootLemmas.{root-columns, root-some, root-within}
use Rattle.pdw_select.proofs.select.root_columns.Goals as goal

pub overflow_sub-result : goal.overflow_sub-result
overflow_sub-result c = root-some c.args.memo.now c.groups-groups.ensures.memo c.groups-groups.result.now c.groups-groups.ensures.groups

pub bounds-groups-groups : goal.bounds-groups-groups
bounds-groups-groups c = root-within c.args.memo.now c.groups-groups.ensures.memo c.groups-groups.result.now c.groups-groups.ensures.groups

pub returns : goal.returns
returns c = root-columns c.args.memo.now c.groups-groups.ensures.memo c.groups-groups.result.now c.groups-groups.ensures.groups c.index-groups-groups.result
