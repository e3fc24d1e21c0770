-- That there are least costs.
use Rattle.std.specs.Prelude.{◌<◌, ℕ, List, Option}
use Rattle.pdw_groups.specs.declared.group.Group.{Group}
use Rattle.pdw_groups.specs.declared.key.GroupId.{GroupId}
use Rattle.pdw_least.specs.Table.{IsLeastTable}
use Rattle.pdw_least.specs.declared.entry.Entry.{Entry}
use Rattle.pdw_move.specs.declared.kinds.Move.{Move}
use Rattle.pdw_ways.specs.Costing.{most_of_a_move}
use Rattle.pdw_ways.specs.Ways.{Costs}

-- each move of each group costs less than moves can cost
abbrev pub AreCheap : Costs → Type 0
AreCheap costs = (group : GroupId) (move : Move) → costs group move < most_of_a_move

-- there are least costs for all groups and properties, with a log that gives a plan for each
pub record HasLeastTable (groups : List Group) (costs : Costs) : Type 0 where
  pub lists : List (List (Option ℕ))
  pub log : List Entry
  pub is : IsLeastTable groups costs lists log
