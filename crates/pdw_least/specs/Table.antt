-- A table of least costs.
use Rattle.std.specs.Prelude.{◌≡◌, ℕ, List, Option}
use Rattle.pdw_groups.specs.declared.group.Group.{Group}
use Rattle.pdw_ways.specs.Bounds.{AreLeast, AreValid, HaveShape, bound_in}
use Rattle.pdw_ways.specs.Ways.{Costs}
use Rattle.pdw_ways.specs.declared.made.Made.{Made}
use Rattle.pdw_least.specs.Log.{IsLog, bounds_after}
use Rattle.pdw_least.specs.Premises.{AreWithin}
use Rattle.pdw_least.specs.declared.entry.Entry.{Entry}

-- one bound for each group and property; the bounds are valid, and the least costs of plans; the log gives each of them
pub record IsLeastTable (groups : List Group) (costs : Costs) (lists : List (List (Option ℕ))) (log : List Entry) : Type 0 where
  pub shape : HaveShape groups lists
  pub valid : AreValid groups costs (bound_in groups lists)
  pub least : AreLeast groups costs (bound_in groups lists)
  pub is_log : IsLog groups costs log
  pub kept : (made : Made) → bound_in groups lists made ≡ bounds_after log made
  pub within : AreWithin groups (bound_in groups lists)
