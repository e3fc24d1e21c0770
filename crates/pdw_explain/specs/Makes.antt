-- What a plan makes: the rows of a group under a property, whichever groups there are.
use Rattle.pdw_move.specs.Move.{property_after}
use Rattle.pdw_ways.specs.declared.made.Made.{Made}
use Rattle.pdw_ways.specs.declared.plan.Plan.{Plan}
use Rattle.pdw_ways.specs.declared.plan.Plan.TheFolds.{fold-Plan}
use Rattle.pdw_ways.specs.declared.plan.Plan.TheOpen.{Plan-F}

abbrev pub makes_step : Plan-F Made → Made
makes_step (Plan-F.Scan group prop) = record { group = group; prop = prop }
makes_step (Plan-F.Op group prop children) = record { group = group; prop = prop }
makes_step (Plan-F.Moved mv child) = record { group = child.group; prop = property_after mv }
makes_step (Plan-F.Free to child) = record { group = child.group; prop = to }

abbrev pub makes : Plan → Made
makes = fold-Plan Made makes_step
