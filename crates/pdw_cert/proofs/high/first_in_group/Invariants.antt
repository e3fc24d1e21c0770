use Rattle.std.proofs.Common.{drop}
use Rattle.pdw_ways.specs.Bounds.{bound_in}
use Rattle.pdw_ways.specs.Costing.{AgreeAt, adds_by}
use Rattle.pdw_ways.specs.Ways.{Costs}
use Rattle.pdw_cert.specs.TooHigh.{made_at}
use Rattle.pdw_cert.proofs.Searches.{FoundFrom}
use Rattle.pdw_cert.proofs.high.first_in_group.Given as goal

-- what is found from here on is the first of all
abbrev pub invariant-loop-place : goal.invariant-loop-place
invariant-loop-place l = (costs : Costs) → AgreeAt costs l.number (adds_by l.reckoning.n l.reckoning.constants.now l.reckoning.flow)
    → FoundFrom l.kept.groups.now costs (bound_in l.kept.groups.now l.kept.lists.now) (drop l.place (made_at l.number l.group)) (made_at l.number l.group)
