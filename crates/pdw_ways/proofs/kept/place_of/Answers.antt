use Rattle.pdw_rules.specs.Rules.{is_same, properties_of}
use Rattle.pdw_ways.proofs.Places.{found-within}
use Rattle.pdw_ways.proofs.kept.place_of.Goals as goal

pub returns-clause-within : goal.returns-clause-within
returns-clause-within c = found-within (is_same c.args.property) (properties_of c.args.interesting.now) c.place_by_kind.result c.place_by_kind.ensures
