use Rattle.pdw_rules.proofs.UnaryLemmas.{project-stands}
use Rattle.pdw_rules.proofs.laws.projections_keep_properties_of_their_columns.Goals as goal

pub returns : goal.returns
returns c = project-stands
