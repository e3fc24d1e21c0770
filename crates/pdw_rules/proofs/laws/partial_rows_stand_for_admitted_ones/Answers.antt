use Rattle.pdw_rules.proofs.Groups.{partial-stands}
use Rattle.pdw_rules.proofs.laws.partial_rows_stand_for_admitted_ones.Goals as goal

pub returns : goal.returns
returns c = λ n some keys aggs. partial-stands keys aggs n some
