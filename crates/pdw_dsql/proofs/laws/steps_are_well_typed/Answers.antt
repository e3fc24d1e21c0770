use Rattle.pdw_dsql.proofs.TypedSteps.{steps-typed}
use Rattle.pdw_dsql.proofs.laws.steps_are_well_typed.Goals as goal

pub returns : goal.returns
returns c = steps-typed
