use Rattle.pdw_plan_files.proofs.Accepted.{printed-accepted}
use Rattle.pdw_plan_files.proofs.laws.a_printed_plan_is_accepted.Goals as goal

pub returns : goal.returns
returns c = printed-accepted
