use Rattle.pdw_plan_files.proofs.OneVerdict.{one-found}
use Rattle.pdw_plan_files.proofs.laws.a_plan_file_has_one_verdict.Goals as goal

pub returns : goal.returns
returns c = one-found
