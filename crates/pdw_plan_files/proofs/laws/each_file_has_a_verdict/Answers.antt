use Rattle.pdw_plan_files.proofs.SomeVerdict.{some-verdict}
use Rattle.pdw_plan_files.proofs.laws.each_file_has_a_verdict.Goals as goal

pub returns : goal.returns
returns c = some-verdict
