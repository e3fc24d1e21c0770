use Rattle.pdw_cert.proofs.Verdicts.{one-verdict}
use Rattle.pdw_cert.proofs.laws.a_plan_has_one_verdict.Goals as goal

pub returns : goal.returns
returns c = one-verdict
