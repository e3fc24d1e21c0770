use Rattle.std.proofs.Common.{Ok}
use Rattle.pdw_cert.proofs.Verdicts.{one-verdict}
use Rattle.pdw_cert.proofs.laws.a_plan_with_tight_bounds_is_accepted.Goals as goal

pub returns : goal.returns
returns c = λ groups costs plan written lists cost is verdict verdict_is. one-verdict groups costs plan written lists verdict (Ok cost) verdict_is is
