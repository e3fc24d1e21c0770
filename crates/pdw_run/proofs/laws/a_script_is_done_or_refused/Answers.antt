use Rattle.pdw_run.proofs.OneEnd.{one_end}
use Rattle.pdw_run.proofs.laws.a_script_is_done_or_refused.Goals as goal

pub returns : goal.returns
returns c = one_end
