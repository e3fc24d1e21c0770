use Rattle.pdw_plan_files.proofs.ReadBack.{read-back}
use Rattle.pdw_plan_files.proofs.laws.a_plan_file_reads_back.Goals as goal

pub returns : goal.returns
returns c = read-back
