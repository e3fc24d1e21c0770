use Rattle.pdw_file_limits.proofs.Files.{planned-file}
use Rattle.pdw_file_limits.proofs.laws.planned_files_keep_their_limits.Goals as goal

pub returns : goal.returns
returns c = planned-file
