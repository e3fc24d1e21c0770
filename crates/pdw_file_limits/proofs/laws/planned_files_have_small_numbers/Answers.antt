use Rattle.pdw_file_limits.proofs.SmallNumbers.{planned-numbers}
use Rattle.pdw_file_limits.proofs.laws.planned_files_have_small_numbers.Goals as goal

pub returns : goal.returns
returns c = planned-numbers
