use Rattle.pdw_sizes.proofs.RowsLemmas.{rows_of_meaning-le}
use Rattle.pdw_sizes.proofs.laws.reckoned_rows_are_in_range.Goals as goal

pub returns : goal.returns
returns c = rows_of_meaning-le
