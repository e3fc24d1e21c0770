use Rattle.pdw_partial.proofs.Groups.{SameBag-final_rows, SameBag-partial_rows}
use Rattle.pdw_partial.proofs.laws.partial_and_final_rows_see_no_order.Goals as goal

pub returns-clause-partial_rows : goal.returns-clause-partial_rows
returns-clause-partial_rows c = SameBag-partial_rows

pub returns-clause-final_rows : goal.returns-clause-final_rows
returns-clause-final_rows c = SameBag-final_rows
