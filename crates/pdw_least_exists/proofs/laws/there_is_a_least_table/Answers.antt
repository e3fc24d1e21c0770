use Rattle.pdw_least_exists.proofs.Everywhere.{least-table}
use Rattle.pdw_least_exists.proofs.laws.there_is_a_least_table.Goals as goal

pub returns : goal.returns
returns c = λ groups costs ordered light cheap. least-table groups costs ordered light cheap
