use Rattle.pdw_names.proofs.AcceptedLaw.{accepted, accepted_names, accepted_order, held_answer, held_names, held_order}
use Rattle.pdw_names.proofs.laws.names_are_numbers.Goals as goal

pub returns-clause-held_rows : goal.returns-clause-held_rows
returns-clause-held_rows c = held_answer

pub returns-clause-held_names : goal.returns-clause-held_names
returns-clause-held_names c = held_names

pub returns-clause-held_order : goal.returns-clause-held_order
returns-clause-held_order c = held_order

pub returns-clause-rows : goal.returns-clause-rows
returns-clause-rows c = accepted

pub returns-clause-names : goal.returns-clause-names
returns-clause-names c = accepted_names

pub returns-clause-order : goal.returns-clause-order
returns-clause-order c = accepted_order
