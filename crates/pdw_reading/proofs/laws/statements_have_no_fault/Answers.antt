use Rattle.pdw_reading.proofs.FaultLemmas.{no_fault}
use Rattle.pdw_reading.proofs.laws.statements_have_no_fault.Goals as goal

pub returns : goal.returns
returns c = no_fault
