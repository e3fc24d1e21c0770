use Rattle.pdw_reading.proofs.FaultLemmas.{one_fault}
use Rattle.pdw_reading.proofs.laws.a_fault_is_unique.Goals as goal

pub returns : goal.returns
returns c = one_fault
