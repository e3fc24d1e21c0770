use Rattle.pdw_lex.proofs.UniqueLemmas.{fault-unique}
use Rattle.pdw_lex.proofs.laws.a_fault_is_unique.Goals as goal

pub returns : goal.returns
returns c = fault-unique
