use Rattle.pdw_run.proofs.ReadingLemmas.{IsScript-faultless, IsScript-unique, IsTextFault-unique}
use Rattle.pdw_run.proofs.laws.a_script_says_one_thing.Goals as goal

pub returns : goal.returns
returns c = record { statements = IsScript-unique; line = IsTextFault-unique; either = IsScript-faultless }
