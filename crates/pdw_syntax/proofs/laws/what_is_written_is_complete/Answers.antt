use Rattle.pdw_syntax.proofs.WrittenLaws.{lexed_script_is_written, written}
use Rattle.pdw_syntax.proofs.laws.what_is_written_is_complete.Goals as goal

pub returns-clause-statement : goal.returns-clause-statement
returns-clause-statement c = written

pub returns-clause-script : goal.returns-clause-script
returns-clause-script c = lexed_script_is_written
