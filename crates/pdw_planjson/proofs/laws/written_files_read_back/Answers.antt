use Rattle.pdw_planjson.proofs.AnswerBack.{answer-back}
use Rattle.pdw_planjson.proofs.laws.written_files_read_back.Goals as goal

pub returns : goal.returns
returns c = answer-back
