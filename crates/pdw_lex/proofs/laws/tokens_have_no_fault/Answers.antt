use Rattle.pdw_lex.proofs.UniqueLemmas.{tokens-faultless}
use Rattle.pdw_lex.proofs.laws.tokens_have_no_fault.Goals as goal

pub returns : goal.returns
returns c = tokens-faultless
