use Rattle.pdw_lex.proofs.UniqueLemmas.{tokens-unique}
use Rattle.pdw_lex.proofs.laws.tokens_are_unique.Goals as goal

pub returns : goal.returns
returns c = tokens-unique
