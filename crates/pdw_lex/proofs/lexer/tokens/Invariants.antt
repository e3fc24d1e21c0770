use Rattle.std.proofs.Common.{◌-◌, length}
use Rattle.pdw_lex.proofs.ReadLemmas.{ReadTo}
use Rattle.pdw_lex.proofs.lexer.tokens.Given as goal

abbrev pub invariant-loop-at : goal.invariant-loop-at
invariant-loop-at l = ReadTo l.bytes l.at l.tokens.items

abbrev pub decreases-loop-at : goal.decreases-loop-at
decreases-loop-at l = length l.bytes - l.at
