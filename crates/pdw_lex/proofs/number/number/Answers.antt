use Rattle.std.proofs.Common.{refl, arith}
use Rattle.std.specs.Char.{is_ascii_digit}
use Rattle.std.proofs.lemmas.Int.{ints}
use Rattle.pdw_lex.proofs.PieceLemmas.{big_number, number_piece}
use Rattle.pdw_lex.proofs.Runs.{run_all}
use Rattle.pdw_lex.proofs.number.number.Goals as goal

pub value-requires : goal.value-requires
value-requires c = rw c.digit_count-length.ensures (run_all is_ascii_digit c.args.left.now)

pub returns-in-Some-clause-piece : goal.returns-in-Some-clause-piece
returns-in-Some-clause-piece c =
    number_piece _ _ _ _ _ c.digit_count-length.ensures c.requires c.in-Some.ensures.0 (omega (arith, ints, c.in-Some.ensures.0, c.in-Some.ensures.1)) c.token.ensures.lexeme c.token.ensures.length

pub returns-in-None-clause-fault : goal.returns-in-None-clause-fault
returns-in-None-clause-fault c = (refl, big_number _ _ c.digit_count-length.ensures c.requires c.in-None.ensures)
