use Rattle.std.proofs.Common.{arith, ap, length}
use Rattle.std.proofs.lemmas.List.Sums.{prefix_len-le-length}
use Rattle.pdw_lex.specs.Bytes.{is_in_line}
use Rattle.pdw_lex.proofs.PieceLemmas.{comment_piece}
use Rattle.pdw_lex.proofs.piece.comment_or_sign.Goals as goal

pub overflow_add-line_length : goal.overflow_add-line_length
overflow_add-line_length c =
    let long = ap length c.in-Some.ensures in
    let within = prefix_len-le-length is_in_line c.in-Some.line.now in
    omega arith

pub returns-in-Some : goal.returns-in-Some
returns-in-Some c = comment_piece _ _ _ _ _ c.in-Some.ensures c.line_length.ensures c.blank.ensures.lexeme c.blank.ensures.length
