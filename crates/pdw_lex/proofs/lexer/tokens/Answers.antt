use Rattle.std.proofs.Common.{refl}
use Rattle.pdw_lex.proofs.ReadLemmas.{read_more, rest_whole}
use Rattle.pdw_lex.proofs.lexer.tokens.Goals as goal

pub loop-at-preserved : goal.loop-at-preserved
loop-at-preserved c =
    rw c.in_ok-keep_token.ensures.kept
    (read_more _ _ _ _ _ _ c.loop-at.invariant (rw (rest_whole c.args.bytes.now c.loop-at.at) at c.in_ok-piece.ensures.piece) refl)
