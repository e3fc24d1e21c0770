use Rattle.std.proofs.Common.{◌≡◌, ◌++◌, take}
use Rattle.pdw_lex.specs.Piece.{doubled}
use Rattle.pdw_ast.proofs.print.words.push_doubled.Given as goal

abbrev pub invariant-loop-byte : goal.invariant-loop-byte
invariant-loop-byte l = l.text.items ≡ l.fn.text.items ++ doubled (take l.byte-index l.bytes)
