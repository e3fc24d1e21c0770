-- Lexemes that a script can have, and tokens whose spelling says what they say.
use Rattle.std.specs.Prelude.{ℕ, List, [], ◌∷◌, ⊤}
use Rattle.std.specs.Str.{IsUtf8}
use Rattle.pdw_lex.specs.Piece.{Spells}
use Rattle.pdw_lex.specs.declared.token.Lexeme.{Lexeme}
use Rattle.pdw_ast.specs.Written.{Written}

-- some bytes spell the lexeme
pub record Valid (l : Lexeme) : Type 0 where
  pub bytes : List ℕ
  pub rest : List ℕ
  pub spells : Spells l bytes rest
  pub utf8 : IsUtf8 bytes

abbrev pub AllValid : List Lexeme → Type 0
AllValid [] = ⊤
AllValid (l ∷ ls) = Valid l × AllValid ls

-- the token's bytes spell what it says where a space follows
pub record Spelled (w : Written) : Type 0 where
  pub spells : (rest : List ℕ) → Spells w.says w.bytes (32 ∷ rest)
  pub utf8 : IsUtf8 w.bytes

abbrev pub AllSpelled : List Written → Type 0
AllSpelled [] = ⊤
AllSpelled (w ∷ ws) = Spelled w × AllSpelled ws
