-- The tokens of a script.
use Rattle.std.specs.Prelude.{◌≡◌, ℕ, ◌+◌, List, [], ◌∷◌, ◌++◌, Option, Some, None, length, ⊤}
use Rattle.pdw_lex.specs.Piece.{IsPiece}
use Rattle.pdw_lex.specs.declared.token.Lexeme.{Lexeme}
use Rattle.pdw_lex.specs.declared.token.Token.{Token}

-- a piece: its bytes, and its lexeme where it is a token
pub record Piece : Type 0 where
  pub spelling : List ℕ
  pub said : Option Lexeme

abbrev pub joined : List Piece → List ℕ
joined [] = []
joined (p ∷ ps) = p.spelling ++ joined ps

-- the bytes of each are a piece, where the others and then this follow
abbrev pub ArePieces : List Piece → List ℕ → Type 0
ArePieces [] rest = ⊤
ArePieces (p ∷ ps) rest = IsPiece p.said p.spelling (joined ps ++ rest) × ArePieces ps rest

abbrev pub token_at : ℕ → ℕ → Option Lexeme → List Token
token_at from to None = []
token_at from to (Some said) = record { lexeme = said; from = from; to = to } ∷ []

-- the tokens among pieces of which the first stands at this place
abbrev pub tokens_of : ℕ → List Piece → List Token
tokens_of at [] = []
tokens_of at (p ∷ ps) = token_at at (at + length p.spelling) p.said ++ tokens_of (at + length p.spelling) ps

-- the bytes, which stand at this place of a script, are pieces, and these are the tokens among them
pub record Lexes (at : ℕ) (bytes : List ℕ) (tokens : List Token) : Type 0 where
  pub pieces : List Piece
  pub spelled : bytes ≡ joined pieces
  pub are : ArePieces pieces []
  pub tokens_are : tokens ≡ tokens_of at pieces
