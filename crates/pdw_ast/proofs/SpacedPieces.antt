-- Well spelled tokens with spaces between them, and ` ;` behind them, lex to what they say.
use Rattle.std.proofs.Common.{◌≡◌, ℕ, ◌+◌, List, [], ◌∷◌, ◌++◌, Some, None, map, flat_map, length, codes, refl, ap, ◌∙◌, inl, append_assoc, arith}
use Rattle.std.specs.Str.{IsUtf8}
use Rattle.std.proofs.lemmas.Str.{IsUtf8-append, IsUtf8-from_ascii}
use Rattle.std.proofs.lemmas.Str.Ascii.{IsAscii-cons, IsAscii-nil}
use Rattle.pdw_lex.specs.Lexes.{ArePieces, Lexes, Piece, joined, tokens_of}
use Rattle.pdw_lex.specs.declared.sign.Sign.TheVariants.{Semicolon}
use Rattle.pdw_lex.specs.declared.token.Lexeme.TheVariants.{Sign}
use Rattle.pdw_lex.specs.declared.token.Token.{Token}
use Rattle.pdw_ast.specs.Written.{Written, sayings, spaced}
use Rattle.pdw_ast.proofs.Valid.{AllSpelled}

abbrev space : Piece
space = record { spelling = codes " "; said = None }

abbrev semicolon : Piece
semicolon = record { spelling = codes ";"; said = Some (Sign Semicolon) }

abbrev token : Written → Piece
token w = record { spelling = w.bytes; said = Some w.says }

-- each token with a space behind it, and then `;`
abbrev followed : List Written → List Piece
followed [] = semicolon ∷ []
followed (w ∷ ws) = token w ∷ space ∷ followed ws

are_pieces : (ws : List Written) → AllSpelled ws → ArePieces (followed ws) []
are_pieces [] all = ((refl, tt), tt)
are_pieces (w ∷ ws) all = (all.0.spells (joined (followed ws) ++ []), (inl (32, refl, refl), are_pieces ws all.1))

-- the same with each space before its token
spaces_before : (ws : List Written) → flat_map (λ w. codes " " ++ w.bytes) ws ++ codes " ;" ≡ 32 ∷ joined (followed ws)
spaces_before [] = refl
spaces_before (w ∷ ws) =
    ap (λ bytes. 32 ∷ bytes) (append_assoc w.bytes (flat_map (λ w. codes " " ++ w.bytes) ws) (codes " ;") ∙ ap (λ bytes. w.bytes ++ bytes) (spaces_before ws))

said_by : (at : ℕ) (ws : List Written) → map (λ t. t.lexeme) (tokens_of at (followed ws)) ≡ sayings ws ++ Sign Semicolon ∷ []
said_by at [] = refl
said_by at (w ∷ ws) = ap (λ says. w.says ∷ says) (said_by (at + length w.bytes + 1) ws)

-- how the tokens with spaces between them and ` ;` behind them lex
pub record LexesTo (ws : List Written) : Type 0 where
  pub tokens : List Token
  pub lexes : Lexes 0 (spaced ws ++ codes " ;") tokens
  pub say : map (λ t. t.lexeme) tokens ≡ sayings ws ++ Sign Semicolon ∷ []

pub spaced-lexes : (ws : List Written) → AllSpelled ws → LexesTo ws
spaced-lexes [] all = record {
  tokens = tokens_of 0 (space ∷ followed []);
  lexes = record { pieces = space ∷ followed []; spelled = refl; are = (inl (32, refl, refl), ((refl, tt), tt)); tokens_are = refl };
  say = refl;
}
spaced-lexes (w ∷ ws) all = record {
  tokens = tokens_of 0 (followed (w ∷ ws));
  lexes = record {
    pieces = followed (w ∷ ws);
    spelled = append_assoc w.bytes (flat_map (λ w. codes " " ++ w.bytes) ws) (codes " ;") ∙ ap (λ bytes. w.bytes ++ bytes) (spaces_before ws);
    are = are_pieces (w ∷ ws) all;
    tokens_are = refl;
  };
  say = said_by 0 (w ∷ ws);
}

end_utf8 : IsUtf8 (codes " ;")
end_utf8 = IsUtf8-from_ascii (codes " ;") (IsAscii-cons 32 (codes ";") (omega arith) (IsAscii-cons 59 [] (omega arith) IsAscii-nil))

behind_utf8 : (ws : List Written) → AllSpelled ws → IsUtf8 (flat_map (λ w. codes " " ++ w.bytes) ws ++ codes " ;")
behind_utf8 [] all = end_utf8
behind_utf8 (w ∷ ws) all =
    rw (append_assoc w.bytes (flat_map (λ w. codes " " ++ w.bytes) ws) (codes " ;"))
    (IsUtf8-append (codes " ") (w.bytes ++ (flat_map (λ w. codes " " ++ w.bytes) ws ++ codes " ;"))
    (IsUtf8-from_ascii (codes " ") (IsAscii-cons 32 [] (omega arith) IsAscii-nil))
    (IsUtf8-append w.bytes (flat_map (λ w. codes " " ++ w.bytes) ws ++ codes " ;") all.0.utf8 (behind_utf8 ws all.1)))

pub spaced-utf8 : (ws : List Written) → AllSpelled ws → IsUtf8 (spaced ws ++ codes " ;")
spaced-utf8 [] all = end_utf8
spaced-utf8 (w ∷ ws) all =
    rw (append_assoc w.bytes (flat_map (λ w. codes " " ++ w.bytes) ws) (codes " ;"))
    (IsUtf8-append w.bytes (flat_map (λ w. codes " " ++ w.bytes) ws ++ codes " ;") all.0.utf8 (behind_utf8 ws all.1))
