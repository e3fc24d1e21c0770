-- The lexemes of a script's tokens are valid.
use Rattle.std.proofs.Common.{◌≡◌, ℕ, ◌+◌, ◌<◌, ◌≤◌, Bool, true, true≢false, List, [], ◌∷◌, ◌++◌, Option, Some, None, inl, inr, length, map, refl, sym, ◌∙◌, ap, subst, append_assoc, append-nil, arith, length-append}
use Rattle.std.specs.Char.{is_ascii_digit}
use Rattle.std.specs.Str.{IsUtf8}
use Rattle.std.proofs.Math.Seq.{take-append_seam, drop-append_seam}
use Rattle.std.proofs.lemmas.Str.{IsCharBoundary-at_seam, IsUtf8-take}
use Rattle.pdw_lex.specs.Bytes.{begins_with, is_letter}
use Rattle.pdw_lex.specs.Lexes.{ArePieces, Lexes, Piece, joined, token_at, tokens_of}
use Rattle.pdw_lex.specs.Piece.{IsPiece}
use Rattle.pdw_lex.specs.Sign.{sign_text}
use Rattle.pdw_lex.specs.declared.sign.Sign.{Sign}
use Rattle.pdw_lex.specs.declared.sign.Sign.TheVariants as s
use Rattle.pdw_lex.specs.declared.token.Lexeme.{Lexeme}
use Rattle.pdw_lex.specs.declared.token.Lexeme.TheVariants as lexeme
use Rattle.pdw_lex.specs.declared.token.Token.{Token}
use Rattle.pdw_lex.proofs.PieceLemmas.{piece_in_front}
use Rattle.pdw_lex.proofs.Utf8Lemmas.{past_front}
use Rattle.pdw_ast.proofs.Valid.{Valid, AllValid}

begun_some : (test : ℕ → Bool) (bytes : List ℕ) → begins_with test bytes ≡ true → 0 < length bytes
begun_some test [] e = absurd (true≢false (sym e))
begun_some test (b ∷ bs) e = omega arith

sign_some : (t : Sign) → 0 < length (sign_text t)
sign_some s.ParenOpen = omega arith
sign_some s.ParenClose = omega arith
sign_some s.Comma = omega arith
sign_some s.Semicolon = omega arith
sign_some s.Dot = omega arith
sign_some s.Star = omega arith
sign_some s.Plus = omega arith
sign_some s.Minus = omega arith
sign_some s.Slash = omega arith
sign_some s.Percent = omega arith
sign_some s.Equal = omega arith
sign_some s.NotEqual = omega arith
sign_some s.Less = omega arith
sign_some s.LessEqual = omega arith
sign_some s.Greater = omega arith
sign_some s.GreaterEqual = omega arith

piece_some : (said : Option Lexeme) (bytes rest : List ℕ) → IsPiece said bytes rest → 0 < length bytes
piece_some None bytes rest (inl (b, is, e)) = omega (arith, ap length is)
piece_some None bytes rest (inr comment) = omega (arith, ap length comment.spelled)
piece_some (Some (lexeme.Name name)) bytes rest (word, is, none) = begun_some is_letter bytes word.begins
piece_some (Some (lexeme.Key keyword)) bytes rest (word, is) = begun_some is_letter bytes word.begins
piece_some (Some (lexeme.Number n)) bytes rest (digits, is, fits) = begun_some is_ascii_digit bytes digits.begins
piece_some (Some (lexeme.Text text)) bytes rest (is, ends, short) = omega (arith, ap length is)
piece_some (Some (lexeme.Sign t)) bytes rest (is, ends) = omega (arith, ap length is, sign_some t)

-- what follows a piece
rest_utf8 : (said : Option Lexeme) (bytes rest : List ℕ) → IsPiece said bytes rest → IsUtf8 (bytes ++ rest) → IsUtf8 rest
rest_utf8 said bytes rest piece utf8 =
    let within : length bytes ≤ length (bytes ++ rest) = omega (arith, length-append bytes rest) in
    let begins = piece_in_front said (bytes ++ rest) bytes rest (length bytes) refl refl (piece_some said bytes rest piece) within piece in
    subst IsUtf8 (drop-append_seam bytes rest) (past_front (bytes ++ rest) said (length bytes) begins utf8)

front_utf8 : (front rest : List ℕ) → IsUtf8 (front ++ rest) → IsUtf8 rest → IsUtf8 front
front_utf8 front rest utf8 after =
    subst IsUtf8 (take-append_seam front rest) (IsUtf8-take (front ++ rest) (length front) utf8 (IsCharBoundary-at_seam (front ++ rest) front rest refl after))

with_token : (from to : ℕ) (said : Option Lexeme) (tokens : List Token) → ((l : Lexeme) → said ≡ Some l → Valid l) → AllValid (map (λ t. t.lexeme) tokens)
    → AllValid (map (λ t. t.lexeme) (token_at from to said ++ tokens))
with_token from to None tokens valid all = all
with_token from to (Some l) tokens valid all = (valid l refl, all)

pieces_valid : (at : ℕ) (ps : List Piece) (rest : List ℕ) → ArePieces ps rest → IsUtf8 (joined ps ++ rest) → AllValid (map (λ t. t.lexeme) (tokens_of at ps))
pieces_valid at [] rest are utf8 = tt
pieces_valid at (p ∷ ps) rest are utf8 =
    let whole = subst IsUtf8 (append_assoc p.spelling (joined ps) rest) utf8 in
    let after = rest_utf8 p.said p.spelling (joined ps ++ rest) are.0 whole in
    with_token at (at + length p.spelling) p.said (tokens_of (at + length p.spelling) ps)
    (λ l e. record {
      bytes = p.spelling;
      rest = joined ps ++ rest;
      spells = subst (λ said. IsPiece said p.spelling (joined ps ++ rest)) e are.0;
      utf8 = front_utf8 p.spelling (joined ps ++ rest) whole after;
    })
    (pieces_valid (at + length p.spelling) ps rest are.1 after)

pub lexemes_valid : (bytes : List ℕ) (tokens : List Token) → Lexes 0 bytes tokens → IsUtf8 bytes → AllValid (map (λ t. t.lexeme) tokens)
lexemes_valid bytes tokens lexes utf8 =
    let all = pieces_valid 0 lexes.pieces [] lexes.are (subst IsUtf8 (lexes.spelled ∙ sym (append-nil _)) utf8) in
    subst (λ (ts : List Token). AllValid (map (λ t. t.lexeme) ts)) (sym lexes.tokens_are) all
