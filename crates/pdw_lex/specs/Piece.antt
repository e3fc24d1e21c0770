-- The pieces of a script: tokens, and what separates them.
use Rattle.std.specs.Prelude.{◌≡◌, ℕ, ◌<◌, ◌≤◌, ◌^◌, pos, true, false, ◌⊎◌, List, [], ◌∷◌, ◌++◌, Option, Some, None, length, take, drop, codes, flat_map, if◌then◌else◌}
use Rattle.std.specs.Char.{is_ascii_digit}
use Rattle.std.specs.List.{list_all}
use Rattle.std.specs.Str.{str_to_ascii_lowercase}
use Rattle.std.specs.Str.Parse.{digits_value}
use Rattle.pdw_lex.specs.Bytes.{begins_with, is_in_line, is_letter, is_quote, is_separator, is_word_byte}
use Rattle.pdw_lex.specs.Keyword.{keyword_of}
use Rattle.pdw_lex.specs.Sign.{SignEnds, sign_text}
use Rattle.pdw_base.specs.declared.limits.TheConstants.{MOST_TEXT_BYTES}
use Rattle.pdw_lex.specs.declared.token.Lexeme.{Lexeme}
use Rattle.pdw_lex.specs.declared.token.Lexeme.TheVariants as lexeme

-- a letter or an underscore, then letters, digits and underscores, and no such byte follows
pub record IsWord (word rest : List ℕ) : Type 0 where
  pub begins : begins_with is_letter word ≡ true
  pub bytes : list_all is_word_byte word ≡ true
  pub ends : begins_with is_word_byte rest ≡ false

-- digits, and no digit follows
pub record AreDigits (digits rest : List ℕ) : Type 0 where
  pub begins : begins_with is_ascii_digit digits ≡ true
  pub bytes : list_all is_ascii_digit digits ≡ true
  pub ends : begins_with is_ascii_digit rest ≡ false

-- `--` and all bytes up to a line feed or the end
pub record IsComment (comment rest : List ℕ) : Type 0 where
  pub line : List ℕ
  pub spelled : comment ≡ codes "--" ++ line
  pub bytes : list_all is_in_line line ≡ true
  pub ends : begins_with is_in_line rest ≡ false

-- each quote of a text is written twice
abbrev pub doubled : List ℕ → List ℕ
doubled = flat_map (λ b. if is_quote b then b ∷ b ∷ [] else b ∷ [])

-- a text in its quotes
abbrev pub quoted : List ℕ → List ℕ
quoted text = codes "'" ++ (doubled text ++ codes "'")

-- the bytes spell the lexeme where this follows
abbrev pub Spells : Lexeme → List ℕ → List ℕ → Type 0
Spells (lexeme.Name name) bytes rest = IsWord bytes rest × (name ≡ str_to_ascii_lowercase bytes) × (keyword_of name ≡ None)
Spells (lexeme.Key keyword) bytes rest = IsWord bytes rest × (keyword_of (str_to_ascii_lowercase bytes) ≡ Some keyword)
Spells (lexeme.Number n) bytes rest = AreDigits bytes rest × (n ≡ pos (digits_value 10 bytes)) × (digits_value 10 bytes < 2 ^ 63)
Spells (lexeme.Text text) bytes rest = (bytes ≡ quoted text) × (begins_with is_quote rest ≡ false) × (length text ≤ MOST_TEXT_BYTES)
Spells (lexeme.Sign sign) bytes rest = (bytes ≡ sign_text sign) × SignEnds sign rest

-- one byte that separates tokens, or a comment
abbrev pub Separates : List ℕ → List ℕ → Type 0
Separates bytes rest = ((b : ℕ) × (bytes ≡ b ∷ []) × (is_separator b ≡ true)) ⊎ IsComment bytes rest

-- the bytes are a piece where this follows: a token of the lexeme, or without lexeme what separates tokens
abbrev pub IsPiece : Option Lexeme → List ℕ → List ℕ → Type 0
IsPiece None bytes rest = Separates bytes rest
IsPiece (Some said) bytes rest = Spells said bytes rest

-- the first n bytes are such a piece
pub record BeginsPiece (bytes : List ℕ) (said : Option Lexeme) (n : ℕ) : Type 0 where
  pub some : 0 < n
  pub within : n ≤ length bytes
  pub piece : IsPiece said (take n bytes) (drop n bytes)
