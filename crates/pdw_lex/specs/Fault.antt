-- What is at fault in a script.
use Rattle.std.specs.Prelude.{◌≡◌, ℕ, ◌<◌, ◌≤◌, ◌^◌, Bool, true, false, not, ◌||◌, List, ◌++◌, length, codes, ⊤}
use Rattle.std.specs.Char.{is_ascii_digit}
use Rattle.std.specs.Str.{IsUtf8, IsValidUpTo}
use Rattle.std.specs.Str.Parse.{digits_value}
use Rattle.pdw_lex.specs.Bytes.{begins_with, is_letter, is_quote, is_separator}
use Rattle.pdw_lex.specs.Sign.{is_sign_byte}
use Rattle.pdw_lex.specs.Piece.{AreDigits, doubled, quoted}
use Rattle.pdw_lex.specs.Lexes.{ArePieces, Piece, joined}
use Rattle.pdw_base.specs.declared.limits.TheConstants.{MOST_TEXT_BYTES}
use Rattle.pdw_lex.specs.declared.lex_error.LexError.{LexError}
use Rattle.pdw_lex.specs.declared.lex_error.LexError.TheVariants.{NotUtf8, BadChar, OpenText, BigNumber, LongText, Memory}

-- a byte that begins a piece
abbrev pub begins_piece : ℕ → Bool
begins_piece b = is_separator b || is_letter b || is_ascii_digit b || is_quote b || is_sign_byte b

-- a quote, and each quote up to the end is doubled
abbrev pub IsOpenText : List ℕ → Type 0
IsOpenText bytes = (text : List ℕ) × (bytes ≡ codes "'" ++ doubled text)

-- a text of more bytes than a text may have
abbrev pub BeginsLongText : List ℕ → Type 0
BeginsLongText bytes = (text rest : List ℕ) × (bytes ≡ quoted text ++ rest) × (begins_with is_quote rest ≡ false) × (MOST_TEXT_BYTES < length text)

-- a number that is not below 2^63
abbrev pub BeginsBigNumber : List ℕ → Type 0
BeginsBigNumber bytes = (digits rest : List ℕ) × (bytes ≡ digits ++ rest) × AreDigits digits rest × (2 ^ 63 ≤ digits_value 10 digits)

-- the bytes, which stand at this place of a script, begin with the fault of the error; want of memory can come anywhere
abbrev pub FaultsAt : LexError → ℕ → List ℕ → Type 0
FaultsAt (NotUtf8 place) at bytes = ⊥
FaultsAt (BadChar place) at bytes = (place ≡ at) × (begins_with (λ b. not (begins_piece b)) bytes ≡ true)
FaultsAt (OpenText place) at bytes = (place ≡ at) × IsOpenText bytes
FaultsAt (BigNumber place) at bytes = (place ≡ at) × BeginsBigNumber bytes
FaultsAt (LongText place) at bytes = (place ≡ at) × BeginsLongText bytes
FaultsAt Memory at bytes = ⊤

-- pieces stand up to a place at which the bytes begin with the fault
pub record FaultsAfter (e : LexError) (bytes : List ℕ) : Type 0 where
  pub utf8 : IsUtf8 bytes
  pub pieces : List Piece
  pub rest : List ℕ
  pub spelled : bytes ≡ joined pieces ++ rest
  pub before : ArePieces pieces rest
  pub fault : FaultsAt e (length (joined pieces)) rest

-- the error says the first fault of the bytes, or want of memory
abbrev pub IsFault : List ℕ → LexError → Type 0
IsFault bytes (NotUtf8 at) = IsValidUpTo bytes at
IsFault bytes Memory = ⊤
IsFault bytes e = FaultsAfter e bytes
