-- The signs and their spellings.
use Rattle.std.specs.Prelude.{◌≡◌, ℕ, ◌≤◌, Bool, false, ◌==◌, ◌||◌, List, length, take, drop, codes, ⊤}
use Rattle.std.specs.List.{list_any}
use Rattle.pdw_lex.specs.Bytes.{begins_with}
use Rattle.pdw_lex.specs.declared.sign.Sign.{Sign}
use Rattle.pdw_lex.specs.declared.sign.Sign.TheVariants.{ParenOpen, ParenClose, Comma, Semicolon, Dot, Star, Plus, Minus, Slash, Percent, Equal, NotEqual, Less, LessEqual, Greater, GreaterEqual}

abbrev pub sign_text : Sign → List ℕ
sign_text ParenOpen = codes "("
sign_text ParenClose = codes ")"
sign_text Comma = codes ","
sign_text Semicolon = codes ";"
sign_text Dot = codes "."
sign_text Star = codes "*"
sign_text Plus = codes "+"
sign_text Minus = codes "-"
sign_text Slash = codes "/"
sign_text Percent = codes "%"
sign_text Equal = codes "="
sign_text NotEqual = codes "<>"
sign_text Less = codes "<"
sign_text LessEqual = codes "<="
sign_text Greater = codes ">"
sign_text GreaterEqual = codes ">="

-- what follows does not prolong the sign: the longest sign is taken, and two `-` begin a comment
abbrev pub SignEnds : Sign → List ℕ → Type 0
SignEnds Less rest = begins_with (λ b. (b == 61) || (b == 62)) rest ≡ false
SignEnds Greater rest = begins_with (λ b. b == 61) rest ≡ false
SignEnds Minus rest = begins_with (λ b. b == 45) rest ≡ false
SignEnds sign rest = ⊤

-- a byte that begins a sign or a comment
abbrev pub is_sign_byte : ℕ → Bool
is_sign_byte b = list_any (λ c. b == c) (codes "(),;.*+-/%=<>")

-- the first n bytes spell the sign
pub record BeginsSign (bytes : List ℕ) (sign : Sign) (n : ℕ) : Type 0 where
  pub within : n ≤ length bytes
  pub spelled : take n bytes ≡ sign_text sign
  pub ends : SignEnds sign (drop n bytes)
