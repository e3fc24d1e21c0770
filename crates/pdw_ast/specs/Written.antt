-- The canonical spelling of tokens: keywords and place words in upper case, all else as a script has it.
use Rattle.std.specs.Prelude.{ℕ, ℤ, List, codes, map}
use Rattle.std.specs.Fmt.{signed_decimal}
use Rattle.std.specs.List.{join_by}
use Rattle.std.specs.Str.{str_to_ascii_uppercase}
use Rattle.pdw_lex.specs.Piece.{quoted}
use Rattle.pdw_lex.specs.Sign.{sign_text}
use Rattle.pdw_lex.specs.declared.keyword.Keyword.{Keyword}
use Rattle.pdw_lex.specs.declared.keyword.Keyword.TheVariants as k
use Rattle.pdw_lex.specs.declared.sign.Sign.{Sign}
use Rattle.pdw_lex.specs.declared.token.Lexeme.{Lexeme}
use Rattle.pdw_lex.specs.declared.token.Lexeme.TheVariants as lexeme

-- a token: its spelling, and what it says
pub record Written : Type 0 where
  pub bytes : List ℕ
  pub says : Lexeme

abbrev pub keyword_text : Keyword → List ℕ
keyword_text k.KwAll = codes "ALL"
keyword_text k.KwAnd = codes "AND"
keyword_text k.KwAs = codes "AS"
keyword_text k.KwAsc = codes "ASC"
keyword_text k.KwBetween = codes "BETWEEN"
keyword_text k.KwBy = codes "BY"
keyword_text k.KwCount = codes "COUNT"
keyword_text k.KwCreate = codes "CREATE"
keyword_text k.KwCross = codes "CROSS"
keyword_text k.KwDesc = codes "DESC"
keyword_text k.KwDistinct = codes "DISTINCT"
keyword_text k.KwDrop = codes "DROP"
keyword_text k.KwExcept = codes "EXCEPT"
keyword_text k.KwExists = codes "EXISTS"
keyword_text k.KwFalse = codes "FALSE"
keyword_text k.KwFrom = codes "FROM"
keyword_text k.KwFull = codes "FULL"
keyword_text k.KwGroup = codes "GROUP"
keyword_text k.KwHaving = codes "HAVING"
keyword_text k.KwIn = codes "IN"
keyword_text k.KwInner = codes "INNER"
keyword_text k.KwIntersect = codes "INTERSECT"
keyword_text k.KwIs = codes "IS"
keyword_text k.KwJoin = codes "JOIN"
keyword_text k.KwLeft = codes "LEFT"
keyword_text k.KwLike = codes "LIKE"
keyword_text k.KwMax = codes "MAX"
keyword_text k.KwMin = codes "MIN"
keyword_text k.KwNot = codes "NOT"
keyword_text k.KwNull = codes "NULL"
keyword_text k.KwOn = codes "ON"
keyword_text k.KwOr = codes "OR"
keyword_text k.KwOrder = codes "ORDER"
keyword_text k.KwOuter = codes "OUTER"
keyword_text k.KwRight = codes "RIGHT"
keyword_text k.KwSelect = codes "SELECT"
keyword_text k.KwSet = codes "SET"
keyword_text k.KwSum = codes "SUM"
keyword_text k.KwTable = codes "TABLE"
keyword_text k.KwTrue = codes "TRUE"
keyword_text k.KwUnion = codes "UNION"
keyword_text k.KwUnknown = codes "UNKNOWN"
keyword_text k.KwUpdate = codes "UPDATE"
keyword_text k.KwWhere = codes "WHERE"
keyword_text k.KwWith = codes "WITH"

abbrev pub key : Keyword → Written
key k = record { bytes = keyword_text k; says = lexeme.Key k }

-- a word that the grammar matches by its place, which stands here in lower case
abbrev pub word : List ℕ → Written
word w = record { bytes = str_to_ascii_uppercase w; says = lexeme.Name w }

abbrev pub name : List ℕ → Written
name n = record { bytes = n; says = lexeme.Name n }

abbrev pub text : List ℕ → Written
text t = record { bytes = quoted t; says = lexeme.Text t }

abbrev pub sign : Sign → Written
sign s = record { bytes = sign_text s; says = lexeme.Sign s }

abbrev pub number : ℤ → Written
number n = record { bytes = signed_decimal n; says = lexeme.Number n }

-- the tokens' spellings, one space between each two
abbrev pub spaced : List Written → List ℕ
spaced = join_by (λ w. w.bytes) (codes " ")

-- what the tokens say
abbrev pub sayings : List Written → List Lexeme
sayings = map (λ w. w.says)
