-- The rules of one lexeme.
use Rattle.std.specs.Prelude.{ℕ, ℤ, Bool, true, false, Option, Some, None, List, codes, if◌then◌else◌}
use Rattle.std.specs.Str.{bytes_eq}
use denote.Enum.Bare.{sameb}
use Rattle.pdw_base.specs.declared.truth.Truth.{Truth}
use Rattle.pdw_base.specs.declared.truth.Truth.TheVariants as truth
use Rattle.pdw_base.specs.declared.value.Kind.{Kind}
use Rattle.pdw_base.specs.declared.value.Kind.TheVariants as kind
use Rattle.pdw_expr.specs.declared.agg.AggKind.{AggKind}
use Rattle.pdw_expr.specs.declared.agg.AggKind.TheVariants as agg
use Rattle.pdw_expr.specs.declared.cond.Cmp.{Cmp}
use Rattle.pdw_expr.specs.declared.cond.Cmp.TheVariants as cmp
use Rattle.pdw_expr.specs.declared.scalar.Arith.{Arith}
use Rattle.pdw_expr.specs.declared.scalar.Arith.TheVariants as arith
use Rattle.pdw_lex.specs.contracts.keyword.Keyword.{the_type as the_keywords}
use Rattle.pdw_lex.specs.contracts.sign.Sign.{the_type as the_signs}
use Rattle.pdw_lex.specs.declared.keyword.Keyword.{Keyword}
use Rattle.pdw_lex.specs.declared.keyword.Keyword.TheVariants.{KwAll, KwAsc, KwCount, KwDesc, KwDistinct, KwFalse, KwFull, KwLeft, KwMax, KwMin, KwRight, KwSum, KwTrue, KwUnknown}
use Rattle.pdw_lex.specs.declared.sign.Sign.{Sign}
use Rattle.pdw_lex.specs.declared.sign.Sign.TheVariants as signs
use Rattle.pdw_lex.specs.declared.token.Lexeme.{Lexeme}
use Rattle.pdw_lex.specs.declared.token.Lexeme.TheVariants as lexeme
use Rattle.pdw_syntax.specs.Rule.{Rule, One}
use Rattle.pdw_syntax.specs.declared.query.JoinWord.{JoinWord}
use Rattle.pdw_syntax.specs.declared.query.JoinWord.TheVariants as join
use Rattle.pdw_syntax.specs.declared.query.OrderName.{OrderName}
use Rattle.pdw_syntax.specs.declared.query.OrderName.TheVariants as order
use Rattle.pdw_syntax.specs.declared.statement.CostPart.{CostPart}
use Rattle.pdw_syntax.specs.declared.statement.CostPart.TheVariants as cost

unfoldable pub same_keyword : Keyword → Keyword → Bool
same_keyword = sameb the_keywords

unfoldable pub same_sign : Sign → Sign → Bool
same_sign = sameb the_signs

-- ---- lexemes that mean nothing but themselves

abbrev pub is_key : Keyword → Lexeme → Option (Unit {0})
is_key k (lexeme.Key j) = if same_keyword j k then Some tt else None
is_key k _ = None

abbrev pub is_sign : Sign → Lexeme → Option (Unit {0})
is_sign s (lexeme.Sign t) = if same_sign t s then Some tt else None
is_sign s _ = None

-- a word that the grammar matches by its place: it is a name like any other
abbrev pub is_word : List ℕ → Lexeme → Option (Unit {0})
is_word w (lexeme.Name n) = if bytes_eq n w then Some tt else None
is_word w _ = None

abbrev pub key : Keyword → Rule (Unit {0})
key k = One (is_key k)

abbrev pub sign : Sign → Rule (Unit {0})
sign s = One (is_sign s)

abbrev pub word : List ℕ → Rule (Unit {0})
word w = One (is_word w)

-- ---- lexemes that carry a value

abbrev pub name_of : Lexeme → Option (List ℕ)
name_of (lexeme.Name n) = Some n
name_of _ = None

abbrev pub number_of : Lexeme → Option ℤ
number_of (lexeme.Number n) = Some n
number_of _ = None

abbrev pub text_of : Lexeme → Option (List ℕ)
text_of (lexeme.Text t) = Some t
text_of _ = None

abbrev pub name : Rule (List ℕ)
name = One name_of

abbrev pub number : Rule ℤ
number = One number_of

abbrev pub text : Rule (List ℕ)
text = One text_of

-- ---- a choice of one lexeme

-- INT or TEXT
abbrev pub kind_of : Lexeme → Option Kind
kind_of (lexeme.Name n) = if bytes_eq n (codes "int") then Some kind.Int else (if bytes_eq n (codes "text") then Some kind.Text else None)
kind_of _ = None

abbrev pub cost_part_of : Lexeme → Option CostPart
cost_part_of (lexeme.Name n) =
    if bytes_eq n (codes "reader") then Some cost.Reader
    else (if bytes_eq n (codes "hashreader") then Some cost.HashReader
    else (if bytes_eq n (codes "network") then Some cost.Network
    else (if bytes_eq n (codes "writer") then Some cost.Writer
    else (if bytes_eq n (codes "bulk") then Some cost.Bulk
    else (if bytes_eq n (codes "control") then Some cost.Control else None)))))
cost_part_of _ = None

-- ALL or DISTINCT: whether equal rows are to stand once
abbrev pub quantifier_of : Lexeme → Option Bool
quantifier_of (lexeme.Key KwAll) = Some false
quantifier_of (lexeme.Key KwDistinct) = Some true
quantifier_of _ = None

-- ASC or DESC: whether it is descending
abbrev pub direction_of : Lexeme → Option Bool
direction_of (lexeme.Key KwAsc) = Some false
direction_of (lexeme.Key KwDesc) = Some true
direction_of _ = None

-- what a key of ORDER BY names
abbrev pub order_name_of : Lexeme → Option OrderName
order_name_of (lexeme.Name n) = Some (order.Name n)
order_name_of (lexeme.Number n) = Some (order.Position n)
order_name_of _ = None

-- LEFT, RIGHT or FULL
abbrev pub outer_of : Lexeme → Option JoinWord
outer_of (lexeme.Key KwLeft) = Some join.Left
outer_of (lexeme.Key KwRight) = Some join.Right
outer_of (lexeme.Key KwFull) = Some join.Full
outer_of _ = None

abbrev pub truth_of : Lexeme → Option Truth
truth_of (lexeme.Key KwTrue) = Some truth.True
truth_of (lexeme.Key KwFalse) = Some truth.False
truth_of (lexeme.Key KwUnknown) = Some truth.Unknown
truth_of _ = None

abbrev pub comparison_of : Lexeme → Option Cmp
comparison_of (lexeme.Sign signs.Equal) = Some cmp.Eq
comparison_of (lexeme.Sign signs.NotEqual) = Some cmp.Ne
comparison_of (lexeme.Sign signs.Less) = Some cmp.Lt
comparison_of (lexeme.Sign signs.LessEqual) = Some cmp.Le
comparison_of (lexeme.Sign signs.Greater) = Some cmp.Gt
comparison_of (lexeme.Sign signs.GreaterEqual) = Some cmp.Ge
comparison_of _ = None

-- `+` or `-` between terms
abbrev pub term_operator_of : Lexeme → Option Arith
term_operator_of (lexeme.Sign signs.Plus) = Some arith.Add
term_operator_of (lexeme.Sign signs.Minus) = Some arith.Sub
term_operator_of _ = None

-- `*`, `/` or `%` between factors
abbrev pub factor_operator_of : Lexeme → Option Arith
factor_operator_of (lexeme.Sign signs.Star) = Some arith.Mul
factor_operator_of (lexeme.Sign signs.Slash) = Some arith.Div
factor_operator_of (lexeme.Sign signs.Percent) = Some arith.Rem
factor_operator_of _ = None

-- `+` or `-` before a value: whether it is a minus
abbrev pub minus_of : Lexeme → Option Bool
minus_of (lexeme.Sign signs.Plus) = Some false
minus_of (lexeme.Sign signs.Minus) = Some true
minus_of _ = None

abbrev pub aggregate_of : Lexeme → Option AggKind
aggregate_of (lexeme.Key KwCount) = Some agg.Count
aggregate_of (lexeme.Key KwSum) = Some agg.Sum
aggregate_of (lexeme.Key KwMin) = Some agg.Min
aggregate_of (lexeme.Key KwMax) = Some agg.Max
aggregate_of _ = None
