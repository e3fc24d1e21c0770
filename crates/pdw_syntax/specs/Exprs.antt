-- The rules of value expressions: SQL-92, 6.4, 6.5 and 6.11 to 6.14.
use Rattle.std.specs.Prelude.{Bool, List, [], ◌∷◌, Option, Some, None}
use Rattle.pdw_expr.specs.declared.scalar.Arith.{Arith}
use Rattle.pdw_expr.specs.declared.agg.AggKind.TheVariants.{CountStar}
use Rattle.pdw_lex.specs.declared.keyword.Keyword.TheVariants.{KwCount}
use Rattle.pdw_lex.specs.declared.sign.Sign.TheVariants.{Dot, Comma}
use Rattle.pdw_lex.specs.declared.token.Lexeme.{Lexeme}
use Rattle.pdw_syntax.specs.Rule.{Rule, ◌>>=◌, ◌>>◌, ◌<$>◌, ◌or◌, pure, One, Maybe, Many, Enclosed}
use Rattle.pdw_syntax.specs.Lexemes.{key, sign, name, number, text, minus_of, aggregate_of, term_operator_of, factor_operator_of}
use Rattle.pdw_syntax.specs.Parentheses.{Parentheses}
use Rattle.pdw_syntax.specs.declared.expr.ColRef.{ColRef}
use Rattle.pdw_syntax.specs.declared.expr.SqlExpr.{SqlExpr}
use Rattle.pdw_syntax.specs.declared.expr.SqlExpr.TheVariants as e

-- a first text, and further ones after commas
abbrev pub listed : {A : Type 0} → Rule A → Rule (List A)
listed R = do
  first ← R
  rest ← Many (sign Comma >> R)
  pure (first ∷ rest)

-- an operator and its right operand
abbrev pub operation : (Lexeme → Option Arith) → Rule SqlExpr → Rule (Arith × SqlExpr)
operation operator operand = do
  op ← One operator
  x ← operand
  pure (op, x)

-- a chain of one operand is that operand
abbrev pub chained : SqlExpr → List (Arith × SqlExpr) → SqlExpr
chained first [] = first
chained first (link ∷ links) = e.Chain first (link ∷ links)

abbrev pub with_sign : Option Bool → SqlExpr → SqlExpr
with_sign None x = x
with_sign (Some minus) x = e.Signed minus x

-- [ name . ] name
abbrev pub column_reference : Rule ColRef
column_reference = do
  alias ← Maybe (name >>= (λ alias. sign Dot >> pure alias))
  column ← name
  pure (record { alias = alias; column = column })

module _ (g : Parentheses) where
  -- COUNT ( * ), or ( COUNT, SUM, MIN or MAX ) ( expr )
  unfoldable pub aggregate : Rule SqlExpr
  aggregate =
      (key KwCount >> Enclosed g.star >> pure (e.Agg CountStar None))
      or (do kind ← One aggregate_of; x ← Enclosed g.expr; pure (e.Agg kind (Some x)))

  -- number, text, colref, aggregate, or ( expr )
  unfoldable pub value : Rule SqlExpr
  value = (e.Number <$> number) or ((e.Text <$> text) or ((e.Col <$> column_reference) or (aggregate or (e.Paren <$> Enclosed g.expr))))

  -- [ + or - ] value
  unfoldable pub signed : Rule SqlExpr
  signed = do
    minus ← Maybe (One minus_of)
    x ← value
    pure (with_sign minus x)

  -- signed { ( *, / or % ) signed }
  unfoldable pub product : Rule SqlExpr
  product = do
    first ← signed
    rest ← Many (operation factor_operator_of signed)
    pure (chained first rest)

  -- product { ( + or - ) product }
  unfoldable pub expr : Rule SqlExpr
  expr = do
    first ← product
    rest ← Many (operation term_operator_of product)
    pure (chained first rest)
