-- How value expressions are read.
use Rattle.std.specs.Prelude.{ℕ, Bool, List, ◌∷◌, Option, Some, None, if◌then◌else◌}
use Rattle.pdw_expr.specs.declared.scalar.Arith.{Arith}
use Rattle.pdw_expr.specs.declared.agg.AggKind.{AggKind}
use Rattle.pdw_expr.specs.declared.agg.AggKind.TheVariants.{CountStar, Count}
use Rattle.pdw_lex.specs.declared.sign.Sign.TheVariants.{Comma, Dot, Star}
use Rattle.pdw_lex.specs.declared.token.Lexeme.{Lexeme}
use Rattle.pdw_lex.specs.declared.token.Lexeme.TheVariants as lexeme
use Rattle.pdw_syntax.specs.Lexemes.{is_sign, name_of, minus_of, aggregate_of, term_operator_of, factor_operator_of}
use Rattle.pdw_syntax.specs.Exprs.{chained, with_sign}
use Rattle.pdw_syntax.specs.declared.expr.ColRef.{ColRef}
use Rattle.pdw_syntax.specs.declared.expr.SqlExpr.{SqlExpr}
use Rattle.pdw_syntax.specs.declared.expr.SqlExpr.TheVariants as e
use Rattle.pdw_syntax.specs.declared.query.Query.{Query}
use Rattle.pdw_reading.specs.declared.content.Among.{Among}
use Rattle.pdw_reading.specs.declared.content.Operand.{Operand}
use Rattle.pdw_reading.specs.declared.content.Source.{Source}
use Rattle.pdw_reading.specs.Reading.{Reader, ◌>>=◌, ◌>>◌, ◌<$>◌, pure, by_next, advance, take, take_if, eat, many, begun_by}

-- how parentheses are read with what they hold
pub record Nested : Type 0 where
  -- ( expr )
  pub expr : Reader SqlExpr
  -- ( * ), which gives None, or ( expr )
  pub counted : Reader (Option SqlExpr)
  -- ( cond ) or ( expr )
  pub operand : Reader Operand
  -- ( query ) or ( expr { , expr } )
  pub among : Reader Among
  -- ( query )
  pub query : Reader Query
  -- ( query ) or ( tableref )
  pub source : Reader Source

abbrev pub after_comma : {A : Type 0} → Reader A → Reader (Option A)
after_comma r = begun_by (is_sign Comma) (λ _. r)

unfoldable pub listed : {A : Type 0} → Reader A → Reader (List A)
listed r = do
  first ← r
  rest ← many (after_comma r)
  pure (first ∷ rest)

abbrev pub operations : (Lexeme → Option Arith) → Reader SqlExpr → Reader (Option (Arith × SqlExpr))
operations operator operand = begun_by operator (λ op. (λ x. (op, x)) <$> operand)

-- after a first name
abbrev pub column_after : List ℕ → Bool → Reader ColRef
column_after first dotted = if dotted then (λ column. record { alias = Some first; column = column }) <$> take name_of else pure (record { alias = None; column = first })

unfoldable pub column_from : List ℕ → Reader ColRef
column_from first = eat (is_sign Dot) >>= column_after first

unfoldable pub column_reference : Reader ColRef
column_reference = take name_of >>= column_from

abbrev pub column_value : List ℕ → Reader SqlExpr
column_value first = e.Col <$> column_from first

abbrev pub count_of : Option SqlExpr → SqlExpr
count_of None = e.Agg CountStar None
count_of (Some x) = e.Agg Count (Some x)

module _ (g : Nested) where
  abbrev pub aggregate_by : AggKind → Reader SqlExpr
  aggregate_by Count = count_of <$> g.counted
  aggregate_by kind = (λ x. e.Agg kind (Some x)) <$> g.expr

  unfoldable pub aggregate : Reader SqlExpr
  aggregate = take aggregate_of >>= aggregate_by

  abbrev pub value_by : Option Lexeme → Reader SqlExpr
  value_by (Some (lexeme.Number n)) = advance >> pure (e.Number n)
  value_by (Some (lexeme.Text t)) = advance >> pure (e.Text t)
  value_by (Some (lexeme.Name n)) = advance >> column_value n
  value_by (Some (lexeme.Key k)) = aggregate
  value_by _ = e.Paren <$> g.expr

  unfoldable pub value : Reader SqlExpr
  value = by_next value_by

  unfoldable pub signed : Reader SqlExpr
  signed = do
    minus ← take_if minus_of
    with_sign minus <$> value

  -- a product that begins with this operand
  unfoldable pub product_from : SqlExpr → Reader SqlExpr
  product_from first = chained first <$> many (operations factor_operator_of signed)

  unfoldable pub product : Reader SqlExpr
  product = signed >>= product_from

  -- a sum that begins with this operand
  unfoldable pub sum_from : SqlExpr → Reader SqlExpr
  sum_from first = chained first <$> many (operations term_operator_of product)

  unfoldable pub expr : Reader SqlExpr
  expr = product >>= sum_from

  -- an expression that begins with this value
  unfoldable pub expr_from : SqlExpr → Reader SqlExpr
  expr_from first = product_from first >>= sum_from

  -- what COUNT counts: `*`, or an expression
  abbrev pub counted_by : Bool → Reader (Option SqlExpr)
  counted_by star = if star then pure None else Some <$> expr

  unfoldable pub counted : Reader (Option SqlExpr)
  counted = eat (is_sign Star) >>= counted_by
