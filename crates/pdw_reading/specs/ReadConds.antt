-- How conditions are read.
use Rattle.std.specs.Prelude.{Bool, ◌||◌, List, Option, Some, None, if◌then◌else◌}
use Rattle.pdw_base.specs.declared.truth.Truth.{Truth}
use Rattle.pdw_expr.specs.declared.cond.Cmp.{Cmp}
use Rattle.pdw_lex.specs.declared.keyword.Keyword.TheVariants.{KwAnd, KwBetween, KwExists, KwIn, KwIs, KwLike, KwNot, KwNull, KwOr}
use Rattle.pdw_lex.specs.declared.sign.Sign.TheVariants.{ParenOpen}
use Rattle.pdw_lex.specs.declared.token.Lexeme.{Lexeme}
use Rattle.pdw_lex.specs.declared.token.Lexeme.TheVariants as lexeme
use Rattle.pdw_syntax.specs.Lexemes.{is_key, comparison_of, truth_of}
use Rattle.pdw_syntax.specs.Conds.{all_of, any_of, negated_by, tested}
use Rattle.pdw_syntax.specs.declared.expr.SqlExpr.{SqlExpr}
use Rattle.pdw_syntax.specs.declared.expr.SqlExpr.TheVariants.{Paren as ParenExpr}
use Rattle.pdw_syntax.specs.declared.query.SqlCond.{SqlCond}
use Rattle.pdw_syntax.specs.declared.query.SqlCond.TheVariants as c
use Rattle.pdw_reading.specs.declared.content.Among.{Among}
use Rattle.pdw_reading.specs.declared.content.Among.TheVariants as among
use Rattle.pdw_reading.specs.declared.content.Operand.{Operand}
use Rattle.pdw_reading.specs.declared.content.Operand.TheVariants as operand_is
use Rattle.pdw_reading.specs.Reading.{Reader, ◌>>=◌, ◌>>◌, ◌<$>◌, pure, refuse, by_next, advance, take, take_if, eat, sees, many, begun_by}
use Rattle.pdw_reading.specs.ReadExprs.{Nested, expr, expr_from}

abbrev pub among_cond : Bool → SqlExpr → Among → SqlCond
among_cond negated x (among.Query q) = c.InQuery negated x q
among_cond negated x (among.Exprs xs) = c.InList negated x xs

-- whether a value expression goes on to a predicate here
unfoldable pub goes_on : List Lexeme → Bool
goes_on ts =
    sees comparison_of ts || sees (is_key KwNot) ts || sees (is_key KwIs) ts || sees (is_key KwLike) ts || sees (is_key KwBetween) ts || sees (is_key KwIn) ts

-- after IS: [ NOT ] ( TRUE, FALSE or UNKNOWN )
unfoldable pub truth_test : Reader (Bool × Truth)
truth_test = do
  negated ← eat (is_key KwNot)
  (λ truth. (negated, truth)) <$> take truth_of

unfoldable pub test_from : SqlCond → Reader SqlCond
test_from x = tested x <$> begun_by (is_key KwIs) (λ _. truth_test)

module _ (g : Nested) where
  unfoldable pub null_test_from : SqlExpr → Reader SqlCond
  null_test_from x = do
    negated ← eat (is_key KwNot)
    take (is_key KwNull)
    pure (c.IsNull negated x)

  abbrev pub like_from : Bool → SqlExpr → Reader SqlCond
  like_from negated x = c.Like negated x <$> expr g

  abbrev pub in_from : Bool → SqlExpr → Reader SqlCond
  in_from negated x = among_cond negated x <$> g.among

  -- the bounds of BETWEEN, from the upper one, from AND, and from the lower one on
  abbrev pub between_high : Bool → SqlExpr → SqlExpr → Reader SqlCond
  between_high negated x low = c.Between negated x low <$> expr g

  abbrev pub between_low : Bool → SqlExpr → SqlExpr → Reader SqlCond
  between_low negated x low = take (is_key KwAnd) >> between_high negated x low

  unfoldable pub between_from : Bool → SqlExpr → Reader SqlCond
  between_from negated x = expr g >>= between_low negated x

  abbrev pub negatable_by : Bool → SqlExpr → Option Lexeme → Reader SqlCond
  negatable_by negated x (Some (lexeme.Key KwLike)) = advance >> like_from negated x
  negatable_by negated x (Some (lexeme.Key KwBetween)) = advance >> between_from negated x
  negatable_by negated x (Some (lexeme.Key KwIn)) = advance >> in_from negated x
  negatable_by negated x _ = refuse

  -- [ NOT ] LIKE, BETWEEN or IN, and what they are followed by
  unfoldable pub negatable_from : SqlExpr → Reader SqlCond
  negatable_from x = eat (is_key KwNot) >>= (λ negated. by_next (negatable_by negated x))

  abbrev pub null_test_or : SqlExpr → Bool → Reader SqlCond
  null_test_or x is_written = if is_written then null_test_from x else negatable_from x

  abbrev pub predicate_by : SqlExpr → Option Cmp → Reader SqlCond
  predicate_by x (Some op) = c.Compare op x <$> expr g
  predicate_by x None = eat (is_key KwIs) >>= null_test_or x

  -- a predicate that begins with this expression
  unfoldable pub predicate_from : SqlExpr → Reader SqlCond
  predicate_from x = take_if comparison_of >>= predicate_by x

  abbrev pub after_parentheses : Operand → Reader Operand
  after_parentheses (operand_is.Cond x) = pure (operand_is.Cond (c.Paren x))
  after_parentheses (operand_is.Expr x) = operand_is.Expr <$> expr_from g (ParenExpr x)

  abbrev pub started_by : Option Lexeme → Reader Operand
  started_by (Some (lexeme.Key KwExists)) = advance >> ((λ q. operand_is.Cond (c.Exists q)) <$> g.query)
  started_by (Some (lexeme.Sign ParenOpen)) = g.operand >>= after_parentheses
  started_by _ = operand_is.Expr <$> expr g

  -- a whole condition that begins one, or the expression that begins a predicate
  unfoldable pub started : Reader Operand
  started = by_next started_by

  abbrev pub completed : Operand → Reader SqlCond
  completed (operand_is.Cond x) = pure x
  completed (operand_is.Expr x) = predicate_from x

  unfoldable pub primary_condition : Reader SqlCond
  primary_condition = started >>= completed

  unfoldable pub factor : Reader SqlCond
  factor = do
    negated ← eat (is_key KwNot)
    x ← primary_condition
    negated_by negated <$> test_from x

  unfoldable pub term_from : SqlCond → Reader SqlCond
  term_from first = all_of first <$> many (begun_by (is_key KwAnd) (λ _. factor))

  unfoldable pub term : Reader SqlCond
  term = factor >>= term_from

  unfoldable pub cond_from : SqlCond → Reader SqlCond
  cond_from first = any_of first <$> many (begun_by (is_key KwOr) (λ _. term))

  unfoldable pub cond : Reader SqlCond
  cond = term >>= cond_from

  -- a condition that begins with this one, which no NOT stands before
  unfoldable pub condition_from : SqlCond → Reader SqlCond
  condition_from first = test_from first >>= term_from >>= cond_from

  abbrev pub predicate_or : SqlExpr → Bool → Reader Operand
  predicate_or x goes = if goes then operand_is.Cond <$> (predicate_from x >>= condition_from) else pure (operand_is.Expr x)

  abbrev pub operand_from : Operand → Reader Operand
  operand_from (operand_is.Cond x) = operand_is.Cond <$> condition_from x
  operand_from (operand_is.Expr x) = λ ts. predicate_or x (goes_on ts) ts

  abbrev pub operand_by : Bool → Reader Operand
  operand_by not_written = if not_written then operand_is.Cond <$> cond else started >>= operand_from

  -- a condition or an expression
  unfoldable pub operand : Reader Operand
  operand = λ ts. operand_by (sees (is_key KwNot) ts) ts
