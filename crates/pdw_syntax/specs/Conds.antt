-- The rules of search conditions: SQL-92, 8.2 to 8.12.
use Rattle.std.specs.Prelude.{Bool, List, [], ◌∷◌, Option, Some, None, is_some, if◌then◌else◌}
use Rattle.pdw_base.specs.declared.truth.Truth.{Truth}
use Rattle.pdw_lex.specs.declared.keyword.Keyword.TheVariants.{KwAnd, KwBetween, KwExists, KwIn, KwIs, KwLike, KwNot, KwNull, KwOr}
use Rattle.pdw_syntax.specs.Rule.{Rule, ◌>>=◌, ◌>>◌, ◌<$>◌, ◌or◌, pure, One, Maybe, Many, Enclosed}
use Rattle.pdw_syntax.specs.Lexemes.{key, comparison_of, truth_of}
use Rattle.pdw_syntax.specs.Parentheses.{Parentheses}
use Rattle.pdw_syntax.specs.Exprs.{expr}
use Rattle.pdw_syntax.specs.declared.query.SqlCond.{SqlCond}
use Rattle.pdw_syntax.specs.declared.query.SqlCond.TheVariants as c

-- [ NOT ]: whether it is written
abbrev pub negation : Rule Bool
negation = is_some <$> Maybe (key KwNot)

-- a chain of one condition is that condition
abbrev pub all_of : SqlCond → List SqlCond → SqlCond
all_of first [] = first
all_of first (x ∷ xs) = c.All (first ∷ x ∷ xs)

abbrev pub any_of : SqlCond → List SqlCond → SqlCond
any_of first [] = first
any_of first (x ∷ xs) = c.Any (first ∷ x ∷ xs)

abbrev pub negated_by : Bool → SqlCond → SqlCond
negated_by not_written x = if not_written then c.Not x else x

-- IS [ NOT ] ( TRUE, FALSE or UNKNOWN ): whether NOT is written, and the truth
abbrev pub truth_test : Rule (Bool × Truth)
truth_test = do
  key KwIs
  negated ← negation
  truth ← One truth_of
  pure (negated, truth)

abbrev pub tested : SqlCond → Option (Bool × Truth) → SqlCond
tested x None = x
tested x (Some t) = c.Test t.0 x t.1

module _ (g : Parentheses) where
  unfoldable pub comparison : Rule SqlCond
  comparison = do
    x ← expr g
    op ← One comparison_of
    y ← expr g
    pure (c.Compare op x y)

  -- expr [ NOT ] LIKE expr
  unfoldable pub like : Rule SqlCond
  like = do
    x ← expr g
    negated ← negation
    key KwLike
    y ← expr g
    pure (c.Like negated x y)

  -- expr IS [ NOT ] NULL
  unfoldable pub null_test : Rule SqlCond
  null_test = do
    x ← expr g
    key KwIs
    negated ← negation
    key KwNull
    pure (c.IsNull negated x)

  -- expr [ NOT ] BETWEEN expr AND expr
  unfoldable pub between : Rule SqlCond
  between = do
    x ← expr g
    negated ← negation
    key KwBetween
    low ← expr g
    key KwAnd
    high ← expr g
    pure (c.Between negated x low high)

  -- expr [ NOT ] IN ( query )
  unfoldable pub in_query : Rule SqlCond
  in_query = do
    x ← expr g
    negated ← negation
    key KwIn
    q ← Enclosed g.query
    pure (c.InQuery negated x q)

  -- expr [ NOT ] IN ( expr { , expr } )
  unfoldable pub in_list : Rule SqlCond
  in_list = do
    x ← expr g
    negated ← negation
    key KwIn
    xs ← Enclosed g.exprs
    pure (c.InList negated x xs)

  -- EXISTS ( query )
  unfoldable pub exists : Rule SqlCond
  exists = key KwExists >> c.Exists <$> Enclosed g.query

  unfoldable pub predicate : Rule SqlCond
  predicate = comparison or (like or (null_test or (between or (in_query or (in_list or exists)))))

  -- predicate, or ( cond )
  unfoldable pub primary_condition : Rule SqlCond
  primary_condition = predicate or (c.Paren <$> Enclosed g.cond)

  -- condprimary [ IS [ NOT ] ( TRUE, FALSE or UNKNOWN ) ]
  unfoldable pub test : Rule SqlCond
  test = do
    x ← primary_condition
    t ← Maybe truth_test
    pure (tested x t)

  -- [ NOT ] test
  unfoldable pub factor : Rule SqlCond
  factor = do
    negated ← negation
    x ← test
    pure (negated_by negated x)

  -- factor { AND factor }
  unfoldable pub term : Rule SqlCond
  term = do
    first ← factor
    rest ← Many (key KwAnd >> factor)
    pure (all_of first rest)

  -- term { OR term }
  unfoldable pub cond : Rule SqlCond
  cond = do
    first ← term
    rest ← Many (key KwOr >> term)
    pure (any_of first rest)
