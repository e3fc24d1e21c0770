-- How queries and SELECT are read.
use Rattle.std.specs.Prelude.{ℕ, Bool, false, List, [], Option, Some, None, if◌then◌else◌, unwrap_or}
use Rattle.pdw_lex.specs.declared.keyword.Keyword.TheVariants.{KwBy, KwFrom, KwGroup, KwHaving, KwOrder, KwSelect, KwWhere}
use Rattle.pdw_lex.specs.declared.sign.Sign.TheVariants.{Dot, Star}
use Rattle.pdw_lex.specs.declared.token.Lexeme.{Lexeme}
use Rattle.pdw_lex.specs.declared.token.Lexeme.TheVariants as lexeme
use Rattle.pdw_syntax.specs.Lexemes.{is_key, is_sign, name_of, quantifier_of, direction_of, order_name_of}
use Rattle.pdw_syntax.specs.declared.expr.ColRef.{ColRef}
use Rattle.pdw_syntax.specs.declared.expr.SqlExpr.{SqlExpr}
use Rattle.pdw_syntax.specs.declared.expr.SqlExpr.TheVariants.{Col}
use Rattle.pdw_syntax.specs.declared.query.Item.{Item}
use Rattle.pdw_syntax.specs.declared.query.Item.TheVariants.{AliasStar, Made}
use Rattle.pdw_syntax.specs.declared.query.Items.{Items}
use Rattle.pdw_syntax.specs.declared.query.Items.TheVariants as items_are
use Rattle.pdw_syntax.specs.declared.query.OrderKey.{OrderKey}
use Rattle.pdw_syntax.specs.declared.query.Query.{Query, roll-Query}
use Rattle.pdw_syntax.specs.declared.query.Select.{Select}
use Rattle.pdw_syntax.specs.declared.query.SqlCond.{SqlCond}
use Rattle.pdw_syntax.specs.declared.query.TableRef.{TableRef}
use Rattle.pdw_reading.specs.declared.content.Among.{Among}
use Rattle.pdw_reading.specs.declared.content.Among.TheVariants as among_is
use Rattle.pdw_reading.specs.declared.content.Source.{Source}
use Rattle.pdw_reading.specs.declared.content.Source.TheVariants as source_is
use Rattle.pdw_reading.specs.Reading.{Reader, ◌>>=◌, ◌>>◌, ◌<$>◌, pure, by_next, advance, take, take_if, eat, sees, begun_by}
use Rattle.pdw_reading.specs.ReadExprs.{Nested, listed, column_reference, expr, expr_from}
use Rattle.pdw_reading.specs.ReadConds.{cond}
use Rattle.pdw_reading.specs.ReadTables.{alias, table_reference, tables}

unfoldable pub distinct : Reader Bool
distinct = (λ written. unwrap_or written false) <$> take_if quantifier_of

abbrev pub grouping_if : Bool → Reader (List ColRef)
grouping_if written = if written then take (is_key KwBy) >> listed column_reference else pure []

unfoldable pub grouping : Reader (List ColRef)
grouping = eat (is_key KwGroup) >>= grouping_if

unfoldable pub order_key : Reader OrderKey
order_key = do
  called ← take order_name_of
  written ← take_if direction_of
  pure (record { name = called; descending = unwrap_or written false })

abbrev pub ordering_if : Bool → Reader (List OrderKey)
ordering_if written = if written then take (is_key KwBy) >> listed order_key else pure []

unfoldable pub ordering : Reader (List OrderKey)
ordering = eat (is_key KwOrder) >>= ordering_if

-- the item of this value
abbrev pub made : SqlExpr → Reader Item
made x = Made x <$> alias

module _ (g : Nested) where
  -- an item that begins with this value
  unfoldable pub made_from : SqlExpr → Reader Item
  made_from first = expr_from g first >>= made

  -- after `name .`
  abbrev pub dotted_by : List ℕ → Bool → Reader Item
  dotted_by first star = if star then pure (AliasStar first) else take name_of >>= (λ column. made_from (Col (record { alias = Some first; column = column })))

  abbrev pub dotted : List ℕ → Reader Item
  dotted first = eat (is_sign Star) >>= dotted_by first

  -- after a first name
  abbrev pub named_by : List ℕ → Bool → Reader Item
  named_by first is_dotted = if is_dotted then dotted first else made_from (Col (record { alias = None; column = first }))

  abbrev pub named : List ℕ → Reader Item
  named first = eat (is_sign Dot) >>= named_by first

  abbrev pub item_by : Option Lexeme → Reader Item
  item_by (Some (lexeme.Name first)) = advance >> named first
  item_by _ = expr g >>= made

  unfoldable pub item : Reader Item
  item = by_next item_by

  abbrev pub items_if : Bool → Reader Items
  items_if star = if star then pure items_are.Star else items_are.List <$> listed item

  unfoldable pub items : Reader Items
  items = eat (is_sign Star) >>= items_if

  unfoldable pub filter : Reader (Option SqlCond)
  filter = begun_by (is_key KwWhere) (λ _. cond g)

  unfoldable pub having : Reader (Option SqlCond)
  having = begun_by (is_key KwHaving) (λ _. cond g)

  -- from HAVING on
  unfoldable pub query_grouped : Bool → Items → List TableRef → Option SqlCond → List ColRef → Reader Query
  query_grouped once selected from where_holds group =
      (λ having_holds. roll-Query (record { distinct = once; items = selected; from = from; filter = where_holds; group = group; having = having_holds })) <$> having

  -- from GROUP BY on
  unfoldable pub query_filtered : Bool → Items → List TableRef → Option SqlCond → Reader Query
  query_filtered once selected from where_holds = grouping >>= query_grouped once selected from where_holds

  -- from WHERE on
  unfoldable pub query_of : Bool → Items → List TableRef → Reader Query
  query_of once selected from = filter >>= query_filtered once selected from

  -- from the word FROM on
  unfoldable pub query_from : Bool → Items → Reader Query
  query_from once selected = take (is_key KwFrom) >> (tables g >>= query_of once selected)

  unfoldable pub query : Reader Query
  query = take (is_key KwSelect) >> (distinct >>= (λ once. items >>= query_from once))

  unfoldable pub select : Reader Select
  select = do
    q ← query
    order ← ordering
    pure (record { query = q; order = order })

  -- what a value is looked for in: a query, or a list of expressions
  abbrev pub among_by : Bool → Reader Among
  among_by is_query = if is_query then among_is.Query <$> query else among_is.Exprs <$> listed (expr g)

  unfoldable pub among : Reader Among
  among = λ ts. among_by (sees (is_key KwSelect) ts) ts

  -- what stands in parentheses in FROM: a query, or tables
  abbrev pub source_by : Bool → Reader Source
  source_by is_query = if is_query then source_is.Query <$> query else source_is.Tables <$> table_reference g

  unfoldable pub source : Reader Source
  source = λ ts. source_by (sees (is_key KwSelect) ts) ts
