-- The rules of queries and of SELECT: SQL-92, 7.3 to 7.9 and 13.1.
use Rattle.std.specs.Prelude.{Bool, false, List, []}
use Rattle.std.specs.Option.{unwrap_or}
use Rattle.pdw_lex.specs.declared.keyword.Keyword.TheVariants.{KwBy, KwFrom, KwGroup, KwHaving, KwOrder, KwSelect, KwWhere}
use Rattle.pdw_lex.specs.declared.sign.Sign.TheVariants.{Dot, Star}
use Rattle.pdw_syntax.specs.Rule.{Rule, ◌>>=◌, ◌>>◌, ◌<$>◌, ◌or◌, pure, One, Maybe}
use Rattle.pdw_syntax.specs.Lexemes.{key, sign, name, quantifier_of, direction_of, order_name_of}
use Rattle.pdw_syntax.specs.Parentheses.{Parentheses}
use Rattle.pdw_syntax.specs.Exprs.{listed, column_reference, expr}
use Rattle.pdw_syntax.specs.Conds.{cond}
use Rattle.pdw_syntax.specs.Tables.{called, tables}
use Rattle.pdw_syntax.specs.declared.expr.ColRef.{ColRef}
use Rattle.pdw_syntax.specs.declared.query.Item.{Item}
use Rattle.pdw_syntax.specs.declared.query.Item.TheVariants.{AliasStar, Made}
use Rattle.pdw_syntax.specs.declared.query.Items.{Items}
use Rattle.pdw_syntax.specs.declared.query.Items.TheVariants as items_are
use Rattle.pdw_syntax.specs.declared.query.OrderKey.{OrderKey}
use Rattle.pdw_syntax.specs.declared.query.Query.{Query, roll-Query}
use Rattle.pdw_syntax.specs.declared.query.Select.{Select}

-- [ ALL or DISTINCT ]: whether equal rows are to stand once
abbrev pub distinct : Rule Bool
distinct = (λ written. unwrap_or written false) <$> Maybe (One quantifier_of)

-- [ GROUP BY colref { , colref } ]
abbrev pub grouping : Rule (List ColRef)
grouping = (λ written. unwrap_or written []) <$> Maybe (key KwGroup >> key KwBy >> listed column_reference)

-- ( name or number ) [ ASC or DESC ]
abbrev pub order_key : Rule OrderKey
order_key = do
  called ← One order_name_of
  written ← Maybe (One direction_of)
  pure (record { name = called; descending = unwrap_or written false })

-- [ ORDER BY key { , key } ]
abbrev pub ordering : Rule (List OrderKey)
ordering = (λ written. unwrap_or written []) <$> Maybe (key KwOrder >> key KwBy >> listed order_key)

module _ (g : Parentheses) where
  -- name . *, or expr [ [ AS ] name ]
  unfoldable pub item : Rule Item
  item =
      (do alias ← name; sign Dot; sign Star; pure (AliasStar alias))
      or (do x ← expr g; output ← Maybe called; pure (Made x output))

  -- *, or item { , item }
  unfoldable pub items : Rule Items
  items = (sign Star >> pure items_are.Star) or (items_are.List <$> listed item)

  -- SELECT [ ALL or DISTINCT ] items FROM tables [ WHERE cond ] [ GROUP BY .. ] [ HAVING cond ]
  unfoldable pub query : Rule Query
  query = do
    key KwSelect
    once ← distinct
    selected ← items
    key KwFrom
    from ← tables g
    filter ← Maybe (key KwWhere >> cond g)
    group ← grouping
    having ← Maybe (key KwHaving >> cond g)
    pure (roll-Query (record { distinct = once; items = selected; from = from; filter = filter; group = group; having = having }))

  -- query [ ORDER BY key { , key } ]
  unfoldable pub select : Rule Select
  select = do
    q ← query
    order ← ordering
    pure (record { query = q; order = order })
