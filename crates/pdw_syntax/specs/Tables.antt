-- The rules of FROM: SQL-92, 6.3, 7.4 and 7.5.
use Rattle.std.specs.Prelude.{ℕ, List, Some, None}
use Rattle.pdw_lex.specs.declared.keyword.Keyword.TheVariants.{KwAs, KwCross, KwInner, KwJoin, KwOn, KwOuter}
use Rattle.pdw_syntax.specs.Rule.{Rule, ◌>>=◌, ◌>>◌, ◌<$>◌, ◌or◌, pure, One, Maybe, Many, Enclosed}
use Rattle.pdw_syntax.specs.Lexemes.{key, name, outer_of}
use Rattle.pdw_syntax.specs.Parentheses.{Parentheses}
use Rattle.pdw_syntax.specs.Exprs.{listed}
use Rattle.pdw_syntax.specs.Conds.{cond}
use Rattle.pdw_syntax.specs.declared.query.JoinWord.{JoinWord}
use Rattle.pdw_syntax.specs.declared.query.JoinWord.TheVariants.{Cross, Inner}
use Rattle.pdw_syntax.specs.declared.query.JoinPart.{JoinPart, roll-JoinPart}
use Rattle.pdw_syntax.specs.declared.query.Primary.{Primary}
use Rattle.pdw_syntax.specs.declared.query.Primary.TheVariants as p
use Rattle.pdw_syntax.specs.declared.query.TableRef.{TableRef, roll-TableRef}

-- [ AS ] name
abbrev pub called : Rule (List ℕ)
called = Maybe (key KwAs) >> name

-- [ INNER, LEFT [ OUTER ], RIGHT [ OUTER ] or FULL [ OUTER ] ]
abbrev pub join_word : Rule JoinWord
join_word = (key KwInner >> pure Inner) or ((do side ← One outer_of; Maybe (key KwOuter); pure side) or pure Inner)

module _ (g : Parentheses) where
  -- name [ [ AS ] name ], or ( query ) [ AS ] name, or ( tableref )
  unfoldable pub primary : Rule Primary
  primary =
      (do table ← name; alias ← Maybe called; pure (p.Named table alias))
      or ((do query ← Enclosed g.query; alias ← called; pure (p.Derived query alias))
      or (p.Paren <$> Enclosed g.tables))

  unfoldable pub cross_join : Rule JoinPart
  cross_join = do
    key KwCross
    key KwJoin
    right ← primary
    pure (roll-JoinPart (record { word = Cross; right = right; on = None }))

  unfoldable pub join_on : Rule JoinPart
  join_on = do
    word ← join_word
    key KwJoin
    right ← primary
    key KwOn
    on ← cond g
    pure (roll-JoinPart (record { word = word; right = right; on = Some on }))

  unfoldable pub join : Rule JoinPart
  join = cross_join or join_on

  -- primary { join }
  unfoldable pub table_reference : Rule TableRef
  table_reference = do
    first ← primary
    joins ← Many join
    pure (roll-TableRef (record { first = first; joins = joins }))

  -- tableref { , tableref }
  unfoldable pub tables : Rule (List TableRef)
  tables = listed table_reference
