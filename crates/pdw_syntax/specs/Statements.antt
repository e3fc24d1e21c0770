-- The rules of statements.
use Rattle.std.specs.Prelude.{ℕ, ℤ, List, Option, Some, None, is_none, codes}
use Rattle.pdw_catalog.specs.declared.table.Column.{Column}
use Rattle.pdw_lex.specs.declared.keyword.Keyword.TheVariants.{KwCreate, KwDistinct, KwDrop, KwFrom, KwNot, KwNull, KwSet, KwTable, KwUpdate, KwWith}
use Rattle.pdw_lex.specs.declared.sign.Sign.TheVariants.{Comma, Equal}
use Rattle.pdw_syntax.specs.Rule.{Rule, ◌>>=◌, ◌>>◌, ◌<$>◌, ◌or◌, pure, One, Maybe, Many, Enclosed}
use Rattle.pdw_syntax.specs.Lexemes.{key, sign, word, name, number, text, kind_of, cost_part_of}
use Rattle.pdw_syntax.specs.Parentheses.{Parentheses}
use Rattle.pdw_syntax.specs.Exprs.{listed}
use Rattle.pdw_syntax.specs.Queries.{select}
use Rattle.pdw_syntax.specs.declared.statement.Statement.{Statement}
use Rattle.pdw_syntax.specs.declared.statement.Statement.TheVariants as s

-- name ( INT or TEXT ) [ NOT NULL ]
abbrev pub column : Rule Column
column = do
  called ← name
  kind ← One kind_of
  not_null ← Maybe (key KwNot >> key KwNull)
  pure (record { name = called; kind = kind; nullable = is_none not_null })

-- HASH ( name ), or REPLICATE
abbrev pub placing : Rule (Option (List ℕ))
placing = (Some <$> (word (codes "hash") >> Enclosed name)) or (word (codes "replicate") >> pure None)

-- DISTRIBUTION = placing
abbrev pub distribution : Rule (Option (List ℕ))
distribution = word (codes "distribution") >> sign Equal >> placing

-- CREATE TABLE name ( column { , column } ) WITH ( DISTRIBUTION = placing )
abbrev pub create : Rule Statement
create = do
  key KwCreate
  key KwTable
  table ← name
  columns ← Enclosed (listed column)
  key KwWith
  hash ← Enclosed distribution
  pure (s.CreateNamed table columns hash)

-- DROP TABLE name
abbrev pub drop_table : Rule Statement
drop_table = key KwDrop >> key KwTable >> s.Drop <$> name

-- LOAD name FROM text
abbrev pub load : Rule Statement
load = do
  word (codes "load")
  table ← name
  key KwFrom
  file ← text
  pure (s.Load table file)

-- name DISTINCT number WIDTH number
abbrev pub column_statistics : Rule (List ℕ × ℤ × ℤ)
column_statistics = do
  column ← name
  key KwDistinct
  distinct ← number
  word (codes "width")
  width ← number
  pure (column, distinct, width)

-- WITH ROWS number { , name DISTINCT number WIDTH number }
abbrev pub handed_statistics : Rule (ℤ × List (List ℕ × ℤ × ℤ))
handed_statistics = do
  key KwWith
  word (codes "rows")
  rows ← number
  columns ← Many (sign Comma >> column_statistics)
  pure (rows, columns)

abbrev pub statistics_of : List ℕ → Option (ℤ × List (List ℕ × ℤ × ℤ)) → Statement
statistics_of table None = s.Measure table
statistics_of table (Some handed) = s.Hand table handed.0 handed.1

-- UPDATE STATISTICS name [ WITH ROWS number { , name DISTINCT number WIDTH number } ]
abbrev pub statistics : Rule Statement
statistics = do
  key KwUpdate
  word (codes "statistics")
  table ← name
  handed ← Maybe handed_statistics
  pure (statistics_of table handed)

-- SET BUDGET number
abbrev pub budget : Rule Statement
budget = key KwSet >> word (codes "budget") >> s.Budget <$> number

-- SET COST ( READER, HASHREADER, NETWORK, WRITER, BULK or CONTROL ) number
abbrev pub cost_constant : Rule Statement
cost_constant = do
  key KwSet
  word (codes "cost")
  part ← One cost_part_of
  amount ← number
  pure (s.Cost part amount)

module _ (g : Parentheses) where
  abbrev pub explain : Rule Statement
  explain =
      (s.Explain <$> (word (codes "explain") >> select g))
      or (s.ExplainJson <$> (word (codes "explain") >> word (codes "json") >> select g))

  abbrev pub profile : Rule Statement
  profile = s.Profile <$> (word (codes "profile") >> select g)

  -- CHECK PLAN text FOR select
  abbrev pub check_plan : Rule Statement
  check_plan = do
    word (codes "check")
    word (codes "plan")
    file ← text
    word (codes "for")
    q ← select g
    pure (s.CheckPlan file q)

  unfoldable pub statement : Rule Statement
  statement =
      create or (drop_table or (load or (statistics or (budget or (cost_constant
      or ((s.Select <$> select g) or (explain or (profile or check_plan))))))))
