-- How statements and scripts are read.
use Rattle.std.specs.Prelude.{ℕ, ℤ, Bool, true, false, not, List, Option, Some, None, codes, if◌then◌else◌}
use Rattle.std.specs.Str.{bytes_eq}
use Rattle.pdw_catalog.specs.declared.table.Column.{Column}
use Rattle.pdw_lex.specs.declared.keyword.Keyword.TheVariants.{KwCreate, KwDistinct, KwDrop, KwFrom, KwNot, KwNull, KwSelect, KwSet, KwTable, KwUpdate, KwWith}
use Rattle.pdw_lex.specs.declared.sign.Sign.TheVariants.{Equal, Semicolon}
use Rattle.pdw_lex.specs.declared.token.Lexeme.{Lexeme}
use Rattle.pdw_lex.specs.declared.token.Lexeme.TheVariants as lexeme
use Rattle.pdw_syntax.specs.Lexemes.{is_key, is_sign, is_word, name_of, number_of, text_of, kind_of, cost_part_of}
use Rattle.pdw_syntax.specs.Statements.{statistics_of}
use Rattle.pdw_syntax.specs.declared.statement.Statement.{Statement}
use Rattle.pdw_syntax.specs.declared.statement.Statement.TheVariants as s
use Rattle.pdw_reading.specs.Reading.{Reader, ◌>>=◌, ◌>>◌, ◌<$>◌, pure, refuse, by_next, take, eat, many, begun_by, enclosed}
use Rattle.pdw_reading.specs.ReadExprs.{Nested, listed, after_comma}
use Rattle.pdw_reading.specs.ReadQueries.{select}

abbrev pub not_null_if : Bool → Reader Bool
not_null_if written = if written then take (is_key KwNull) >> pure true else pure false

-- [ NOT NULL ]: whether NULL is allowed
unfoldable pub nullable : Reader Bool
nullable = not <$> (eat (is_key KwNot) >>= not_null_if)

unfoldable pub column : Reader Column
column = do
  called ← take name_of
  kind ← take kind_of
  (λ allowed. record { name = called; kind = kind; nullable = allowed }) <$> nullable

abbrev pub placing_if : Bool → Reader (Option (List ℕ))
placing_if hashed = if hashed then Some <$> enclosed (take name_of) else take (is_word (codes "replicate")) >> pure None

unfoldable pub placing : Reader (Option (List ℕ))
placing = eat (is_word (codes "hash")) >>= placing_if

unfoldable pub distribution : Reader (Option (List ℕ))
distribution = take (is_word (codes "distribution")) >> (take (is_sign Equal) >> placing)

unfoldable pub columns : Reader (List Column)
columns = enclosed (listed column)

-- from the word WITH on
unfoldable pub create_with : List ℕ → List Column → Reader Statement
create_with table defined = do
  take (is_key KwWith)
  hash ← enclosed distribution
  pure (s.CreateNamed table defined hash)

unfoldable pub create : Reader Statement
create = do
  take (is_key KwCreate)
  take (is_key KwTable)
  table ← take name_of
  defined ← columns
  create_with table defined

unfoldable pub drop_table : Reader Statement
drop_table = take (is_key KwDrop) >> (take (is_key KwTable) >> (s.Drop <$> take name_of))

unfoldable pub load : Reader Statement
load = do
  take (is_word (codes "load"))
  table ← take name_of
  take (is_key KwFrom)
  s.Load table <$> take text_of

unfoldable pub column_statistics : Reader (List ℕ × ℤ × ℤ)
column_statistics = do
  column ← take name_of
  take (is_key KwDistinct)
  distinct ← take number_of
  take (is_word (codes "width"))
  (λ width. (column, distinct, width)) <$> take number_of

-- after WITH
unfoldable pub handed_statistics : Reader (ℤ × List (List ℕ × ℤ × ℤ))
handed_statistics = do
  take (is_word (codes "rows"))
  rows ← take number_of
  (λ columns. (rows, columns)) <$> many (after_comma column_statistics)

-- after the table's name
abbrev pub statistics_from : List ℕ → Reader Statement
statistics_from table = statistics_of table <$> begun_by (is_key KwWith) (λ _. handed_statistics)

unfoldable pub statistics : Reader Statement
statistics = do
  take (is_key KwUpdate)
  take (is_word (codes "statistics"))
  table ← take name_of
  statistics_from table

abbrev pub cost_of : Reader Statement
cost_of = do
  take (is_word (codes "cost"))
  part ← take cost_part_of
  s.Cost part <$> take number_of

abbrev pub setting_if : Bool → Reader Statement
setting_if is_budget = if is_budget then s.Budget <$> take number_of else cost_of

-- SET BUDGET or SET COST
unfoldable pub setting : Reader Statement
setting = take (is_key KwSet) >> (eat (is_word (codes "budget")) >>= setting_if)

module _ (g : Nested) where
  abbrev pub explained_if : Bool → Reader Statement
  explained_if as_json = if as_json then s.ExplainJson <$> select g else s.Explain <$> select g

  unfoldable pub explain : Reader Statement
  explain = take (is_word (codes "explain")) >> (eat (is_word (codes "json")) >>= explained_if)

  unfoldable pub profile : Reader Statement
  profile = take (is_word (codes "profile")) >> (s.Profile <$> select g)

  unfoldable pub check_plan : Reader Statement
  check_plan = do
    take (is_word (codes "check"))
    take (is_word (codes "plan"))
    file ← take text_of
    take (is_word (codes "for"))
    s.CheckPlan file <$> select g

  -- a statement that begins with a word
  unfoldable pub worded : List ℕ → Reader Statement
  worded w =
      if bytes_eq w (codes "load") then load
      else (if bytes_eq w (codes "explain") then explain
      else (if bytes_eq w (codes "profile") then profile
      else (if bytes_eq w (codes "check") then check_plan else refuse)))

  abbrev pub statement_by : Option Lexeme → Reader Statement
  statement_by (Some (lexeme.Key KwCreate)) = create
  statement_by (Some (lexeme.Key KwDrop)) = drop_table
  statement_by (Some (lexeme.Key KwUpdate)) = statistics
  statement_by (Some (lexeme.Key KwSet)) = setting
  statement_by (Some (lexeme.Key KwSelect)) = s.Select <$> select g
  statement_by (Some (lexeme.Name w)) = worded w
  statement_by _ = refuse

  unfoldable pub statement : Reader Statement
  statement = by_next statement_by

  abbrev pub ended_by : Option Lexeme → Reader (Option Statement)
  ended_by None = pure None
  ended_by (Some l) = do
    x ← statement
    take (is_sign Semicolon)
    pure (Some x)

  -- the next statement with its semicolon, if the script goes on
  unfoldable pub next_statement : Reader (Option Statement)
  next_statement = by_next ended_by

  unfoldable pub script : Reader (List Statement)
  script = many next_statement
