-- The judgement: what a statement does, or its first fault, by its words and the tables that there are.
use Rattle.std.specs.Prelude.{◌≡◌, ◌≢◌, ℕ, ℤ, pos, negsuc, ◌==◌, ◌&&◌, leb, Bool, List, [], ◌∷◌, ◌++◌, length, position, Option, Some, None, Result, Ok, Err, is_some, unsigned_abs, codes, not, false}
use Rattle.std.specs.List.{list_any}
use Rattle.std.specs.Str.{bytes_eq}
use Rattle.pdw_syntax.specs.declared.query.Select.{Select}
use Rattle.pdw_syntax.specs.declared.statement.CostPart.{CostPart}
use Rattle.pdw_syntax.specs.declared.statement.CostPart.TheVariants as cost
use Rattle.pdw_syntax.specs.declared.statement.Statement.{Statement}
use Rattle.pdw_syntax.specs.declared.statement.Statement.TheVariants as s
use Rattle.pdw_catalog.specs.Catalog.{Tables, table_named}
use Rattle.pdw_catalog.specs.declared.table.Column.{Column}
use Rattle.pdw_catalog.specs.declared.table.Placing.{Placing}
use Rattle.pdw_catalog.specs.declared.table.Placing.TheVariants.{Hash, Replicate}
use Rattle.pdw_catalog.specs.declared.table.Table.{Table}
use Rattle.pdw_catalog.specs.declared.table.TheConstants.{MOST_COLUMNS, MOST_TABLES}
use Rattle.pdw_walk.specs.Queries.{select}
use Rattle.pdw_walk.specs.Walk.{Outcome, done, refused, Step, ◌>>=◌, ◌>>◌, ◌<$>◌, pure, refuse, refuse_if, over, beginning}
use Rattle.pdw_walk.specs.declared.fault.JudgeFault.{JudgeFault}
use Rattle.pdw_walk.specs.declared.fault.JudgeFault.TheVariants.{BadSetting, DuplicateName, Limit, Memory, TableExists, UnknownColumn, UnknownTable}
use Rattle.pdw_walk.specs.declared.fault.LimitName.TheVariants as limit
use Rattle.pdw_walk.specs.declared.fault.TheConstants.{MOST_BUDGET, MOST_COST, MOST_STATISTIC, MOST_WIDTH}
use Rattle.pdw_form.specs.declared.judged.Judged.{Judged}
use Rattle.pdw_form.specs.declared.judged.Judged.TheVariants as judged

-- ---- CREATE TABLE

abbrev pub is_named : List ℕ → Column → Bool
is_named name column = bytes_eq column.name name

-- one column more: one too many, or a name that an earlier one has
abbrev pub new_column : List Column → Column → Step (List Column)
new_column before column =
    refuse_if (length before == MOST_COLUMNS) (Limit limit.Columns MOST_COLUMNS)
    >> (refuse_if (list_any (is_named column.name) before) (DuplicateName column.name)
    >> pure (before ++ column ∷ []))

-- the place of a column, which has to be there
abbrev pub place_or_fault : List ℕ → Option ℕ → Step ℕ
place_or_fault name None = refuse (UnknownColumn name)
place_or_fault name (Some place) = pure place

unfoldable pub place_of_column : List Column → List ℕ → Step ℕ
place_of_column columns name = place_or_fault name (position (is_named name) columns)

abbrev pub placing : List Column → Option (List ℕ) → Step Placing
placing columns None = pure Replicate
placing columns (Some name) = Hash <$> place_of_column columns name

abbrev pub table_of : List ℕ → List Column → Placing → Table
table_of name columns placing = record { name = name; columns = columns; placing = placing }

-- ---- numbers of settings and statistics

-- a number from a least to a greatest one
abbrev pub lies_in : ℕ → ℕ → ℤ → Bool
lies_in least most (pos n) = leb least n && leb n most
lies_in least most (negsuc n) = false

unfoldable pub setting : List ℕ → ℕ → ℕ → ℤ → Step ℕ
setting name least most amount = refuse_if (not (lies_in least most amount)) (BadSetting name amount) >> pure (unsigned_abs amount)

-- whether statistics are of the column of this place
abbrev pub is_of_place : ℕ → (ℕ × ℕ × ℕ) → Bool
is_of_place place statistic = statistic.0 == place

-- the statistics of one column more, named by its place: an unknown one, one that was named before, and then its numbers
abbrev pub new_statistic : List Column → List (ℕ × ℕ × ℕ) → (List ℕ × ℤ × ℤ) → Step (List (ℕ × ℕ × ℕ))
new_statistic columns before (name, distinct, width) = do
  place ← place_of_column columns name
  refuse_if (list_any (is_of_place place) before) (DuplicateName name)
  values ← setting (codes "distinct") 1 MOST_STATISTIC distinct
  bytes ← setting (codes "width") 1 MOST_WIDTH width
  pure (before ++ (place, values, bytes) ∷ [])

abbrev pub cost_name : CostPart → List ℕ
cost_name cost.Reader = codes "reader"
cost_name cost.HashReader = codes "hashreader"
cost_name cost.Network = codes "network"
cost_name cost.Writer = codes "writer"
cost_name cost.Bulk = codes "bulk"
cost_name cost.Control = codes "control"

unfoldable pub budget_setting : ℤ → Step Judged
budget_setting amount = judged.Budget <$> setting (codes "budget") 1 MOST_BUDGET amount

unfoldable pub cost_setting : CostPart → ℤ → Step Judged
cost_setting part amount = judged.Cost part <$> setting (cost_name part) 1 MOST_COST amount

module _ (tables : Tables) where
  -- a known table, then the columns, then the hash column, then one table too many
  unfoldable pub create : List ℕ → List Column → Option (List ℕ) → Step Judged
  create name columns hash = do
    refuse_if (is_some (table_named name tables)) (TableExists name)
    over new_column [] columns
    where_rows ← placing columns hash
    refuse_if (leb MOST_TABLES (length tables)) (Limit limit.Tables MOST_TABLES)
    pure (judged.Create (table_of name columns where_rows))

  -- ---- statements about a table that has to be there

  abbrev pub known_or_fault : List ℕ → Option Table → Step Table
  known_or_fault name None = refuse (UnknownTable name)
  known_or_fault name (Some table) = pure table

  unfoldable pub known : List ℕ → Step Table
  known name = known_or_fault name (table_named name tables)

  -- what is done with a table, which has to be there
  unfoldable pub with_known : List ℕ → Judged → Step Judged
  with_known name work = known name >> pure work

  unfoldable pub hand : List ℕ → ℤ → List (List ℕ × ℤ × ℤ) → Step Judged
  hand name rows cols = do
    table ← known name
    count ← setting (codes "rows") 0 MOST_STATISTIC rows
    statistics ← over (new_statistic table.columns) [] cols
    pure (judged.Hand name count statistics)

  -- a plan for a query, which is written to a file
  abbrev pub plan_check : List ℕ → Select → Step Judged
  plan_check file query = judged.CheckPlan file <$> select tables query

  -- ---- any statement

  unfoldable pub statement : Statement → Step Judged
  statement (s.CreateNamed name columns hash) = create name columns hash
  statement (s.Drop name) = with_known name (judged.Drop name)
  statement (s.Load name file) = with_known name (judged.Load name file)
  statement (s.Measure name) = with_known name (judged.Measure name)
  statement (s.Hand name rows cols) = hand name rows cols
  statement (s.Budget amount) = budget_setting amount
  statement (s.Cost part amount) = cost_setting part amount
  statement (s.Select query) = judged.Select <$> select tables query
  statement (s.Explain query) = judged.Explain <$> select tables query
  statement (s.ExplainJson query) = judged.ExplainJson <$> select tables query
  statement (s.Profile query) = judged.Profile <$> select tables query
  statement (s.CheckPlan file query) = plan_check file query

-- ---- what `judge` answers

abbrev pub answer_of : {A : Type 0} → Outcome A → Result A JudgeFault
answer_of (done a w) = Ok a
answer_of (refused fault) = Err fault

-- what the statement does, or its first fault
abbrev pub judgement : Tables → Statement → Result Judged JudgeFault
judgement tables s = answer_of (statement tables s beginning)

-- the answer is the judgement's, unless memory is wanted
abbrev pub Answers : {A : Type 0} → Result A JudgeFault → Result A JudgeFault → Type 0
Answers judgement (Ok a) = judgement ≡ Ok a
Answers judgement (Err fault) = fault ≢ Memory → judgement ≡ Err fault
