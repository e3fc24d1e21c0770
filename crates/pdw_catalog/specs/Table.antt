-- What a table's rows are.
use Rattle.std.specs.Prelude.{◌≡◌, ⊤, ℕ, ◌≤◌, ◌<◌, Bool, true, List, [], ◌∷◌, length, slice_index_or}
use Rattle.pdw_base.specs.declared.value.Kind.{Kind}
use Rattle.pdw_base.specs.declared.value.Kind.TheVariants as kind
use Rattle.pdw_base.specs.declared.value.Value.{Value}
use Rattle.pdw_base.specs.declared.value.Value.TheVariants.{Null, Int, Text, Wide}
use Rattle.pdw_base.specs.Value.{IsOfKind}
use Rattle.pdw_catalog.specs.declared.table.Column.{Column}
use Rattle.pdw_catalog.specs.declared.table.Placing.{Placing}
use Rattle.pdw_catalog.specs.declared.table.Placing.TheVariants.{Hash, Replicate}
use Rattle.pdw_base.specs.declared.limits.TheConstants.{MOST_HASH_ROWS, MOST_REPLICATED_ROWS, MOST_TEXT_BYTES}

abbrev pub Row : Type 0
Row = List Value

-- a text in a table is not too long
abbrev pub IsShortText : Value → Type 0
IsShortText Null = ⊤
IsShortText (Int n) = ⊤
IsShortText (Text bytes) = length bytes ≤ MOST_TEXT_BYTES
IsShortText (Wide n) = ⊤

-- NULL stands only where the column allows it (SQL-92, 4.8)
abbrev pub AllowsNull : Bool → Value → Type 0
AllowsNull nullable Null = nullable ≡ true
AllowsNull nullable (Int n) = ⊤
AllowsNull nullable (Text bytes) = ⊤
AllowsNull nullable (Wide n) = ⊤

-- a value may stand in a column of a table
pub record FitsColumn (column : Column) (value : Value) : Type 0 where
  pub kind : IsOfKind column.kind value
  pub null : AllowsNull column.nullable value
  pub short : IsShortText value

-- a row fits the columns of a table: it has one value for each, which may stand there
abbrev pub FitsTable : List Column → Row → Type 0
FitsTable [] [] = ⊤
FitsTable [] (value ∷ row) = ⊥
FitsTable (column ∷ columns) [] = ⊥
FitsTable (column ∷ columns) (value ∷ row) = FitsColumn column value × FitsTable columns row

-- a column of a table is of kind INT or TEXT: wide numbers stand between a partial and a final aggregate alone
abbrev pub IsStoredKind : Kind → Type 0
IsStoredKind kind.Int = ⊤
IsStoredKind kind.Text = ⊤
IsStoredKind kind.Wide = ⊥

-- the value in a column of a positional row, counted from 0
abbrev pub value_at : ℕ → Row → Value
value_at column row = slice_index_or row column Null

-- the most rows that a table may have
abbrev pub most_rows : Placing → ℕ
most_rows (Hash column) = MOST_HASH_ROWS
most_rows Replicate = MOST_REPLICATED_ROWS

-- the hash column is one of the columns
abbrev pub IsPlaced : Placing → ℕ → Type 0
IsPlaced (Hash column) columns = column < columns
IsPlaced Replicate columns = ⊤
