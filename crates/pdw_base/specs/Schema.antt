-- Columns by their numbers, and the positional rows that fit them.
use Rattle.std.specs.Prelude.{⊤, ◌==◌, ℕ, ◌<◌, List, [], ◌∷◌, Option, AllPairs, position, map, if◌then◌else◌}
use Rattle.pdw_base.specs.declared.schema.ColId.{ColId}
use Rattle.pdw_base.specs.declared.value.Kind.{Kind}
use Rattle.pdw_base.specs.declared.value.Value.{Value}
use Rattle.pdw_base.specs.declared.value.Value.TheVariants.{Null}
use Rattle.pdw_base.specs.Value.{IsOfKind}

abbrev pub Columns : Type 0
Columns = List (ColId × Kind)

-- each column has a smaller number than those after it
abbrev pub IsAscending : Columns → Type 0
IsAscending = AllPairs (λ c d. c.0.0 < d.0.0)

-- where the column of this number stands
abbrev pub place_of : ColId → Columns → Option ℕ
place_of c = position (λ column. column.0.0 == c.0)

-- an environment gives each column a value, and NULL to each that it does not have
abbrev pub Env : Type 0
Env = ColId → Value

-- the environment of a positional row
abbrev pub cell : Columns → List Value → Env
cell [] row c = Null
cell (column ∷ columns) [] c = Null
cell (column ∷ columns) (value ∷ row) c = if column.0.0 == c.0 then value else cell columns row c

-- the positional row of an environment
abbrev pub row_over : Columns → Env → List Value
row_over columns env = map (λ column. env column.0) columns

-- a row has one value for each column, each NULL or of the column's kind
abbrev pub FitsColumns : Columns → List Value → Type 0
FitsColumns [] [] = ⊤
FitsColumns [] (value ∷ row) = ⊥
FitsColumns (column ∷ columns) [] = ⊥
FitsColumns (column ∷ columns) (value ∷ row) = IsOfKind column.1 value × FitsColumns columns row
