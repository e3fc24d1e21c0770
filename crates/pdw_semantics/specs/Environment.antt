-- Environments: the named values that a place of a query sees.
use Rattle.std.specs.Prelude.{ℕ, ◌&&◌, Bool, true, List, [], ◌∷◌, map, Option, Some, None}
use Rattle.std.specs.List.{filter}
use Rattle.std.specs.Str.{bytes_eq}
use Rattle.pdw_syntax.specs.declared.expr.ColRef.{ColRef}
use Rattle.pdw_base.specs.declared.value.Value.{Value}
use Rattle.pdw_base.specs.declared.value.Value.TheVariants.{Null}
use Rattle.pdw_semantics.specs.declared.labels.Cell.{Cell}
use Rattle.pdw_semantics.specs.declared.labels.Label.{Label}

-- a row of FROM, with the names of its values
abbrev pub Scope : Type 0
Scope = List Cell

-- the scopes of a query and of those that enclose it, the innermost first
abbrev pub Environment : Type 0
Environment = List Scope

-- ---- rows with names

abbrev pub labelled_one : Label → Value → Cell
labelled_one label value = record { alias = label.alias; column = label.column; value = value }

-- a row under these names
abbrev pub labelled : List Label → List Value → Scope
labelled [] row = []
labelled (label ∷ labels) [] = labelled_one label Null ∷ labelled labels []
labelled (label ∷ labels) (value ∷ row) = labelled_one label value ∷ labelled labels row

-- NULL under each of these names
abbrev pub all_null : List Label → Scope
all_null labels = map (λ label. labelled_one label Null) labels

-- ---- column references (SQL-92, 6.4)

abbrev pub has_alias : Option (List ℕ) → Cell → Bool
has_alias None cell = true
has_alias (Some alias) cell = bytes_eq alias cell.alias

abbrev pub fits : ColRef → Cell → Bool
fits ref cell = bytes_eq ref.column cell.column && has_alias ref.alias cell

abbrev pub first_value : Value → List Cell → Value
first_value otherwise [] = otherwise
first_value otherwise (cell ∷ cells) = cell.value

-- a reference means the value in the first scope that has a match
abbrev pub looked_up : ColRef → Environment → Value
looked_up ref [] = Null
looked_up ref (scope ∷ scopes) = first_value (looked_up ref scopes) (filter (fits ref) scope)

-- ---- groups

-- what a value is computed over: some rows of FROM, of which there is one where the query is not grouped, and the
-- scopes that enclose the query
pub record Group : Type 0 where
  pub rows : List Scope
  pub outers : List Scope

abbrev pub group_of : List Scope → List Scope → Group
group_of rows outers = record { rows = rows; outers = outers }

abbrev pub alone : List Scope → Scope → Group
alone outers row = group_of (row ∷ []) outers

abbrev pub first_row : List Scope → Scope
first_row [] = []
first_row (row ∷ rows) = row

-- a column outside an aggregate is the same in all rows of a group: that of the first
abbrev pub environment : Group → Environment
environment group = first_row group.rows ∷ group.outers
