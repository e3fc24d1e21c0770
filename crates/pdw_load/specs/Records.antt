-- The records of a file, their faults, and the rows that they are.
use Rattle.std.specs.Prelude.{◌==◌, ◌∷◌, [], ℕ, List, length, map, flat_map, zip, if◌then◌else◌}
use Rattle.std.specs.List.{enumerate_from}
use Rattle.csv.specs.Reading.{default_config, records, strip_bom}
use Rattle.pdw_catalog.specs.Table.{Row}
use Rattle.pdw_catalog.specs.declared.table.Column.{Column}
use Rattle.pdw_catalog.specs.declared.table.Table.{Table}
use Rattle.pdw_load.specs.Field.{field_faults, value_of}
use Rattle.pdw_load.specs.declared.load_error.LoadError.{LoadError}
use Rattle.pdw_load.specs.declared.load_error.LoadError.TheVariants.{FieldCount}

-- a record is the list of its fields, each the bytes that it has without its quotes
abbrev pub Fields : Type 0
Fields = List (List ℕ)

-- the records of a file: between commas, in double quotes or not, with no header; a byte order mark at its start is no part of them
abbrev pub records_of : List ℕ → List Fields
records_of bytes = records default_config (strip_bom bytes)

-- the row of a record: each field's value in its column
abbrev pub row_of : List Column → Fields → Row
row_of columns fields = map (λ pair. value_of pair.0.kind pair.1) (zip columns fields)

-- the faults of the fields from a place on, from the left
abbrev pub faults_along : ℕ → ℕ → List Column → Fields → List LoadError
faults_along number place columns fields =
    flat_map (λ numbered. field_faults (record { rec = number; field = numbered.0 }) numbered.1.0 numbered.1.1) (enumerate_from place (zip columns fields))

-- the faults of a record: that of its length alone, or else those of its fields
abbrev pub record_faults : List Column → ℕ → Fields → List LoadError
record_faults columns number fields =
    if length fields == length columns then faults_along number 1 columns fields else FieldCount number ∷ []

-- the faults of the records, of which the first has this number
abbrev pub faults_from : List Column → ℕ → List Fields → List LoadError
faults_from columns number recs = flat_map (λ numbered. record_faults columns numbered.0 numbered.1) (enumerate_from number recs)

-- the faults of all records of a file, in order
abbrev pub faults_of : Table → List Fields → List LoadError
faults_of table recs = faults_from table.columns 1 recs

-- the rows of all records of a file, in order
abbrev pub rows_of : Table → List Fields → List Row
rows_of table recs = map (row_of table.columns) recs
