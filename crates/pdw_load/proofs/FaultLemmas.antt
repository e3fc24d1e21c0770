-- The first fault of a part is that of the whole, field by field and record by record.
use Rattle.std.proofs.Common.{◌≡◌, ◌<◌, ◌+◌, ◌++◌, ◌∷◌, [], ℕ, List, length, get_or, drop, map, Some, refl, sym, ap, ◌∙◌, inl, inr, append_assoc, add-one}
use Rattle.std.proofs.Math.Seq.{drop-cons}
use Rattle.std.proofs.lemmas.Bool.{eq-eqb}
use Rattle.csv.specs.Records.{field_at}
use Rattle.csv.proofs.RecordFacts.{field-get}
use Rattle.pdw_base.specs.declared.value.Value.{Value}
use Rattle.pdw_catalog.specs.Table.{Row}
use Rattle.pdw_catalog.specs.declared.table.Column.{Column}
use Rattle.pdw_load.specs.Field.{field_faults, value_of}
use Rattle.pdw_load.specs.LoadError.{IsFirstFault}
use Rattle.pdw_load.specs.Records.{Fields, faults_along, faults_from, record_faults, row_of}
use Rattle.pdw_load.specs.declared.load_error.LoadError.{LoadError}

-- the first of some faults is the first of those and more
pub first-of : (e : LoadError) (part more faults : List LoadError) → IsFirstFault e part → part ++ more ≡ faults → IsFirstFault e faults
first-of e part more faults (inl memory) whole = inl memory
first-of e part more faults (inr first) whole = inr (first.0 ++ more, rw first.1 at (sym whole))

-- what is left of the fields, and of the columns, is one and the rest
pub left-fields : (fields : Fields) (at : ℕ) (field : List ℕ) → at < length fields → field_at fields at ≡ Some field → drop at fields ≡ field ∷ drop (at + 1) fields
left-fields fields at field within found =
    drop-cons fields at [] within ∙ rw (field-get fields at field found, add-one at) refl

pub left-columns : (columns : List Column) (at : ℕ) (column : Column) → at < length columns → get_or columns at column ≡ column → drop at columns ≡ column ∷ drop (at + 1) columns
left-columns columns at column within found = drop-cons columns at column within ∙ rw (found, add-one at) refl

-- the faults from a place on are those of its field and those after it
pub faults-more : (number at : ℕ) (columns : List Column) (fields : Fields) (column : Column) (field : List ℕ) → drop at columns ≡ column ∷ drop (at + 1) columns → drop at fields ≡ field ∷ drop (at + 1) fields
    → field_faults (record { rec = number; field = at + 1 }) column field ++ faults_along number (at + 1 + 1) (drop (at + 1) columns) (drop (at + 1) fields)
    ≡ faults_along number (at + 1) (drop at columns) (drop at fields)
faults-more number at columns fields column field c f = rw (c, f) refl

-- the values from a place on are that of its field and those after it
pub values-more : (at : ℕ) (columns : List Column) (fields : Fields) (column : Column) (field : List ℕ) (values : List Value) → drop at columns ≡ column ∷ drop (at + 1) columns → drop at fields ≡ field ∷ drop (at + 1) fields
    → (values ++ value_of column.kind field ∷ []) ++ row_of (drop (at + 1) columns) (drop (at + 1) fields) ≡ values ++ row_of (drop at columns) (drop at fields)
values-more at columns fields column field values c f = rw (c, f) (append_assoc values (value_of column.kind field ∷ []) _)

-- the faults of a record with a field for each column are those of its fields
pub record-faults : (columns : List Column) (number : ℕ) (fields : Fields) → length fields ≡ length columns → record_faults columns number fields ≡ faults_along number 1 columns fields
record-faults columns number fields same = rw (eq-eqb _ _ same) refl

-- a faulty record that comes next, whose number is one more than that of the rows so far, has the first fault of all
pub fault-of-next : (columns slice : List Column) (rows len : ℕ) (left rest : List Fields) (fields : Fields) (all : List LoadError) (e : LoadError) → slice ≡ columns → len ≡ rows → left ≡ fields ∷ rest
    → faults_from columns (rows + 1) left ≡ all → IsFirstFault e (record_faults slice (len + 1) fields) → IsFirstFault e all
fault-of-next columns slice rows len left rest fields all e same_columns same_count next faults first =
    first-of e (record_faults columns (rows + 1) fields) (faults_from columns (rows + 1 + 1) rest) all (rw (same_columns, same_count) at first) (rw next at faults)

-- after a record without a fault the faults of the others are all that there are
pub faults-after : (columns slice : List Column) (rows len : ℕ) (left rest : List Fields) (fields : Fields) (all : List LoadError) → slice ≡ columns → len ≡ rows → left ≡ fields ∷ rest
    → faults_from columns (rows + 1) left ≡ all → record_faults slice (len + 1) fields ≡ [] → faults_from columns (rows + 1 + 1) rest ≡ all
faults-after columns slice rows len left rest fields all same_columns same_count next faults none =
    ap (λ these. these ++ faults_from columns (rows + 1 + 1) rest) (sym (rw (same_columns, same_count) at none)) ∙ rw next at faults

-- a record that comes next moves from what is left to the rows so far
pub rows-after : (columns slice : List Column) (rows all : List Row) (left rest : List Fields) (fields : Fields) (row : Row) → slice ≡ columns → left ≡ fields ∷ rest
    → rows ++ map (row_of columns) left ≡ all → row ≡ row_of slice fields → (rows ++ row ∷ []) ++ map (row_of columns) rest ≡ all
rows-after columns slice rows all left rest fields row same_columns next whole is =
    append_assoc rows (row ∷ []) (map (row_of columns) rest) ∙ ap (λ this. rows ++ this ∷ map (row_of columns) rest) (rw same_columns at is) ∙ rw next at whole
