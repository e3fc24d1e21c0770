-- The rows of records without a fault fit the table.
use Rattle.std.proofs.Common.{◌≡◌, ◌==◌, ◌+◌, ◌++◌, ◌∷◌, [], ℕ, ℤ, Bool, true, false, not, nat_lt, List, length, map, Option, Some, None, is_some, if◌then◌else◌, refl, arith}
use Rattle.std.proofs.lemmas.Bool.{eqb-true, ltb-false}
use Rattle.std.specs.List.{AllByRecursion}
use Rattle.std.specs.Str.{is_utf8}
use Rattle.pdw_base.specs.Value.{IsOfKind}
use Rattle.pdw_base.specs.declared.value.Kind.{Kind}
use Rattle.pdw_base.specs.declared.value.Kind.TheVariants as kind
use Rattle.pdw_base.specs.declared.value.Value.{Value}
use Rattle.pdw_base.specs.declared.value.Value.TheVariants.{Null, Text}
use Rattle.pdw_catalog.specs.Table.{AllowsNull, FitsColumn, FitsTable, IsShortText}
use Rattle.pdw_catalog.specs.declared.table.Column.{Column}
use Rattle.pdw_base.specs.declared.limits.TheConstants.{MOST_TEXT_BYTES}
use Rattle.pdw_load.specs.Field.{field_faults, int_or_null, is_null, number_of, plain_faults, plain_value, value_of}
use Rattle.pdw_load.specs.Records.{Fields, faults_along, faults_from, row_of}
use Rattle.pdw_load.specs.declared.field.Place.{Place}
use Rattle.pdw_load.specs.declared.load_error.LoadError.TheVariants.{FieldCount, BadInt, LongText, NullField, NotUtf8}

-- a value may stand in a column of this kind
abbrev pub Fits : Kind → Bool → Value → Type 0
Fits k nullable value = IsOfKind k value × AllowsNull nullable value × IsShortText value

none-of : {X : Type 0} (xs ys : List X) → xs ++ ys ≡ [] → (xs ≡ []) × (ys ≡ [])
none-of [] ys e = (refl, e)
none-of (x ∷ xs) ys e = cc e

int-fits : (at : Place) (nullable : Bool) (number : Option ℤ) → (if is_some number then [] else BadInt at.rec at.field ∷ []) ≡ [] → Fits kind.Int nullable (int_or_null number)
int-fits at nullable None e = cc e
int-fits at nullable (Some n) e = (refl, tt, tt)

text-fits : (at : Place) (nullable : Bool) (field : List ℕ) (utf8 long : Bool) → nat_lt MOST_TEXT_BYTES (length field) ≡ long
    → (if not utf8 then NotUtf8 at.rec at.field ∷ [] else if long then LongText at.rec at.field ∷ [] else []) ≡ [] → Fits kind.Text nullable (Text field)
text-fits at nullable field false long l e = cc e
text-fits at nullable field true true l e = cc e
text-fits at nullable field true false l e = (refl, tt, let short = ltb-false _ _ l in omega arith)

plain-fits : (at : Place) (nullable : Bool) (k : Kind) (field : List ℕ) → plain_faults at k field ≡ [] → Fits k nullable (plain_value k field)
plain-fits at nullable kind.Int field e = int-fits at nullable (number_of field) e
plain-fits at nullable kind.Text field e = text-fits at nullable field (is_utf8 field) (nat_lt MOST_TEXT_BYTES (length field)) refl e
plain-fits at nullable kind.Wide field e = cc e

null-fits : (at : Place) (null nullable : Bool) (k : Kind) (field : List ℕ) → (if null then (if nullable then [] else NullField at.rec at.field ∷ []) else plain_faults at k field) ≡ []
    → Fits k nullable (if null then Null else plain_value k field)
null-fits at true true k field e = (tt, refl, tt)
null-fits at true false k field e = cc e
null-fits at false nullable k field e = plain-fits at nullable k field e

field-fits : (at : Place) (column : Column) (field : List ℕ) → field_faults at column field ≡ [] → FitsColumn column (value_of column.kind field)
field-fits at column field e =
    let fits = null-fits at (is_null field) column.nullable column.kind field e in
    record { kind = fits.0; null = fits.1; short = fits.2 }

fields-fit : (number place : ℕ) (columns : List Column) (fields : Fields) → length fields ≡ length columns → faults_along number place columns fields ≡ [] → FitsTable columns (row_of columns fields)
fields-fit number place [] [] same e = tt
fields-fit number place [] (field ∷ fields) same e = absurd (omega (arith, same))
fields-fit number place (column ∷ columns) [] same e = absurd (omega (arith, same))
fields-fit number place (column ∷ columns) (field ∷ fields) same e =
    let parts = none-of _ _ e in
    (field-fits _ column field parts.0, fields-fit number (place + 1) columns fields (omega (arith, same)) parts.1)

record-fits : (columns : List Column) (number : ℕ) (fields : Fields) (same : Bool) → (length fields == length columns) ≡ same
    → (if same then faults_along number 1 columns fields else FieldCount number ∷ []) ≡ [] → FitsTable columns (row_of columns fields)
record-fits columns number fields true s e = fields-fit number 1 columns fields (eqb-true _ _ s) e
record-fits columns number fields false s e = cc e

pub records-fit : (columns : List Column) (number : ℕ) (recs : List Fields) → faults_from columns number recs ≡ [] → AllByRecursion (FitsTable columns) (map (row_of columns) recs)
records-fit columns number [] e = tt
records-fit columns number (fields ∷ recs) e =
    let parts = none-of _ _ e in
    (record-fits columns number fields (length fields == length columns) refl parts.0, records-fit columns (number + 1) recs parts.1)
