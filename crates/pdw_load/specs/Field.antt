-- What a field of a record says in a column of a table: its value, or its fault.
use Rattle.std.specs.Prelude.{◌&&◌, ◌^◌, ◌∷◌, [], not, Bool, ℕ, ℤ, pos, negsuc, nat_lt, List, length, Option, Some, None, is_some, codes, if◌then◌else◌}
use Rattle.std.specs.Str.{all_ascii_digits, bytes_eq, is_utf8}
use Rattle.std.specs.Str.Parse.{signed_digits_value, without_leading_sign}
use Rattle.pdw_base.specs.declared.value.Kind.{Kind}
use Rattle.pdw_base.specs.declared.value.Kind.TheVariants as kind
use Rattle.pdw_base.specs.declared.value.Value.{Value}
use Rattle.pdw_base.specs.declared.value.Value.TheVariants.{Null, Int, Text}
use Rattle.pdw_catalog.specs.declared.table.Column.{Column}
use Rattle.pdw_base.specs.declared.limits.TheConstants.{MOST_TEXT_BYTES}
use Rattle.pdw_load.specs.declared.field.Place.{Place}
use Rattle.pdw_load.specs.declared.load_error.LoadError.{LoadError}
use Rattle.pdw_load.specs.declared.load_error.LoadError.TheVariants.{BadInt, LongText, NullField, NotUtf8}

-- `\N` stands for NULL in every column, quoted or not
abbrev pub is_null : List ℕ → Bool
is_null field = bytes_eq field (codes "\\N")

-- a sign or none, and then at least one decimal digit and nothing else
abbrev pub is_whole_number : List ℕ → Bool
is_whole_number field = nat_lt 0 (length (without_leading_sign field)) && all_ascii_digits (without_leading_sign field)

-- from -2^63 to 2^63 - 1
abbrev pub fits_64_bits : ℤ → Bool
fits_64_bits (pos n) = nat_lt n (2 ^ 63)
fits_64_bits (negsuc n) = nat_lt n (2 ^ 63)

-- the number of a field: what its decimal digits say, below zero after `-` (at decimal digits the library's word says just that)
abbrev pub number_of : List ℕ → Option ℤ
number_of field =
    if is_whole_number field && fits_64_bits (signed_digits_value 10 field) then Some (signed_digits_value 10 field) else None

abbrev pub int_or_null : Option ℤ → Value
int_or_null None = Null
int_or_null (Some n) = Int n

-- the value of a field that has no fault; no field is a wide number, since no table has a column of them
abbrev pub plain_value : Kind → List ℕ → Value
plain_value kind.Int field = int_or_null (number_of field)
plain_value kind.Text field = Text field
plain_value kind.Wide field = Null

abbrev pub value_of : Kind → List ℕ → Value
value_of k field = if is_null field then Null else plain_value k field

-- a text is in UTF-8, and then it is not too long
abbrev pub text_faults : Place → List ℕ → List LoadError
text_faults at field =
    if not (is_utf8 field) then NotUtf8 at.rec at.field ∷ []
    else if nat_lt MOST_TEXT_BYTES (length field) then LongText at.rec at.field ∷ []
    else []

abbrev pub plain_faults : Place → Kind → List ℕ → List LoadError
plain_faults at kind.Int field = if is_some (number_of field) then [] else BadInt at.rec at.field ∷ []
plain_faults at kind.Text field = text_faults at field
plain_faults at kind.Wide field = BadInt at.rec at.field ∷ []

-- the fault of the field at a place, one at most
abbrev pub field_faults : Place → Column → List ℕ → List LoadError
field_faults at column field =
    if is_null field then (if column.nullable then [] else NullField at.rec at.field ∷ [])
    else plain_faults at column.kind field
