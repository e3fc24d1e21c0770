-- Numbers in strings.
use Rattle.std.specs.Prelude.{ℕ, ◌==◌, ◌&&◌, ◌||◌, Bool, not, List, length, slice_index, nat_le, nat_lt, Option, Some, None, option_and_then, if◌then◌else◌}
use Rattle.std.specs.List.{list_all}
use Rattle.std.specs.Str.Parse.{digits_value}
use Rattle.pdw_base.specs.declared.schema.ColId.{ColId}

-- a decimal digit
abbrev pub is_digit : ℕ → Bool
is_digit c = nat_le 48 c && nat_le c 57

-- no leading zero but 0 itself
abbrev pub has_no_leading_zero : List ℕ → Bool
has_no_leading_zero text = (length text == 1) || not (slice_index text 0 == 48)

-- 1 to 32 digits
unfoldable pub is_numeral : List ℕ → Bool
is_numeral text = nat_lt 0 (length text) && nat_le (length text) 32 && list_all is_digit text && has_no_leading_zero text

unfoldable pub number_in : List ℕ → Option ℕ
number_in text = if is_numeral text then Some (digits_value 10 text) else None

-- a column's number is at most 65,535
abbrev pub column_numbered : ℕ → Option ColId
column_numbered number = if nat_le number 65535 then Some (record { 0 = number }) else None

abbrev pub column_in : List ℕ → Option ColId
column_in text = option_and_then column_numbered (number_in text)
