-- The text of a SELECT.
use Rattle.std.specs.Prelude.{ℕ, ◌==◌, List, [], ◌∷◌, ◌++◌, length, codes, if◌then◌else◌}
use Rattle.std.specs.List.{flat_map, join_by}
use Rattle.std.specs.Fmt.{decimal, signed_decimal}
use Rattle.pdw_base.specs.declared.value.Value.{Value}
use Rattle.pdw_base.specs.declared.value.Value.TheVariants.{Null, Int, Text, Wide}

-- a text in double quotes, with each double quote in it doubled
abbrev pub quoted : List ℕ → List ℕ
quoted bytes = 34 ∷ (flat_map (λ byte. if byte == 34 then 34 ∷ 34 ∷ [] else byte ∷ []) bytes ++ 34 ∷ [])

-- a value: a number in digits, with `-` where it is negative
abbrev pub value_text : Value → List ℕ
value_text Null = codes "NULL"
value_text (Int number) = signed_decimal number
value_text (Text bytes) = quoted bytes
value_text (Wide number) = signed_decimal number

-- a row: its values with commas between them
abbrev pub row_text : List Value → List ℕ
row_text row = join_by value_text (codes ",") row ++ codes "\n"

-- what SELECT prints: the output names, the rows and their number
abbrev pub header_text : List (List ℕ) → List ℕ
header_text names = join_by (λ name. name) (codes ",") names ++ codes "\n"

abbrev pub count_text : ℕ → List ℕ
count_text rows = codes "ROWS " ++ (decimal rows ++ codes "\n")

abbrev pub rows_text : List (List ℕ) → List (List Value) → List ℕ
rows_text names rows = header_text names ++ (flat_map row_text rows ++ count_text (length rows))
