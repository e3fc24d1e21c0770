-- The two ways in which values compare: a comparison of SQL, and the total order of ORDER BY.
use Rattle.std.specs.Prelude.{ℕ, ℤ, pos, List, [], Option, Some, None}
use Rattle.std.specs.declared.cmp.Ordering.{Ordering}
use Rattle.std.specs.Ordering.{nat_cmp, int_cmp, on, then_cmp}
use Rattle.std.specs.Cmp.Lexicographic.{slice_cmp}
use Rattle.pdw_base.specs.declared.value.Value.{Value}
use Rattle.pdw_base.specs.declared.value.Value.TheVariants.{Null, Int, Text, Wide}

-- two values of one kind other than NULL compare, numbers by size and texts byte by byte (SQL-92, 8.2)
abbrev pub compared : Value → Value → Option Ordering
compared (Int a) (Int b) = Some (int_cmp a b)
compared (Text a) (Text b) = Some (slice_cmp nat_cmp a b)
compared (Wide a) (Wide b) = Some (int_cmp a b)
compared _ _ = None

-- NULL, then numbers, then texts, then wide numbers
abbrev pub class : Value → ℕ
class Null = 0
class (Int n) = 1
class (Text t) = 2
class (Wide n) = 3

abbrev pub number : Value → ℤ
number Null = pos 0
number (Int n) = n
number (Text t) = pos 0
number (Wide n) = n

abbrev pub letters : Value → List ℕ
letters Null = []
letters (Int n) = []
letters (Text t) = t
letters (Wide n) = []

-- by class, then by number, then byte by byte
abbrev pub value_cmp : Value → Value → Ordering
value_cmp = then_cmp (on class nat_cmp) (then_cmp (on number int_cmp) (on letters (slice_cmp nat_cmp)))
