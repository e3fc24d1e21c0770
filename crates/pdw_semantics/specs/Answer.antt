-- The rows of a SELECT, and the orders in which they may be given (SQL-92, 13.1).
use Rattle.std.specs.Prelude.{◌≢◌, ℕ, pos, negsuc, ◌-◌, Bool, List, [], ◌∷◌, map, AllPairs, Option, Some, None, position, if◌then◌else◌}
use Rattle.std.specs.List.Sorted.{IsPermutation}
use Rattle.std.specs.Ordering.{ordering_then}
use Rattle.std.specs.Str.{bytes_eq}
use Rattle.std.specs.declared.cmp.Ordering.{Ordering}
use Rattle.std.specs.declared.cmp.Ordering.TheVariants.{Less, Equal}
use Rattle.pdw_syntax.specs.declared.query.OrderKey.{OrderKey}
use Rattle.pdw_syntax.specs.declared.query.OrderName.{OrderName}
use Rattle.pdw_syntax.specs.declared.query.OrderName.TheVariants.{Name, Position}
use Rattle.pdw_syntax.specs.declared.query.Select.{Select}
use Rattle.pdw_base.specs.Comparison.{value_cmp}
use Rattle.pdw_base.specs.declared.value.Value.{Value}
use Rattle.pdw_catalog.specs.Database.{Database}
use Rattle.pdw_catalog.specs.Table.{value_at}
use Rattle.pdw_semantics.specs.Queries.{query}

-- the rows of a SELECT over whole tables, as a bag: in any order
unfoldable pub answer : Database → Select → List (List Value)
answer database s = (query database s.query).rows []

-- ---- ORDER BY

abbrev pub place_or_first : Option ℕ → ℕ
place_or_first None = 0
place_or_first (Some place) = place

-- the place of an output column, from 0, by its name or by its position from 1
abbrev pub place_of : List (List ℕ) → OrderName → ℕ
place_of names (Name name) = place_or_first (position (bytes_eq name) names)
place_of names (Position (pos position)) = position - 1
place_of names (Position (negsuc n)) = 0

-- the places of the order keys, each with whether it is descending
abbrev pub order_of : List (List ℕ) → List OrderKey → List (ℕ × Bool)
order_of names keys = map (λ key. (place_of names key.name, key.descending)) keys

-- by one key: NULL comes first ascending and last descending
abbrev pub key_cmp : (ℕ × Bool) → List Value → List Value → Ordering
key_cmp key a b =
    if key.1 then value_cmp (value_at key.0 b) (value_at key.0 a) else value_cmp (value_at key.0 a) (value_at key.0 b)

-- by the first key, then by the next, and so on
abbrev pub keys_cmp : List (ℕ × Bool) → List Value → List Value → Ordering
keys_cmp [] a b = Equal
keys_cmp (key ∷ keys) a b = ordering_then (key_cmp key a b) (keys_cmp keys a b)

-- rows in an order that these keys allow: no later row has keys before those of an earlier one
abbrev pub IsOrdered : List (ℕ × Bool) → List (List Value) → Type 0
IsOrdered keys rows = AllPairs (λ earlier later. keys_cmp keys later earlier ≢ Less) rows

-- a lawful answer: the rows of the SELECT, rearranged in an order that its keys allow
pub record IsLawful (database : Database) (s : Select) (rows : List (List Value)) : Type 0 where
  pub rearranged : IsPermutation (answer database s) rows
  pub ordered : IsOrdered (order_of (query database s.query).names s.order) rows
