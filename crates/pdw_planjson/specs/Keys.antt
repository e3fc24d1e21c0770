-- What stands at a key of an object.
use Rattle.std.specs.Prelude.{ℕ, ◌==◌, Bool, false, List, [], ◌∷◌, Option, option_and_then, option_map, unwrap_or}
use Rattle.serde_json.specs.Data.{Data, Items, no_items, item, Members}
use Rattle.serde_json.specs.Events.{members_len}
use Rattle.serde_json.specs.Find.{as_array, as_number, as_object, as_str, as_u64, get}

abbrev pub list_of : Items → List Data
list_of no_items = []
list_of (item d ds) = d ∷ list_of ds

-- a number that is read as an unsigned whole number; any other number breaks the rule of its place
abbrev pub whole_of : Data → Option ℕ
whole_of d = option_and_then as_u64 (as_number d)

abbrev pub elements_of : Data → Option (List Data)
elements_of d = option_map list_of (as_array d)

abbrev pub text_at : List ℕ → Data → Option (List ℕ)
text_at key d = option_and_then as_str (get key d)

abbrev pub whole_at : List ℕ → Data → Option ℕ
whole_at key d = option_and_then whole_of (get key d)

abbrev pub list_at : List ℕ → Data → Option (List Data)
list_at key d = option_and_then elements_of (get key d)

-- an object with four keys; with a value at each of four names, it has these keys exactly
abbrev pub has_four : Data → Bool
has_four d = unwrap_or (option_map (λ (ms : Members). members_len ms == 4) (as_object d)) false
