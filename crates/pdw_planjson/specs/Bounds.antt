-- The bounds of a file: for each group a list of numbers in strings, in which `none` stands for the unreachable.
use Rattle.std.specs.Prelude.{ℕ, List, [], ◌∷◌, ◌++◌, Option, Some, None, Result, Ok, Err, bytes_eq, codes, option_and_then, option_map, if◌then◌else◌}
use Rattle.serde_json.specs.Data.{Data}
use Rattle.serde_json.specs.Find.{as_str}
use Rattle.pdw_planjson.specs.Keys.{elements_of}
use Rattle.pdw_planjson.specs.Numerals.{number_in}
use Rattle.pdw_planjson.specs.Stack.{run}
use Rattle.pdw_planjson.specs.declared.file.Place.{Place}
use Rattle.pdw_planjson.specs.declared.file.Place.TheVariants.{Bound}
use Rattle.pdw_ways.specs.declared.plan.Bounds.{Bounds}

unfoldable pub bound_in : List ℕ → Option (Option ℕ)
bound_in text = if bytes_eq text (codes "none") then Some None else option_map Some (number_in text)

abbrev pub bound_of : Data → Option (Option ℕ)
bound_of d = option_and_then bound_in (as_str d)

-- ---- a list

abbrev pub with_bound : Data → List (Option ℕ) → Option (List (Option ℕ))
with_bound d list = option_map (λ bound. list ++ bound ∷ []) (bound_of d)

abbrev pub if_ended : {S : Type 0} → Result S ℕ → Option S
if_ended (Ok state) = Some state
if_ended (Err number) = None

abbrev pub list_in : List Data → Option (List (Option ℕ))
list_in ds = if_ended (run (λ place. with_bound) 0 ds [])

-- ---- the lists

abbrev pub with_list : Data → List (List (Option ℕ)) → Option (List (List (Option ℕ)))
with_list d lists = option_map (λ list. lists ++ list ∷ []) (option_and_then list_in (elements_of d))

abbrev pub bounds_or_place : Result (List (List (Option ℕ))) ℕ → Result Bounds Place
bounds_or_place (Ok lists) = Ok (record { lists = lists })
bounds_or_place (Err group) = Err (Bound group)

-- or the first list that is none
abbrev pub bounds_in : List Data → Result Bounds Place
bounds_in ds = bounds_or_place (run (λ group. with_list) 0 ds [])
