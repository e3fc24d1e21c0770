-- Lists of values as data.
use Rattle.std.proofs.Common.{◌≡◌, List, [], ◌∷◌, map, Option, Some, option_map, refl, sym, ap, ◌∙◌}
use Rattle.serde_json.specs.Data.{Data}
use Rattle.serde_json.specs.Find.{as_array}
use Rattle.serde_json.specs.View.{items_of, items_view, view}
use Rattle.serde_json.specs.declared.value.Value.{Value}
use Rattle.pdw_planjson.specs.Keys.{elements_of, list_of}

pub list_of_items : (ds : List Data) → list_of (items_of ds) ≡ ds
list_of_items [] = refl
list_of_items (d ∷ ds) = ap (λ more. d ∷ more) (list_of_items ds)

pub elements_of_list : (values : List Value) (d : Data) → Some (items_view values) ≡ as_array d → Some (map view values) ≡ elements_of d
elements_of_list values d is = ap Some (sym (list_of_items (map view values))) ∙ ap (option_map list_of) is
