use Rattle.std.proofs.Common.{map, Some, ap, ◌∙◌}
use Rattle.serde_json.specs.View.{view}
use Rattle.pdw_planjson.proofs.KeyLaws.{elements_of_list}
use Rattle.pdw_planjson.proofs.keys.elements.Goals as goal

pub returns-in-Some : goal.returns-in-Some
returns-in-Some c = ap (λ values. Some (map view values)) c.as_slice.ensures.value ∙ elements_of_list c.in-Some.list.now.items (view c.args.value.now) c.in-Some.ensures
