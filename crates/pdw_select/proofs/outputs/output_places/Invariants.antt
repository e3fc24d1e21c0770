use Rattle.std.proofs.Common.{◌≡◌, take}
use Rattle.pdw_form.specs.Numbered.{outs_of}
use Rattle.pdw_keys.specs.Places.{places_of}
use Rattle.pdw_select.proofs.outputs.output_places.Given as goal

abbrev pub invariant-loop-item : goal.invariant-loop-item
invariant-loop-item l = l.places.items ≡ places_of l.columns (outs_of (take l.item-index l.items))
