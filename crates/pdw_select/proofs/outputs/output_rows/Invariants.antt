use Rattle.std.proofs.Common.{◌≡◌, map, take}
use Rattle.std.specs.List.{flat_map}
use Rattle.pdw_keys.specs.Places.{key_at}
use Rattle.pdw_select.proofs.outputs.output_rows.Given as goal

abbrev pub invariant-loop-bag : goal.invariant-loop-bag
invariant-loop-bag l = l.rows.items ≡ map (key_at l.places.items) (flat_map (λ bag. bag) (take l.bag-index l.bags))
