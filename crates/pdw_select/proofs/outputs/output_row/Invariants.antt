use Rattle.std.proofs.Common.{◌≡◌, take}
use Rattle.pdw_keys.specs.Places.{key_at}
use Rattle.pdw_select.proofs.outputs.output_row.Given as goal

abbrev pub invariant-loop-place : goal.invariant-loop-place
invariant-loop-place l = l.values.items ≡ key_at (take l.place-index l.places) l.row
