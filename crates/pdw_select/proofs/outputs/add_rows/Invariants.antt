use Rattle.std.proofs.Common.{◌≡◌, ◌++◌, map, take}
use Rattle.pdw_keys.specs.Places.{key_at}
use Rattle.pdw_select.proofs.outputs.add_rows.Given as goal

abbrev pub invariant-loop-row : goal.invariant-loop-row
invariant-loop-row l = l.rows.items ≡ l.fn.rows.items ++ map (key_at l.places) (take l.row-index l.bag)
