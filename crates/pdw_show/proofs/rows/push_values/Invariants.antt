use Rattle.std.proofs.Common.{◌≡◌, ◌++◌, take}
use Rattle.std.specs.Prelude.{codes}
use Rattle.std.specs.List.{flat_map}
use Rattle.pdw_show.specs.Rows.{value_text}
use Rattle.pdw_show.proofs.rows.push_values.Given as goal

abbrev pub invariant-loop-value : goal.invariant-loop-value
invariant-loop-value l = l.text.items ≡ l.fn.text.items ++ flat_map (λ value. codes "," ++ value_text value) (take l.value-index l.values)
