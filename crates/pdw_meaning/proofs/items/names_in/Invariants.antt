use Rattle.std.proofs.Common.{◌≡◌, map, take}
use Rattle.pdw_meaning.proofs.items.names_in.Given as goal

abbrev pub invariant-loop-label : goal.invariant-loop-label
invariant-loop-label l = l.names.items ≡ map (λ label. label.column) (take l.label-index l.labels)
