use Rattle.std.proofs.Common.{◌≡◌, map, take}
use Rattle.pdw_semantics.specs.Froms.{label_of}
use Rattle.pdw_meaning.proofs.elements.name_labels.Given as goal

abbrev pub invariant-loop-name : goal.invariant-loop-name
invariant-loop-name l = l.labels ≡ map (label_of l.alias) (take l.name-index l.names)
