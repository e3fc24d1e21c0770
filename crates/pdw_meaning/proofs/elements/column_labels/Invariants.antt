use Rattle.std.proofs.Common.{◌≡◌, map, take}
use Rattle.pdw_semantics.specs.Froms.{label_of}
use Rattle.pdw_meaning.proofs.elements.column_labels.Given as goal

abbrev pub invariant-loop-column : goal.invariant-loop-column
invariant-loop-column l = l.labels ≡ map (λ column. label_of l.alias column.name) (take l.column-index l.columns)
