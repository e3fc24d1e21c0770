use Rattle.std.proofs.Common.{◌≡◌, ◌++◌, filter, map, take}
use Rattle.std.specs.Str.{bytes_eq}
use Rattle.pdw_meaning.proofs.items.push_names_under.Given as goal

abbrev pub invariant-loop-label : goal.invariant-loop-label
invariant-loop-label l = l.names.items ≡ l.initial.names.items ++ map (λ label. label.column) (filter (λ label. bytes_eq l.alias label.alias) (take l.label-index l.labels))
