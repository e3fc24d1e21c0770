use Rattle.std.proofs.Common.{◌≡◌, ◌++◌, filter, map, take}
use Rattle.std.specs.Str.{bytes_eq}
use Rattle.pdw_meaning.proofs.items.push_under.Given as goal

abbrev pub invariant-loop-cell : goal.invariant-loop-cell
invariant-loop-cell l = l.values.items ≡ l.initial.values.items ++ map (λ cell. cell.value) (filter (λ cell. bytes_eq l.alias cell.alias) (take l.cell-index l.cells))
