use Rattle.std.proofs.Common.{◌≡◌, take}
use Rattle.std.specs.List.{enumerate_from, flat_map}
use Rattle.pdw_walk.specs.Froms.{used_at}
use Rattle.pdw_clauses.proofs.froms.used_columns.Given as goal

abbrev pub invariant-loop-number : goal.invariant-loop-number
invariant-loop-number l = l.columns ≡ flat_map (used_at l.reference) (enumerate_from 0 (take l.number l.numbers))
