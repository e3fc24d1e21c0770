use Rattle.std.proofs.Common.{◌≡◌, map, take}
use Rattle.pdw_expr.specs.Predicates.{first_column}
use Rattle.pdw_plain_exprs.proofs.truths.first_columns.Given as goal

abbrev pub invariant-loop-row : goal.invariant-loop-row
invariant-loop-row l = l.values ≡ map first_column (take l.row-index l.found)
