use Rattle.std.proofs.Common.{◌≡◌, map, take}
use Rattle.pdw_base.specs.Schema.{cell}
use Rattle.pdw_expr.specs.Rows as operators
use Rattle.pdw_interpreter.proofs.groups.arguments.Given as goal

abbrev pub invariant-loop-row : goal.invariant-loop-row
invariant-loop-row l = l.values ≡ map (operators.argument l.arg) (map (cell l.columns) (take l.row-index l.group))
