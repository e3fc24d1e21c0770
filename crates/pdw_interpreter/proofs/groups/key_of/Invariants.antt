use Rattle.std.proofs.Common.{◌≡◌, take}
use Rattle.pdw_base.specs.Schema.{cell}
use Rattle.pdw_expr.specs.Rows as operators
use Rattle.pdw_interpreter.proofs.groups.key_of.Given as goal

abbrev pub invariant-loop-key : goal.invariant-loop-key
invariant-loop-key l = l.values.items ≡ operators.key_of (take l.key-index l.keys) (cell l.columns l.row)
