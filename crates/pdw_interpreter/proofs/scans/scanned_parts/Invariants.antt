use Rattle.std.proofs.Common.{◌≡◌, map, take}
use Rattle.std.specs.List.{flat_map}
use Rattle.pdw_base.specs.Schema.{row_over}
use Rattle.pdw_expr.specs.Rows as operators
use Rattle.pdw_interpreter.proofs.scans.scanned_parts.Given as goal

abbrev pub invariant-loop-part : goal.invariant-loop-part
invariant-loop-part l = l.scanned ≡ flat_map (map (λ row. row_over l.columns (operators.scanned l.cols row))) (take l.part-index l.parts)
