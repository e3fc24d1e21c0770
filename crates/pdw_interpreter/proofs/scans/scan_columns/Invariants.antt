use Rattle.std.proofs.Common.{◌≡◌, map, take}
use Rattle.pdw_interpreter.specs.Relation as spec
use Rattle.pdw_interpreter.proofs.scans.scan_columns.Given as goal

abbrev pub invariant-loop-col : goal.invariant-loop-col
invariant-loop-col l = l.columns.items ≡ map (λ col. spec.numbered col.0) (take l.col-index l.cols)
