use Rattle.std.proofs.Common.{◌≡◌, map, take}
use Rattle.pdw_algebra.specs.Shape.{scan_column}
use Rattle.pdw_exec.proofs.scans.used_columns.Given as goal

abbrev pub invariant-loop-col : goal.invariant-loop-col
invariant-loop-col l = l.used.items ≡ map (scan_column l.columns) (take l.col-index l.cols)
