use Rattle.std.proofs.Common.{◌≡◌, take}
use Rattle.pdw_exec.specs.Scans as spec
use Rattle.pdw_exec.proofs.scans.places_in.Given as goal

abbrev pub invariant-loop-column : goal.invariant-loop-column
invariant-loop-column l = l.places.items ≡ spec.places_in l.cols (take l.column-index l.column-items)
