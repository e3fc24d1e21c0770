use Rattle.std.proofs.Common.{◌≡◌, drop}
use Rattle.pdw_exec.specs.Scans as spec
use Rattle.pdw_exec.proofs.scans.place_in.Given as goal

abbrev pub invariant-loop-col : goal.invariant-loop-col
invariant-loop-col l = spec.place_in (drop l.col-index l.cols) l.c ≡ spec.place_in l.cols l.c
