use Rattle.std.proofs.Common.{◌≡◌, None, take}
use Rattle.std.specs.Map.{lookup}
use Rattle.pdw_sizes.specs.Estimate.{is_number}
use Rattle.pdw_sizes.proofs.made.place_of.Given as goal

abbrev pub invariant-loop-col : goal.invariant-loop-col
invariant-loop-col l = lookup (is_number l.c) (take l.col-index l.cols) ≡ None
