use Rattle.std.proofs.Common.{◌≡◌, take}
use Rattle.pdw_algebra.proofs.copies.aggs_copy.Given as goal

abbrev pub invariant-loop-agg : goal.invariant-loop-agg
invariant-loop-agg l = l.copy ≡ take l.agg-index l.aggs
