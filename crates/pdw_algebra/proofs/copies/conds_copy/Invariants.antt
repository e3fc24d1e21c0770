use Rattle.std.proofs.Common.{◌≡◌, take}
use Rattle.pdw_algebra.proofs.copies.conds_copy.Given as goal

abbrev pub invariant-loop-cond : goal.invariant-loop-cond
invariant-loop-cond l = l.copy ≡ take l.cond-index l.conds
