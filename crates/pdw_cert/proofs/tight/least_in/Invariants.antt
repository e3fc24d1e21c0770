use Rattle.std.proofs.Common.{◌≡◌, None, fold, take}
use Rattle.pdw_ways.specs.Bounds.{lesser}
use Rattle.pdw_cert.proofs.tight.least_in.Given as goal

-- the least of the bounds so far
abbrev pub invariant-loop-bound : goal.invariant-loop-bound
invariant-loop-bound l = l.least ≡ fold lesser None (take l.bound-index l.list)
