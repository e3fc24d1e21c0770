use Rattle.std.proofs.Common.{◌≡◌, drop}
use Rattle.pdw_walk.specs.Lookup as spec
use Rattle.pdw_resolve.proofs.lookup.far_fault.Given as goal

abbrev pub invariant-loop-scope : goal.invariant-loop-scope
invariant-loop-scope l = spec.far_fault l.fn.reference (drop l.scope-index l.scopes) ≡ spec.far_fault l.fn.reference l.fn.scopes
