use Rattle.std.proofs.Common.{◌≡◌, drop}
use Rattle.pdw_semantics.specs.Environment.{looked_up}
use Rattle.pdw_plain_exprs.proofs.environment.looked_up_in.Given as goal

abbrev pub invariant-loop-scope : goal.invariant-loop-scope
invariant-loop-scope l = looked_up l.reference (drop l.scope-index l.scopes) ≡ looked_up l.reference l.scopes
