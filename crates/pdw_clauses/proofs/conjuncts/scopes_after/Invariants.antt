use Rattle.std.proofs.Common.{◌≡◌, ◌∷◌, take}
use Rattle.pdw_clauses.proofs.conjuncts.scopes_after.Given as goal

abbrev pub invariant-loop-scope : goal.invariant-loop-scope
invariant-loop-scope l = l.scopes ≡ l.fn.first ∷ take l.scope-index l.rest
