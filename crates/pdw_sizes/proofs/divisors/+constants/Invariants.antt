use Rattle.std.proofs.Common.{◌≡◌, true, [], take}
use Rattle.std.specs.List.{list_all}
use Rattle.pdw_algebra.specs.Shape.{has_number}
use Rattle.pdw_expr.specs.Columns.{scalar_columns}
use Rattle.pdw_sizes.proofs.divisors.+constants.Given as goal

abbrev pub invariant-links_constant-loop-link : goal.invariant-links_constant-loop-link
invariant-links_constant-loop-link l = list_all (λ link. list_all (λ c. has_number c []) (scalar_columns link.1)) (take l.link-index l.links) ≡ true
