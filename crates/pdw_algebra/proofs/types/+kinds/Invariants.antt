use Rattle.std.proofs.Common.{◌≡◌, true, take}
use Rattle.std.specs.List.{list_all}
use Rattle.pdw_algebra.specs.Types.{is_number, scalar_kind}
use Rattle.pdw_algebra.proofs.types.+kinds.Given as goal

abbrev pub invariant-are_numbers-loop-link : goal.invariant-are_numbers-loop-link
invariant-are_numbers-loop-link l = list_all (λ link. is_number (scalar_kind l.columns link.1)) (take l.link-index l.links) ≡ true
