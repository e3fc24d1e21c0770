use Rattle.std.proofs.Common.{◌≡◌, drop}
use Rattle.std.specs.List.{list_any}
use Rattle.pdw_walk.specs.Names as spec
use Rattle.pdw_resolve.proofs.names.+aggregates.Given as goal

abbrev pub invariant-links_have_aggregate-loop-link : goal.invariant-links_have_aggregate-loop-link
invariant-links_have_aggregate-loop-link l = list_any (λ link. spec.has_aggregate link.1) (drop l.link-index l.links) ≡ list_any (λ link. spec.has_aggregate link.1) l.links
