use Rattle.pdw_resolve.proofs.NameLemmas.{chain_aggregate}
use Rattle.pdw_resolve.proofs.names.+aggregates.Goals as goal

pub has_aggregate-returns-else-has_aggregate : goal.has_aggregate-returns-else-has_aggregate
has_aggregate-returns-else-has_aggregate t c =
    chain_aggregate c.args.value.now c.in-Chain.first c.get-in-Chain.result.now c.in-Chain.rest c.as_slice.result.now c.links_have_aggregate.result
    c.in-Chain.is c.get-in-Chain.ensures c.if-has_aggregate.ensures c.as_slice.ensures c.links_have_aggregate.ensures
