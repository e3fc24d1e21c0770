use Rattle.std.proofs.Common.{sym, arith, ap, length}
use Rattle.pdw_catalog.proofs.NodeBagsLemmas.{Placed-pushed}
use Rattle.pdw_catalog.proofs.node_bags.NodeBags.place.Goals as goal

pub loop-row-preserved : goal.loop-row-preserved
loop-row-preserved c =
    Placed-pushed c.args.nodes c.args.column c.self.inside.bags.items c.loop-row.self-inside.bags.items c.loop-row.yielded c.in-Some.row
    c.node_of_row-node.result c.index_mut-bag.result.now c.push.new.self
    (sym c.node_of_row-node.ensures.node) (let e = ap length c.self.view_is in omega (arith, c.requires)) c.loop-row.invariant c.index_mut-bag.ensures.value c.in_ok-push.ensures.ok
