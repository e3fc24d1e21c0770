use Rattle.std.proofs.Common.{arith, ap, length, []}
use Rattle.std.specs.List.{flat_map}
use Rattle.pdw_catalog.proofs.NodeBagsLemmas.{length-flat_map_at}
use Rattle.std.proofs.lemmas.List.{get_or_read}
use Rattle.pdw_catalog.proofs.node_bags.NodeBags.all_count.Goals as goal

pub overflow_add-count : goal.overflow_add-count
overflow_add-count c =
    let bags = c.deref-bag-items.result.now in
    let some = length-flat_map_at bags c.loop-bag.bag-index c.loop-bag-test.true in
    let here = ap length (get_or_read bags c.loop-bag.bag-index c.bag-item.result c.loop-bag-test.true c.bag-item.is []) in
    let rows = ap length c.rows.ensures in
    let all = ap (λ items. length (flat_map (λ bag. bag) items)) c.deref-bag-items.ensures.value in
    let view = ap (λ items. length (flat_map (λ bag. bag) items)) c.self.view_is in
    omega (arith, c.loop-bag.invariant, c.requires)
