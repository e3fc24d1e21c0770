use Rattle.std.proofs.Common.{◌-◌, arith, ap, ◌∙◌}
use Rattle.pdw_machine.specs.Machine.{fed}
use Rattle.pdw_machine.proofs.ListLemmas.{mapped_more}
use Rattle.pdw_machine.proofs.source.+feed_first.Goals as goal

pub returns-clause-ok : goal.returns-clause-ok
returns-clause-ok t c =
    mapped_more (fed c.args.row.now) c.args.lanes.now.items c.feed_first.new.lanes.items c.args.count (c.args.count - 1) c.index_mut.result.now c.push.new.self
    (omega arith) (omega arith) c.in_ok-feed_first.ensures.ok c.index_mut.ensures.value
    (c.push.ensures ∙ ap (λ row. fed row c.index_mut.result.now) c.in_ok-copy.ensures)
