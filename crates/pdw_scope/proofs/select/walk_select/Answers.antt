use Rattle.pdw_scope.proofs.Orders.{selected}
use Rattle.pdw_scope.proofs.select.walk_select.Goals as goal

pub returns : goal.returns
returns c = selected c.args.catalog.now c.args.select.now c.args.walk.now c.ordered.result c.in_ok-walked.ensures c.as_slice.ensures c.ordered.ensures
