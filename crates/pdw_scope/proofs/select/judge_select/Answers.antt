use Rattle.std.proofs.Common.{subst}
use Rattle.pdw_scope.proofs.Orders.{answers}
use Rattle.pdw_walk.specs.Queries.{select}
use Rattle.pdw_walk.specs.Walk.{Walk, Walks, beginning}
use Rattle.pdw_scope.proofs.select.judge_select.Goals as goal

pub returns : goal.returns
returns c = answers (select c.args.catalog.now c.args.select.now beginning) c.walk_select.new.walk c.walk_select.result (subst (λ (w : Walk). Walks (select c.args.catalog.now c.args.select.now w) c.walk_select.result c.walk_select.new.walk) c.new-walk.ensures c.walk_select.ensures)
