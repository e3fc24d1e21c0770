use Rattle.std.proofs.Common.{◌≡◌, IfOk, subst}
use Rattle.pdw_explore.specs.Explored.{explored_memo}
use Rattle.pdw_groups.specs.Memo.{Contents}
use Rattle.pdw_planner.proofs.query.memo_of_tree.Goals as goal

pub returns : goal.returns
returns c =
    let tables = c.args.ground.now.catalog.now in
    let tree = c.args.tree.now in
    subst (λ (written : Contents). IfOk c.explore.result (λ (memo : Contents). memo ≡ explored_memo c.args.ground.now.budget written tables tree)) c.in_ok-memo.ensures
    (c.explore.ensures tables tree c.requires c.in_ok-memo.ensures)
