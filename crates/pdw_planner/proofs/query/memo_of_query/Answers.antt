use Rattle.std.proofs.Common.{◌≡◌, IfOk, subst}
use Rattle.pdw_algebra.specs.declared.tree.Tree.{Tree}
use Rattle.pdw_groups.specs.Memo.{Contents}
use Rattle.pdw_planner.specs.Planned.{memo_within}
use Rattle.pdw_planner.proofs.query.memo_of_query.Goals as goal

pub returns : goal.returns
returns c =
    subst (λ (tree : Tree). IfOk c.memo_of_tree-memo.result (λ (memo : Contents). memo ≡ memo_within c.args.ground.now.budget c.args.ground.now.catalog.now tree)) c.in_ok-tree.ensures
    c.memo_of_tree-memo.ensures
