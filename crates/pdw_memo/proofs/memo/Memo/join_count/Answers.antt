use Rattle.std.proofs.Common.{◌<◌, ◌≤◌, ◌^◌, length, sym, subst}
use Rattle.std.specs.List.{AllByRecursion}
use Rattle.pdw_groups.specs.declared.group.Group.{Group}
use Rattle.pdw_memo.proofs.MemoSizes.{memo-few}
use Rattle.pdw_memo.proofs.memo.Memo.join_count.Goals as goal

pub join_count-requires-clause-few : goal.join_count-requires-clause-few
join_count-requires-clause-few c = subst (λ groups. length groups < 2 ^ 32) (sym c.as_slice.ensures) (memo-few (record { groups = c.self.inside.groups; blocks = c.self.inside.blocks }) c.self.invariant).0

pub join_count-requires-clause-each : goal.join_count-requires-clause-each
join_count-requires-clause-each c =
    subst (AllByRecursion (λ (group : Group). length group.exprs ≤ 1024)) (sym c.as_slice.ensures) (memo-few (record { groups = c.self.inside.groups; blocks = c.self.inside.blocks }) c.self.invariant).1
