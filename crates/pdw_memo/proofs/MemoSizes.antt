-- A memo has few groups, each of few expressions.
use Rattle.std.proofs.Common.{◌^◌, ◌<◌, ◌≤◌, length, sym, subst, arith}
use Rattle.std.specs.List.{AllByRecursion}
use Rattle.std.proofs.lemmas.List.{length-map}
use Rattle.pdw_groups.specs.Columns.{useful_columns}
use Rattle.pdw_groups.specs.Group.{kept_expr, kept_group}
use Rattle.pdw_groups.specs.Memo.{Contents, at_first, groups_of}
use Rattle.pdw_groups.specs.declared.group.Group.{Group}
use Rattle.pdw_memo.proofs.Counts.{IsFew, map-all, tree-counted}
use Rattle.pdw_memo.specs.Memo.{IsMemo}

abbrev IsSmall : Contents → Type 0
IsSmall contents = (length contents.groups < 2 ^ 32) × AllByRecursion (λ (group : Group). length group.exprs ≤ 1024) contents.groups

pub memo-few : (contents : Contents) → IsMemo contents → IsSmall contents
memo-few contents memo =
    let counted = tree-counted memo.tables memo.levels memo.tree memo.plannable.well_formed.nodes in
    let groups = groups_of memo.tables memo.levels memo.tree in
    let kept = kept_group (useful_columns memo.tables memo.tree) in
    let count = length-map groups kept in
    let most = counted.most at_first in
    let few = memo.plannable.few in
    subst IsSmall (sym memo.is) (
      omega (arith, count, most, few),
      map-all IsFew (λ (group : Group). length group.exprs ≤ 1024) kept
          (λ group some. let same = length-map group.exprs kept_expr in omega (arith, some, same)) groups (counted.few at_first),
    )
