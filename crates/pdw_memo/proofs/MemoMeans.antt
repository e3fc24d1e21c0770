-- In every memo each expression stands for its group, and the last group means the tree.
use Rattle.std.proofs.Common.{◌≡◌, ◌-◌, length, Some, sym, ap, subst, ◌∙◌}
use Rattle.std.specs.List.{slice_get}
use Rattle.std.proofs.lemmas.List.{length-map}
use Rattle.pdw_catalog.specs.Database.{Database}
use Rattle.pdw_groups.proofs.MemoLaws as laws
use Rattle.pdw_groups.specs.Columns.{useful_columns}
use Rattle.pdw_groups.specs.Group.{GroupOf, kept_group}
use Rattle.pdw_groups.specs.Meaning.{exactly}
use Rattle.pdw_groups.specs.Memo.{Contents, EachExprStands, groups_of}
use Rattle.pdw_memo.specs.Laws.{meanings_in}
use Rattle.pdw_memo.specs.Memo.{IsMemo}

pub memo-each : (contents : Contents) (memo : IsMemo contents) → length (meanings_in contents memo) ≡ length contents.groups
memo-each contents memo =
    let groups = groups_of memo.tables memo.levels memo.tree in
    length-map groups (λ (group : GroupOf). group.means)
    ∙ sym (length-map groups (kept_group (useful_columns memo.tables memo.tree)))
    ∙ ap (λ (c : Contents). length c.groups) (sym memo.is)

pub memo-stands : (contents : Contents) (memo : IsMemo contents) (database : Database) → EachExprStands database (meanings_in contents memo) contents.groups
memo-stands contents memo database =
    subst (λ (c : Contents). EachExprStands database (meanings_in contents memo) c.groups) (sym memo.is) (laws.memo-stands memo.tables memo.levels memo.tree memo.plannable.well_formed database)

pub memo-root : (contents : Contents) (memo : IsMemo contents) → slice_get (meanings_in contents memo) (length contents.groups - 1) ≡ Some (exactly memo.tree)
memo-root contents memo =
    ap (λ (c : Contents). slice_get (meanings_in contents memo) (length c.groups - 1)) memo.is ∙ laws.root-means memo.tables memo.levels memo.tree memo.plannable.well_formed
