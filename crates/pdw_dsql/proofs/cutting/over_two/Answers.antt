use Rattle.std.proofs.Common.{[], ◌∷◌, sym, ap, ◌∙◌}
use Rattle.std.specs.Option.{option_copied}
use Rattle.pdw_dsql.proofs.Applied.{op-applied}
use Rattle.pdw_dsql.proofs.NodeSteps.{found-arity, found-none}
use Rattle.pdw_dsql.proofs.cutting.over_two.Goals as goal

pub binary_tree-requires : goal.binary_tree-requires
binary_tree-requires c =
    let below = c.args.left.made ∷ c.args.right.made ∷ [] in
    found-arity c.args.memo.now c.args.group below c.args.prop (op-applied c.args.memo.now c.groups.ensures.memo c.args.group c.args.prop below c.requires) c.groups.result.now c.groups.ensures.groups c.in-Some.expr.now
    (sym (ap option_copied c.in-Some.is) ∙ c.expr_over.ensures)

pub unreachable-requires : goal.unreachable-requires
unreachable-requires c =
    let below = c.args.left.made ∷ c.args.right.made ∷ [] in
    found-none c.args.memo.now c.args.group below c.args.prop (op-applied c.args.memo.now c.groups.ensures.memo c.args.group c.args.prop below c.requires) c.groups.result.now c.groups.ensures.groups
    (sym (ap option_copied c.in-None.is) ∙ c.expr_over.ensures)
