use Rattle.std.proofs.Common.{[], ◌∷◌, sym, ap, ◌∙◌}
use Rattle.std.specs.Option.{option_copied}
use Rattle.pdw_dsql.proofs.Applied.{op-applied}
use Rattle.pdw_dsql.proofs.NodeSteps.{found-arity, found-none}
use Rattle.pdw_dsql.proofs.cutting.over_one.Goals as goal

pub unary_tree-requires : goal.unary_tree-requires
unary_tree-requires c =
    let below = c.args.child.made ∷ [] in
    found-arity c.args.memo.now c.args.group below c.args.prop (op-applied c.args.memo.now c.groups.ensures.memo c.args.group c.args.prop below c.requires) c.groups.result.now c.groups.ensures.groups c.in-Some.expr.now
    (sym (ap option_copied c.in-Some.is) ∙ c.expr_over.ensures)

pub unreachable-requires : goal.unreachable-requires
unreachable-requires c =
    let below = c.args.child.made ∷ [] in
    found-none c.args.memo.now c.args.group below c.args.prop (op-applied c.args.memo.now c.groups.ensures.memo c.args.group c.args.prop below c.requires) c.groups.result.now c.groups.ensures.groups
    (sym (ap option_copied c.in-None.is) ∙ c.expr_over.ensures)
