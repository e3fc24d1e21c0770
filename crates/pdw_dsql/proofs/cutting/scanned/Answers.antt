use Rattle.std.proofs.Common.{[], sym, ap, ◌∙◌}
use Rattle.std.specs.Option.{option_copied}
use Rattle.pdw_dsql.proofs.Applied.{scan-applied}
use Rattle.pdw_dsql.proofs.NodeSteps.{found-arity, found-none}
use Rattle.pdw_dsql.proofs.cutting.scanned.Goals as goal

pub leaf_tree-requires : goal.leaf_tree-requires
leaf_tree-requires c =
    found-arity c.args.memo.now c.args.group [] c.args.prop (scan-applied c.args.memo.now c.groups.ensures.memo c.args.group c.args.prop c.requires) c.groups.result.now c.groups.ensures.groups c.in-Some.expr.now
    (sym (ap option_copied c.in-Some.is) ∙ c.expr_over.ensures)

pub unreachable-requires : goal.unreachable-requires
unreachable-requires c =
    found-none c.args.memo.now c.args.group [] c.args.prop (scan-applied c.args.memo.now c.groups.ensures.memo c.args.group c.args.prop c.requires) c.groups.result.now c.groups.ensures.groups
    (sym (ap option_copied c.in-None.is) ∙ c.expr_over.ensures)
