use Rattle.std.proofs.Common.{◌<◌, ◌++◌, ◌∷◌, [], length, ap, ◌∙◌, arith}
use Rattle.std.specs.List.{AllByRecursion}
use Rattle.pdw_explore.proofs.Loops.{all-later, rotate-next}
use Rattle.pdw_explore.specs.Grown.{renumbered_expr}
use Rattle.pdw_groups.specs.declared.group.Expr.{Expr}
use Rattle.pdw_explore.proofs.numbers.renumber_exprs.Goals as goal

pub loop-preserved : goal.loop-preserved
loop-preserved c =
    let within : c.loop.counter < length c.args.exprs.now = omega (arith, c.loop-test.true, c.loop.invariant.end, c.len-end.ensures) in
    record {
      exprs =
          c.in_ok-push.ensures.ok
          ∙ ap (λ (expr : Expr). c.remove-expr.new.self ++ expr ∷ []) c.renumbered.ensures
          ∙ rotate-next (renumbered_expr c.args.numbers.now) c.args.exprs.now c.loop.counter within c.remove-expr.result c.loop.exprs c.remove-expr.new.self c.loop.invariant.exprs c.remove-expr.ensures.item c.remove-expr.ensures.rest;
      range = all-later (λ (expr : Expr). AllByRecursion (λ child. child.0 < length c.args.numbers.now) expr.children) c.args.exprs.now c.loop.counter c.loop.invariant.range;
      end = c.loop.invariant.end;
    }
