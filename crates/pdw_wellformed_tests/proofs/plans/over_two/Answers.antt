use Rattle.std.proofs.Common.{[], ◌∷◌, ◌++◌, ap, ◌∙◌}
use Rattle.pdw_wellformed_tests.proofs.Counts.{two-count}
use Rattle.pdw_wellformed_tests.proofs.plans.over_two.Goals as goal

pub returns : goal.returns
returns c =
    two-count _ c.args.prop c.push-2.new.self c.args.left c.args.right
    (c.in_ok-push-2.ensures.ok ∙ ap (λ some. some ++ c.args.right ∷ []) (c.in_ok-push.ensures.ok ∙ ap (λ some. some ++ c.args.left ∷ []) c.new-children.ensures))
