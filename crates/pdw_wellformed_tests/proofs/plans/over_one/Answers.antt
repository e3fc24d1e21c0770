use Rattle.std.proofs.Common.{[], ◌∷◌, ◌++◌, ap, ◌∙◌}
use Rattle.pdw_wellformed_tests.proofs.Counts.{one-count}
use Rattle.pdw_wellformed_tests.proofs.plans.over_one.Goals as goal

pub returns : goal.returns
returns c = one-count _ c.args.prop c.push.new.self c.args.child (c.in_ok-push.ensures.ok ∙ ap (λ some. some ++ c.args.child ∷ []) c.new-children.ensures)
