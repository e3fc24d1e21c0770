use Rattle.std.proofs.Common.{◌++◌, ◌∷◌, [], None, Option, List, ℕ, ap, sym, ◌∙◌}
use Rattle.std.proofs.lemmas.List.{map_more}
use Rattle.pdw_move.specs.declared.kinds.Prop.{Prop}
use Rattle.pdw_move.specs.declared.kinds.Prop.TheVariants.{Spread}
use Rattle.pdw_least.proofs.search.blank_row.Goals as goal

pub props-preserved : goal.props-preserved
props-preserved c = c.in_ok-push.ensures.ok ∙ ap (λ (row : List (Option ℕ)). row ++ None ∷ []) c.props.invariant
    ∙ sym (map_more (λ (p : Prop). let unreached : Option ℕ = None in unreached) c.args.props.now c.props._prop-index Spread c.props-test.true)
