use Rattle.std.proofs.Common.{◌≡◌, ap, get_or, ◌∙◌}
use Rattle.pdw_move.specs.declared.kinds.Prop.TheVariants.{Spread}
use Rattle.pdw_rules.specs.Rules.{properties_of}
use Rattle.pdw_ways.specs.Bounds.{bound_by}
use Rattle.pdw_enum.proofs.Places.{cheapest-there}
use Rattle.pdw_enum.proofs.root.cheapest.Goals as goal

pub returns : goal.returns
returns c =
    let props : c.as_slice.result.now ≡ properties_of c.args.interesting.now = c.as_slice.ensures ∙ c.in_ok-props.ensures in
    ap (λ list. bound_by c.args.interesting.now c.args.bounds.now (get_or list c.in-Some.least.place Spread)) props
    ∙ cheapest-there c.args.interesting.now c.requires.different c.args.bounds.now c.requires.size c.in-Some.least.place Spread c.in-Some.least.cost c.in-Some.ensures.there
    ∙ c.in-Some.ensures.least
