use Rattle.std.proofs.Common.{◌≡◌, true, false, sym, ◌∙◌, arith, rules}
use Rattle.std.proofs.lemmas.Grind.{common_steps}
use Rattle.std.specs.List.{list_any}
use Rattle.pdw_walk.specs.Queries.{condition}
use Rattle.pdw_resolve.proofs.Spread.{any_nested_same}
use Rattle.pdw_resolve.proofs.conds.+nested.Goals as goal

pub is_any_nested-returns-then-is_nested : goal.is_any_nested-returns-then-is_nested
is_any_nested-returns-then-is_nested t c =
    let found : true ≡ list_any (λ part. (condition part).nested) c.args.parts.now = first_of (search rules, grind (arith, common_steps)) in
    found ∙ sym (any_nested_same c.args.parts.now)

pub is_any_nested-returns : goal.is_any_nested-returns
is_any_nested-returns t c =
    let none : false ≡ list_any (λ part. (condition part).nested) c.args.parts.now = first_of (search rules, grind (arith, common_steps)) in
    none ∙ sym (any_nested_same c.args.parts.now)
