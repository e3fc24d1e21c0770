use Rattle.pdw_bag_laws.proofs.Operators.{SameBag-joined, SameBag-products}
use Rattle.pdw_bag_laws.proofs.laws.operators_keep_bags_equal.Goals as goal
use Rattle.pdw_base.proofs.SameBagLaws.{SameBag-filter, SameBag-map}
use Rattle.pdw_expr.specs.Rows.{meets, projected}

pub returns-clause-filtered : goal.returns-clause-filtered
returns-clause-filtered c conds rows others = SameBag-filter (meets conds)

pub returns-clause-projected : goal.returns-clause-projected
returns-clause-projected c items rows others = SameBag-map (projected items)

pub returns-clause-joined : goal.returns-clause-joined
returns-clause-joined c kind conds left lefts right rights = SameBag-joined kind conds

pub returns-clause-products : goal.returns-clause-products
returns-clause-products c = SameBag-products
