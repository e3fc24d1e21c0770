use Rattle.std.proofs.Common.{refl}
use Rattle.pdw_expr.proofs.EnvLaws.{union-nulls, union-union, Agree-union_left, Agree-union_right}
use Rattle.pdw_expr.proofs.laws.union_keeps_both_sides.Goals as goal

pub returns-clause-padded : goal.returns-clause-padded
returns-clause-padded c = union-nulls

pub returns-clause-padded_before : goal.returns-clause-padded_before
returns-clause-padded_before c a = refl

pub returns-clause-grouped : goal.returns-clause-grouped
returns-clause-grouped c = union-union

pub returns-clause-left : goal.returns-clause-left
returns-clause-left c = Agree-union_left

pub returns-clause-right : goal.returns-clause-right
returns-clause-right c = Agree-union_right
