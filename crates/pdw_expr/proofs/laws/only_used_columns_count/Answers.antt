use Rattle.pdw_expr.proofs.ColumnLaws.{value_depends, truth_depends}
use Rattle.pdw_expr.proofs.laws.only_used_columns_count.Goals as goal

pub returns-clause-value : goal.returns-clause-value
returns-clause-value c = value_depends

pub returns-clause-truth : goal.returns-clause-truth
returns-clause-truth c = truth_depends
