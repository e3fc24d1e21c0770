use Rattle.std.proofs.Common.{◌≡◌, take}
use Rattle.pdw_base.specs.Schema.{cell}
use Rattle.pdw_expr.specs.Cond.{all_true}
use Rattle.pdw_exec.proofs.filters.truth_of_all.Given as goal

abbrev pub invariant-loop-cond : goal.invariant-loop-cond
invariant-loop-cond l = l.truth ≡ all_true (take l.cond-index l.conds) (cell l.columns l.row)
