use Rattle.std.proofs.Common.{rules}
use Rattle.std.proofs.lemmas.Int.{wraps}
use Rattle.std.proofs.lemmas.List.Sums.{fold_more}
use Rattle.pdw_expr.proofs.aggregates.total.Goals as goal

pub loop-value-preserved : goal.loop-value-preserved
loop-value-preserved c = search (rules, wraps, fold_more)
