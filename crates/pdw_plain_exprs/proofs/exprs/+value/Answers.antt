use Rattle.std.proofs.Common.{arith}
use Rattle.std.proofs.lemmas.Grind.{common_steps}
use Rattle.pdw_semantics.specs.Environment.{group_of}
use Rattle.pdw_plain_exprs.proofs.ExprLemmas.{value_of-aggregate}
use Rattle.pdw_plain_exprs.proofs.exprs.+value.Goals as goal

pub value_of-returns-in_ok-values-in-Agg : goal.value_of-returns-in_ok-values-in-Agg
value_of-returns-in_ok-values-in-Agg t c =
    grind (arith, common_steps, value_of-aggregate c.in-Agg.kind c.in-Agg.arg (group_of c.args.rows.now c.args.outers.now))
