use Rattle.pdw_agg.proofs.FinalLaws.{plain-again, schema-again}
use Rattle.pdw_agg.proofs.laws.final_rows_have_the_columns_of_groups.Goals as goal

pub returns : goal.returns
returns c = record {
  schema = λ keys aggs columns apart differ. schema-again columns keys aggs apart differ;
  can_finish = λ keys aggs columns rows partials differ can fit. record { fit = fit; apart = can.apart; typed = plain-again columns keys aggs can.apart differ can.typed };
}
