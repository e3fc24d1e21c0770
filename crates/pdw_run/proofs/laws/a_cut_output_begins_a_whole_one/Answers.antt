use Rattle.pdw_run.proofs.WholeLemmas.{BeginsOutput-cut}
use Rattle.pdw_run.proofs.laws.a_cut_output_begins_a_whole_one.Goals as goal

pub returns : goal.returns
returns c = BeginsOutput-cut c.each_query_has_a_least_plan.ensures
