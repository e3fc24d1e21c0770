use Rattle.pdw_plan_laws.proofs.Accepted.{printed-accepted, printed-answered}
use Rattle.pdw_plan_laws.proofs.laws.what_is_printed_is_accepted.Goals as goal

pub returns-clause-accepted : goal.returns-clause-accepted
returns-clause-accepted c =
    printed-accepted c.planned_files_keep_their_limits.ensures c.planned_files_have_small_numbers.ensures c.a_plan_file_reads_back.ensures c.moves_cost_the_same_whatever_the_tree.ensures

pub returns-clause-answered : goal.returns-clause-answered
returns-clause-answered c = printed-answered c.each_file_has_a_verdict.ensures
