use Rattle.pdw_partial.proofs.Admitted.{IsPartial-all, IsPartial-parts, IsPartial-same}
use Rattle.pdw_partial.proofs.laws.admitted_partials_add_up.Goals as goal

pub returns-clause-admitted : goal.returns-clause-admitted
returns-clause-admitted c = IsPartial-all

pub returns-clause-parts : goal.returns-clause-parts
returns-clause-parts c = IsPartial-parts

pub returns-clause-bags : goal.returns-clause-bags
returns-clause-bags c = IsPartial-same
