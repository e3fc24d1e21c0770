use Rattle.pdw_least.proofs.FewOperators.{few-operators}
use Rattle.pdw_least.proofs.laws.plans_have_few_operators.Goals as goal

pub returns : goal.returns
returns c = λ groups costs light plan made is. few-operators groups costs light plan made is
