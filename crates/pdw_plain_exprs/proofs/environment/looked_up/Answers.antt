use Rattle.std.proofs.Common.{arith}
use Rattle.std.proofs.lemmas.Grind.{common_steps}
use Rattle.pdw_plain_exprs.proofs.ScopeLemmas.{looked_up-find}
use Rattle.pdw_plain_exprs.proofs.environment.looked_up.Goals as goal

pub returns-in-Some : goal.returns-in-Some
returns-in-Some c = grind (arith, common_steps, looked_up-find)

pub returns-in-None : goal.returns-in-None
returns-in-None c = grind (arith, common_steps, looked_up-find)
