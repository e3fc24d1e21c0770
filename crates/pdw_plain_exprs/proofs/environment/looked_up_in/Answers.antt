use Rattle.std.proofs.Common.{arith}
use Rattle.std.proofs.lemmas.Grind.{common_steps}
use Rattle.pdw_plain_exprs.proofs.ScopeLemmas.{looked_up-find}
use Rattle.pdw_plain_exprs.proofs.environment.looked_up_in.Goals as goal

pub returns-in-Some : goal.returns-in-Some
returns-in-Some c = grind (arith, common_steps, looked_up-find)

pub loop-scope-preserved : goal.loop-scope-preserved
loop-scope-preserved c = grind (arith, common_steps, looked_up-find)
