use Rattle.std.proofs.Common.{rules}
use Rattle.std.proofs.lemmas.Int.{wraps}
use Rattle.pdw_agg.proofs.running.plus.Goals as goal

pub returns : goal.returns
returns c = search (rules, wraps)
