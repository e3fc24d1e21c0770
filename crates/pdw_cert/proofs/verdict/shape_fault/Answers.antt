use Rattle.std.proofs.Common.{sym}
use Rattle.pdw_cert.proofs.ShapeLemmas.{shape-of-none}
use Rattle.pdw_cert.proofs.verdict.shape_fault.Goals as goal

pub returns-in-None : goal.returns-in-None
returns-in-None c = λ costs plan written priced. (priced, shape-of-none c.args.groups.now c.args.lists.now (sym c.in-None.ensures))
