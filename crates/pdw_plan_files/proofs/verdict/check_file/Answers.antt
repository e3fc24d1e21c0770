use Rattle.std.proofs.Common.{arith}
use Rattle.pdw_plan.specs.Cost.{costs_in}
use Rattle.pdw_plan_files.proofs.Described.{described-fits}
use Rattle.pdw_plan_files.proofs.Found.{found-of-bytes}
use Rattle.pdw_plan_files.proofs.verdict.check_file.Goals as goal

pub found_of-requires-clause-few : goal.found_of-requires-clause-few
found_of-requires-clause-few c = let fits = described-fits c.in-Ok.file c.in-Ok.ensures.1.0 c.in-Ok.ensures.1.2 in let few = fits.few in omega (arith, few)

pub found_of-requires-clause-small : goal.found_of-requires-clause-small
found_of-requires-clause-small c = (described-fits c.in-Ok.file c.in-Ok.ensures.1.0 c.in-Ok.ensures.1.2).small

pub returns-in-Ok : goal.returns-in-Ok
returns-in-Ok c = λ is.
    let p = c.args.p.now in
    found-of-bytes p.memo.now.groups (costs_in p.memo.now is p.book.now p.n p.constants.now) c.args.content.now c.in-Ok.file c.in-Ok.ensures c.found_of.result (c.found_of.ensures is)
