use Rattle.std.proofs.Common.{arith}
use Rattle.pdw_explore.proofs.FewLeaves.{few-leaves}
use Rattle.pdw_explore.proofs.levels.full_count.Goals as goal

pub pow-requires : goal.pow-requires
pow-requires c = let few = few-leaves c.args.leaves c.requires in omega (arith, few.three)

pub overflow_add-result : goal.overflow_add-result
overflow_add-result c = let few = few-leaves c.args.leaves c.requires in omega (arith, few.three, c.pow.ensures)

pub overflow_sub-result : goal.overflow_sub-result
overflow_sub-result c = let few = few-leaves c.args.leaves c.requires in omega (arith, few.two, few.full, c.pow.ensures)
