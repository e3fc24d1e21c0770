use Rattle.std.proofs.Common.{◌≡◌, ◌+◌, ◌-◌, ◌*◌, ◌^◌, ◌%◌, ◌≤◌, sym, subst, arith}
use Rattle.pdw_explore.proofs.FewLeaves.{few-leaves}
use Rattle.pdw_explore.proofs.levels.linear_count.Goals as goal

pub overflow_sub-result-2 : goal.overflow_sub-result-2
overflow_sub-result-2 c =
    let few = few-leaves c.args.leaves c.requires in
    let same : 1 * 2 ^ c.args.leaves % 4294967296 ≡ 2 ^ c.args.leaves = omega (arith, few.two) in
    subst (λ p. 2 * c.args.leaves + c.args.leaves * (c.args.leaves - 1) ≤ c.args.leaves * p) (sym same) (few.linear (omega arith))
