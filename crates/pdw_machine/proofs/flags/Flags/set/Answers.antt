use Rattle.std.proofs.Common.{ap, arith, length}
use Rattle.pdw_machine.specs.Flags.{one_if}
use Rattle.pdw_machine.proofs.FlagLemmas.{up_count_bounded, up_count_set, one_if_bounded}
use Rattle.pdw_machine.proofs.flags.Flags.set.Goals as goal

pub recounted-self-inside-requires-clause-most : goal.recounted-self-inside-requires-clause-most
recounted-self-inside-requires-clause-most c =
    let bound = up_count_bounded c.self.inside.flags.items in let view = ap length c.self.view_is in omega (arith, c.self.invariant.1, c.self.invariant.0)

pub recounted-self-inside-requires-clause-least : goal.recounted-self-inside-requires-clause-least
recounted-self-inside-requires-clause-least c =
    let view = ap length c.self.view_is in
    let before = ap one_if c.index-before.ensures in
    let up = one_if_bounded c.self.inside.flags.items c.args.place c.index-before.result.now (omega arith) in
    omega (arith, c.self.invariant.1)

pub invariant_of-self : goal.invariant_of-self
invariant_of-self c =
    let view = ap length c.self.view_is in
    let before = ap one_if c.index-before.ensures in
    let set_anew = up_count_set c.self.inside.flags.items c.args.place c.args.flag c.index-before.result.now (omega arith) in
    (omega (arith, c.self.invariant.0), omega (arith, c.self.invariant.1, c.recounted-self-inside.ensures))
