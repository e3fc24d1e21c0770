use Rattle.std.proofs.Common.{arith}
use Rattle.std.proofs.lemmas.Grind.{common_steps}
use Rattle.std.proofs.lemmas.List.{take_more}
use Rattle.pdw_walk.specs.Froms.{used_at}
use Rattle.pdw_walk.specs.declared.entry.Slot.TheVariants.{Base}
use Rattle.pdw_clauses.proofs.Places.{placed_flat_map_one_more}
use Rattle.pdw_clauses.proofs.froms.used_columns.Goals as goal

pub loop-number-preserved : goal.loop-number-preserved
loop-number-preserved c =
    let more = placed_flat_map_one_more c.args.numbers.now c.loop-number.number _ c.loop-number-test.true (take_more c.args.numbers.now c.loop-number.number (Base 0 0) c.loop-number-test.true) (used_at c.args.reference) in
    grind (arith, common_steps)
