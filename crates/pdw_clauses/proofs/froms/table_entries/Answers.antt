use Rattle.std.proofs.Common.{arith}
use Rattle.std.proofs.lemmas.Grind.{common_steps}
use Rattle.pdw_base.proofs.Steps.{take-one_more}
use Rattle.pdw_walk.specs.Froms.{table_entry}
use Rattle.pdw_clauses.proofs.Places.{placed_map_one_more}
use Rattle.pdw_clauses.proofs.froms.table_entries.Goals as goal

pub loop-column-preserved : goal.loop-column-preserved
loop-column-preserved c =
    let more = placed_map_one_more c.args.columns.now c.loop-column.column-index c.column-item.result c.loop-column-test.true (take-one_more c.args.columns.now c.loop-column.column-index c.column-item.result c.loop-column-test.true c.column-item.is) (table_entry c.args.alias.now c.args.reference) in
    (grind (arith, common_steps), grind (arith, common_steps))
