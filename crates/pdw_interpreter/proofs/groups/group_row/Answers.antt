use Rattle.std.proofs.Common.{map}
use Rattle.pdw_base.specs.Schema.{cell}
use Rattle.pdw_base.specs.declared.value.Kind.TheVariants.{Int}
use Rattle.pdw_interpreter.proofs.RowLemmas.{row-more}
use Rattle.pdw_expr.specs.Rows.{group_row}
use Rattle.pdw_interpreter.proofs.groups.group_row.Goals as goal

pub loop-column-preserved : goal.loop-column-preserved
loop-column-preserved c =
    row-more c.cols-column-items.result.now c.loop-column.column-index (record { 0 = 0 }, Int) (group_row c.args.keys.now c.args.aggs.now (map (cell c.args.columns.now) c.args.group.now)) _ _ _
    c.loop-column-test.true c.loop-column.invariant c.in_ok-group_cell.ensures c.in_ok-push.ensures.items
