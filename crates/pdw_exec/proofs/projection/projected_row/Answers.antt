use Rattle.std.proofs.Common.{◌∙◌}
use Rattle.pdw_base.specs.Schema.{cell}
use Rattle.pdw_base.specs.declared.value.Kind.TheVariants.{Int}
use Rattle.pdw_exec.proofs.StepLemmas.{row-more}
use Rattle.pdw_expr.specs.Rows.{projected}
use Rattle.pdw_exec.proofs.projection.projected_row.Goals as goal

pub loop-column-preserved : goal.loop-column-preserved
loop-column-preserved c =
    row-more c.cols-column-items.result.now c.loop-column.column-index (record { 0 = 0 }, Int) (projected c.args.items.now (cell c.args.own.now c.args.row.now)) _ _ _
    c.loop-column-test.true c.loop-column.invariant (c.in_ok-to_value.ensures ∙ c.projected_cell.ensures) c.in_ok-push.ensures.items
