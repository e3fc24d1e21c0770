use Rattle.std.proofs.Common.{List, map, sym, ap, subst, ◌∙◌}
use Rattle.pdw_algebra.specs.Schema.{IsSchemaOf}
use Rattle.pdw_base.specs.Schema.{Columns, cell, row_over}
use Rattle.pdw_base.specs.declared.value.Value.{Value}
use Rattle.pdw_interpreter.proofs.ColumnLemmas.{projected_rows}
use Rattle.pdw_interpreter.proofs.MapLemmas.{map-after}
use Rattle.pdw_expr.specs.Rows.{projected}
use Rattle.pdw_interpreter.proofs.projection.projected.Goals as goal

pub returns : goal.returns
returns c =
    let columns = c.in_ok-columns.columns in
    let items = c.args.items.now in
    let child = c.args.child.now in
    let schema = subst (λ (made : Columns). IsSchemaOf made columns) (c.as_slice.ensures.value ∙ c.in_ok-made.ensures) c.in_ok-columns.ensures.schema in
    let of_row = λ (row : List Value). row_over columns (projected items (cell child.columns row)) in
    ap (map (cell columns)) (c.in_ok-rows.ensures ∙ ap (map of_row) c.as_slice-2.ensures)
    ∙ projected_rows items columns schema child.columns child.rows
    ∙ sym (map-after (cell child.columns) (projected items) child.rows)
