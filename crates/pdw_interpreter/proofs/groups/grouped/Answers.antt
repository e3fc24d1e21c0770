use Rattle.std.proofs.Common.{List, map, ap, subst, ◌∙◌}
use Rattle.pdw_algebra.specs.Schema.{IsSchemaOf}
use Rattle.pdw_base.specs.Schema.{Columns, cell, row_over}
use Rattle.pdw_base.specs.declared.value.Value.{Value}
use Rattle.pdw_interpreter.proofs.GroupLemmas.{grouped_rows}
use Rattle.pdw_interpreter.specs.Relation.{key_over}
use Rattle.pdw_expr.specs.Parts.{groups}
use Rattle.pdw_expr.specs.Rows.{group_row}
use Rattle.pdw_interpreter.proofs.groups.grouped.Goals as goal

pub returns : goal.returns
returns c =
    let columns = c.in_ok-columns.columns in
    let keys = c.args.keys.now in
    let aggs = c.args.aggs.now in
    let child = c.args.child.now in
    let schema = subst (λ (made : Columns). IsSchemaOf made columns) (c.as_slice.ensures.value ∙ c.in_ok-made.ensures) c.in_ok-columns.ensures.schema in
    let of_group = λ (group : List (List Value)). row_over columns (group_row keys aggs (map (cell child.columns) group)) in
    let parts = c.as_slice-3.ensures ∙ c.in_ok-groups.ensures ∙ ap (groups keys (key_over child.columns keys)) c.as_slice-2.ensures in
    ap (map (cell columns)) (c.in_ok-rows.ensures ∙ ap (map of_group) parts)
    ∙ grouped_rows keys aggs columns schema child.columns child.rows
