use Rattle.std.proofs.Common.{List, map, ap, ◌∙◌}
use Rattle.pdw_algebra.specs.Schema.{rising}
use Rattle.pdw_algebra.specs.Shape.{item_column}
use Rattle.pdw_base.specs.Schema.{Columns, cell, row_over}
use Rattle.pdw_base.specs.declared.value.Value.{Value}
use Rattle.pdw_exec.proofs.GivesLemmas.{project-gives}
use Rattle.pdw_exec.specs.Relation.{rows_in}
use Rattle.pdw_expr.specs.Rows.{projected}
use Rattle.pdw_exec.proofs.projection.projected.Goals as goal

pub returns : goal.returns
returns c =
    let own = c.args.child.now.columns in
    let items = c.args.items.now in
    let made = c.in_ok-columns.columns in
    let of_row = λ (row : List Value). row_over made (projected items (cell own row)) in
    project-gives own items (rows_in c.args.child.now.rows) c.in_ok-bag.bag made
    (c.in_ok-columns.ensures ∙ ap (λ (columns : Columns). rising (map (item_column columns) items)) c.cols.ensures.columns)
    (c.in_ok-bag.ensures ∙ ap (map of_row) (c.rows.ensures ∙ c.bag.ensures))
