use Rattle.std.proofs.Common.{List, map, ap, ◌∙◌}
use Rattle.std.proofs.lemmas.Result.{IfOk-weaker}
use Rattle.pdw_base.specs.Schema.{row_over}
use Rattle.pdw_base.specs.declared.value.Value.{Value}
use Rattle.pdw_interpreter.proofs.MapLemmas.{map-parts}
use Rattle.pdw_expr.specs.Rows.{scanned}
use Rattle.pdw_interpreter.proofs.scans.table_rows.Goals as goal

pub returns-in-Some : goal.returns-in-Some
returns-in-Some c =
    let of_row = (λ (row : List Value). row_over c.args.columns.now (scanned c.args.cols.now row)) in
    IfOk-weaker c.scanned_parts.result _ _ (λ (rows : List (List Value)) e. e ∙ map-parts of_row c.parts.result.now ∙ ap (map of_row) c.parts.ensures) c.scanned_parts.ensures
