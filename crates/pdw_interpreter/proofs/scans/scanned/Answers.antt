use Rattle.std.proofs.Common.{map, ap, subst, ◌∙◌}
use Rattle.pdw_algebra.specs.Schema.{IsSchemaOf}
use Rattle.pdw_base.specs.Schema.{Columns, cell}
use Rattle.pdw_catalog.specs.Appliance.{whole_of}
use Rattle.pdw_interpreter.proofs.ColumnLemmas.{scanned_rows}
use Rattle.pdw_interpreter.proofs.scans.scanned.Goals as goal

pub returns : goal.returns
returns c =
    let columns = c.in_ok-columns.columns in
    let schema = subst (λ (used : Columns). IsSchemaOf used columns) (c.as_slice.ensures.value ∙ c.in_ok-used.ensures) c.in_ok-columns.ensures.schema in
    ap (map (cell columns)) c.in_ok-rows.ensures ∙ scanned_rows c.args.cols.now columns schema (whole_of c.args.table.now c.args.appliance.now)
