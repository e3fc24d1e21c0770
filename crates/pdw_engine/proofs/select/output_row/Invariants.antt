use Rattle.std.proofs.Common.{◌≡◌, take}
use Rattle.pdw_base.specs.Schema.{cell}
use Rattle.pdw_expr.specs.Rows.{key_of}
use Rattle.pdw_form.specs.Numbered.{outs_of}
use Rattle.pdw_engine.proofs.select.output_row.Given as goal

abbrev pub invariant-loop-item : goal.invariant-loop-item
invariant-loop-item l = l.values.items ≡ key_of (outs_of (take l.item-index l.items)) (cell l.relation.columns l.row)
