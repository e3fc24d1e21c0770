use Rattle.std.proofs.Common.{◌≡◌, map, take}
use Rattle.pdw_base.specs.Schema.{cell}
use Rattle.pdw_expr.specs.Rows.{key_of}
use Rattle.pdw_form.specs.Numbered.{outs_of}
use Rattle.pdw_engine.proofs.select.output_rows.Given as goal

abbrev pub invariant-loop-row : goal.invariant-loop-row
invariant-loop-row l = l.rows.items ≡ map (key_of (outs_of l.items)) (map (cell l.relation.columns) (take l.row-index l.row-items))
