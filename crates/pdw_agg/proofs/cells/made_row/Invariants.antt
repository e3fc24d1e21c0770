use Rattle.std.proofs.Common.{◌≡◌, map, take}
use Rattle.pdw_agg.specs.Stage as spec
use Rattle.pdw_base.specs.Schema.{cell, row_over}
use Rattle.pdw_agg.proofs.cells.made_row.Given as goal

abbrev pub invariant-loop-column : goal.invariant-loop-column
invariant-loop-column l = l.values.items ≡ row_over (take l.column-index l.columns) (spec.made_row l.stage l.keys l.aggs (map (λ row. cell l.s row.now) l.rows))
