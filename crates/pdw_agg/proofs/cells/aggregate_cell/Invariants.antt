use Rattle.std.proofs.Common.{◌≡◌, drop, map}
use Rattle.pdw_agg.specs.Stage as spec
use Rattle.pdw_base.specs.Schema.{cell}
use Rattle.pdw_agg.proofs.cells.aggregate_cell.Given as goal

abbrev pub invariant-loop-agg : goal.invariant-loop-agg
invariant-loop-agg l = spec.value_cells l.stage (drop l.agg-index l.aggs) (map (λ row. cell l.s row.now) l.rows) l.c ≡ spec.value_cells l.stage l.aggs (map (λ row. cell l.s row.now) l.rows) l.c
