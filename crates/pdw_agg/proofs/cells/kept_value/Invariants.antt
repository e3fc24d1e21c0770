use Rattle.std.proofs.Common.{◌≡◌, map, take}
use Rattle.pdw_agg.specs.Stage as spec
use Rattle.pdw_base.specs.Schema.{cell}
use Rattle.pdw_base.specs.Value.{owned}
use Rattle.pdw_agg.proofs.cells.kept_value.Given as goal

abbrev pub invariant-loop-row : goal.invariant-loop-row
invariant-loop-row l = owned l.kept ≡ spec.kept_value l.stage l.agg (map (λ row. cell l.s row.now) (take l.row-index l.rows))
