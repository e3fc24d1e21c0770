use Rattle.std.proofs.Common.{ap₂, ◌∙◌}
use Rattle.pdw_keys.proofs.PlaceLaws.{value_at-cell}
use Rattle.pdw_keys.specs.Places.{value_at}
use Rattle.pdw_agg.proofs.cells.column.Goals as goal

pub returns : goal.returns
returns c = c.value_at.ensures ∙ ap₂ value_at c.values.ensures c.place.ensures ∙ value_at-cell c.args.s.now c.args.row.now c.args.c
