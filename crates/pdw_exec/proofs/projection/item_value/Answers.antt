use Rattle.std.proofs.Common.{sym, ap, ap₂, ◌∙◌}
use Rattle.pdw_base.specs.Schema.{cell}
use Rattle.pdw_keys.proofs.PlaceLaws.{value_at-cell}
use Rattle.pdw_keys.specs.Places.{value_at}
use Rattle.pdw_expr.specs.Rows.{item_value}
use Rattle.pdw_exec.proofs.projection.item_value.Goals as goal

pub returns-in-None : goal.returns-in-None
returns-in-None c =
    c.value_at.ensures ∙ ap₂ value_at c.values.ensures c.place.ensures ∙ value_at-cell c.args.own.now c.args.row.now c.args.item.now.0
    ∙ sym (ap (item_value (cell c.args.own.now c.args.row.now) c.args.item.now.0) c.in-None.is)
