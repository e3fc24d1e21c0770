use Rattle.std.proofs.Common.{List, slice_get, ap, sym, ◌∙◌}
use Rattle.pdw_base.specs.declared.value.Value.{Value}
use Rattle.pdw_select.proofs.OrderLaws.{value_at-missing}
use Rattle.pdw_select.proofs.order.value_at.Goals as goal

pub returns-in-None : goal.returns-in-None
returns-in-None c =
    sym (value_at-missing c.args.row.now c.args.place (sym (ap (λ (row : List Value). slice_get row c.args.place) c.values.ensures) ∙ sym c.in-None.ensures))
