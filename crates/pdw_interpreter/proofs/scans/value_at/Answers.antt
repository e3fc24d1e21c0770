use Rattle.std.proofs.Common.{slice_get, ap, ◌∙◌}
use Rattle.std.proofs.lemmas.Result.{IfOk-weaker}
use Rattle.pdw_base.specs.declared.value.Value.{Value}
use Rattle.pdw_interpreter.proofs.RowLemmas.{value-at}
use Rattle.pdw_interpreter.specs.Relation.{value_or_null}
use Rattle.pdw_interpreter.proofs.scans.value_at.Goals as goal

pub returns : goal.returns
returns c =
    IfOk-weaker c.value_or_null.result _ _ (λ (value : Value) e. e ∙ ap value_or_null c.at.ensures ∙ ap (λ row. value_or_null (slice_get row c.args.place)) c.values.ensures ∙ value-at c.args.row.now c.args.place) c.value_or_null.ensures
