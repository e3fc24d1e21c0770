use Rattle.std.proofs.Common.{List, map, take, sym, ap, ap₂, ◌∙◌}
use Rattle.std.specs.Borrow.{Bor}
use Rattle.pdw_agg.proofs.RunningLemmas.{kept-more}
use Rattle.pdw_agg.specs.Running.{joined}
use Rattle.pdw_agg.specs.Stage.{kept_value}
use Rattle.pdw_base.proofs.Steps.{map-one_more}
use Rattle.pdw_base.specs.Schema.{Env, cell}
use Rattle.pdw_base.specs.declared.value.Value.{Value}
use Rattle.pdw_agg.proofs.cells.kept_value.Goals as goal

pub loop-row-preserved : goal.loop-row-preserved
loop-row-preserved c =
    let stage = c.args.stage in
    let agg = c.args.agg.now in
    let rows = c.args.rows.now in
    let row = c.row-item.result in
    let of_row : Bor (List Value) → Env = λ row. cell c.args.s.now row.now in
    c.joined-kept.ensures
    ∙ ap₂ (joined agg.kind) c.loop-row.invariant c.one_value.ensures
    ∙ sym (kept-more stage agg (map of_row (take c.loop-row.row-index rows)) (of_row row))
    ∙ ap (kept_value stage agg) (sym (map-one_more rows c.loop-row.row-index row c.loop-row-test.true c.row-item.is of_row))
