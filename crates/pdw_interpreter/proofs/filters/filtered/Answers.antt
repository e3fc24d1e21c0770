use Rattle.std.proofs.Common.{filter, map, refl, ap, ◌∙◌}
use Rattle.pdw_base.specs.Schema.{cell}
use Rattle.pdw_interpreter.proofs.MapLemmas.{map-filter}
use Rattle.pdw_interpreter.specs.Relation.{meets_over}
use Rattle.pdw_expr.specs.Rows.{meets}
use Rattle.pdw_interpreter.proofs.filters.filtered.Goals as goal

pub returns : goal.returns
returns c =
    let columns = c.args.all.columns in
    let conds = c.args.conds.now in
    ap (map (cell columns)) (c.in_ok-rows.ensures ∙ ap (filter (meets_over columns conds)) c.as_slice.ensures)
    ∙ map-filter (cell columns) (meets_over columns conds) (meets conds) (λ row. refl) c.args.all.rows
