use Rattle.std.proofs.Common.{filter, ap, ◌∙◌}
use Rattle.pdw_exec.proofs.GivesLemmas.{filter-gives}
use Rattle.pdw_exec.specs.Relation.{meets_over, rows_in}
use Rattle.pdw_exec.proofs.filters.filtered.Goals as goal

pub returns : goal.returns
returns c =
    let columns = c.args.child.columns in
    let conds = c.args.conds.now in
    filter-gives columns conds (rows_in c.args.child.rows) c.in_ok-bag.bag (c.in_ok-bag.ensures ∙ ap (filter (meets_over columns conds)) (c.rows.ensures ∙ c.bag.ensures))
