use Rattle.std.proofs.Common.{filter, map, subst, ◌∙◌}
use Rattle.std.specs.List.{AllByRecursion}
use Rattle.pdw_algebra.specs.Shape.{columns_in}
use Rattle.pdw_catalog.specs.Catalog.{table_named}
use Rattle.pdw_catalog.specs.Table.{FitsTable}
use Rattle.pdw_exec.proofs.GivesLemmas.{scan-gives}
use Rattle.pdw_exec.specs.Nodes.{table_rows}
use Rattle.pdw_exec.specs.Relation.{meets_over}
use Rattle.pdw_keys.specs.Places.{key_at}
use Rattle.pdw_exec.proofs.scans.scanned.Goals as goal

pub returns : goal.returns
returns c =
    let columns = columns_in (table_named c.args.table.now c.args.app.now.tables) in
    let conds = c.args.conds.now in
    let made = c.in_ok-columns.columns in
    let places = c.as_slice.ensures.value ∙ c.in_ok-places.ensures in
    let rows = c.table_rows-rows.ensures.rows in
    scan-gives columns c.args.cols.now conds (table_rows c.args.app.now c.args.node c.args.table.now) c.in_ok-bag.bag made
    c.in_ok-columns.ensures
    (c.in_ok-bag.ensures ∙ (λ j. filter (meets_over made conds) (map (key_at (places j)) (rows j))))
    (subst (AllByRecursion (FitsTable columns)) rows c.table_rows-rows.ensures.fit)
