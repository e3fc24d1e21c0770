use Rattle.std.proofs.Common.{◌≤◌, ◌<◌, sym, ap, subst, ◌∙◌, arith}
use Rattle.std.specs.List.{AllByRecursion}
use Rattle.pdw_algebra.specs.Shape.{columns_in}
use Rattle.pdw_catalog.specs.Catalog.{table_named}
use Rattle.pdw_catalog.specs.Table.{FitsTable}
use Rattle.pdw_exec.proofs.NodeLemmas.{no-node, no-table, rows-fit}
use Rattle.pdw_exec.proofs.scans.rows_at.Goals as goal

pub returns-then-node-get-clause-rows : goal.returns-then-node-get-clause-rows
returns-then-node-get-clause-rows c =
    let past = c.if-node-get.true in
    let value = c.get.ensures.value in
    let count = c.nodes.ensures in
    let beyond : c.args.app.now.nodes ≤ c.args.node = omega arith in
    sym (no-node c.args.app.now c.args.table.now c.args.node c.catalog-catalog.ensures.sound beyond)

pub returns-in-Some-clause-fit : goal.returns-in-Some-clause-fit
returns-in-Some-clause-fit c =
    let contents = c.args.app.now in
    let name = c.args.table.now in
    let inside = c.if-node-get.false in
    let value = c.get.ensures.value in
    let count = c.nodes.ensures in
    let within : c.args.node < contents.nodes = omega arith in
    subst (AllByRecursion (FitsTable (columns_in (table_named name contents.tables)))) (sym (c.rows.ensures ∙ c.rows_at.ensures.rows))
    (rows-fit contents name c.args.node c.catalog-catalog.ensures.sound c.in-Some.field-0.now (sym (c.in-Some.ensures ∙ ap (table_named name) c.catalog-catalog.ensures.tables)) within)

pub returns-in-None-clause-rows : goal.returns-in-None-clause-rows
returns-in-None-clause-rows c =
    let name = c.args.table.now in
    sym (no-table c.args.app.now name c.args.node (sym (c.in-None.ensures ∙ ap (table_named name) c.catalog-catalog.ensures.tables)))
