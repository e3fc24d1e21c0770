use Rattle.std.proofs.Common.{List, map, subst}
use Rattle.std.specs.List.{flat_map}
use Rattle.std.specs.List.Sorted.{IsPermutation}
use Rattle.std.proofs.lemmas.List.Sorted.{IsPermutation-trans}
use Rattle.pdw_base.specs.Schema.{Columns, cell}
use Rattle.pdw_base.specs.declared.value.Value.{Value}
use Rattle.pdw_catalog.specs.Database.{undivided}
use Rattle.pdw_dsql.specs.Steps.{root_schema}
use Rattle.pdw_expr.specs.Rows.{key_of}
use Rattle.pdw_form.specs.Numbered.{outs_of}
use Rattle.pdw_select.proofs.PlannedRows.{executed-rows, memo-over, plan-query}
use Rattle.pdw_select.proofs.select.execute.Goals as goal
use Rattle.pdw_select.specs.Selected.{items_of, tree_rows}

pub run_plan-requires-clause-memo : goal.run_plan-requires-clause-memo
run_plan-requires-clause-memo g c = memo-over c.args.appliance.now.tables c.args.form.now.query c.args.planned.now c.requires

pub run_plan-requires-clause-plan : goal.run_plan-requires-clause-plan
run_plan-requires-clause-plan g c = plan-query c.args.appliance.now.tables c.args.form.now.query c.args.planned.now c.requires

pub returns-clause-selected : goal.returns-clause-selected
returns-clause-selected g c =
    let query = c.args.form.now.query in
    let outs = key_of (outs_of (items_of query)) in
    let groups = c.args.planned.now.memo.groups in
    let table = c.in_ok-table.table in
    let rows : List (List Value) = flat_map (λ bag. bag) c.in_ok-rows.field-0.rows in
    let read = executed-rows c.args.appliance.now c.catalog.ensures.sound query c.args.planned.now c.requires rows c.in_ok-rows.ensures.rows in
    let bags = subst (λ (bags : List (List (List Value))). IsPermutation (map outs (map (cell c.root_columns-columns.result.now) (flat_map (λ bag. bag) bags))) table.rows) c.as_slice.ensures c.in_ok-table.ensures.rearranged in
    let columns = subst (λ (columns : Columns). IsPermutation (map outs (map (cell columns) rows)) table.rows) c.root_columns-columns.ensures bags in
    record {
      names = c.in_ok-table.ensures.names;
      rearranged = IsPermutation-trans (tree_rows (undivided c.args.appliance.now) query) (map outs (map (cell (root_schema groups)) rows)) table.rows read columns;
      ordered = c.in_ok-table.ensures.ordered;
    }
