-- What was planned is a plan for the query over a memo of its tree, and its rows are those of the tree.
use Rattle.std.proofs.Common.{◌≡◌, ◌<◌, ◌^◌, List, map, None, refl, arith}
use Rattle.std.specs.List.Sorted.{IsPermutation}
use Rattle.pdw_algebra.specs.Meaning.{rows_of}
use Rattle.pdw_bag_laws.proofs.Keys.{same_row-itself, same_row-≡}
use Rattle.pdw_base.proofs.SameBagLaws.{IsPermutation-from_SameBag, SameBag-map, SameBag-sym, SameBag-trans}
use Rattle.pdw_base.specs.SameBag.{SameBag}
use Rattle.pdw_base.specs.Schema.{Env, cell}
use Rattle.pdw_base.specs.declared.value.Value.{Value}
use Rattle.pdw_bind.specs.Bind.{bound}
use Rattle.pdw_catalog.specs.Appliance.{Contents, IsSound}
use Rattle.pdw_catalog.specs.Catalog.{Tables}
use Rattle.pdw_catalog.specs.Database.{undivided}
use Rattle.pdw_dsql.specs.Steps.{root_schema}
use Rattle.pdw_explore.specs.Levels.{leaf_counts, levels_by}
use Rattle.pdw_expr.specs.Parts.{same_row}
use Rattle.pdw_expr.specs.Rows.{key_of}
use Rattle.pdw_form.specs.Numbered.{outs_of}
use Rattle.pdw_form.specs.declared.judged.JudgedQuery.{JudgedQuery}
use Rattle.pdw_groups.specs.Memo.{all_written, memo_of}
use Rattle.pdw_memo.specs.Memo.{IsMemo}
use Rattle.pdw_plan.proofs.PlanLaw.{query-gives}
use Rattle.pdw_plan.specs.Count.{node_count}
use Rattle.pdw_plan.specs.Given.{returned_by}
use Rattle.pdw_plan.specs.Walk.{no_costs}
use Rattle.pdw_planner.specs.declared.planned.Planned.{Planned}
use Rattle.pdw_runner.specs.Executed.{IsExecuted, IsMemoOver}
use Rattle.pdw_select.specs.PlannedOver.{IsPlannedOver}
use Rattle.pdw_select.specs.Selected.{items_of, tree_rows}
use Rattle.pdw_ways.specs.Shape.{query_fault, shape_of}

module _ (tables : Tables) (query : JudgedQuery) (planned : Planned) (over : IsPlannedOver tables query planned) where
  -- the memo is one of the query's tree
  abbrev memo-is : IsMemo planned.memo
  memo-is = record {
    tables = tables;
    levels = levels_by over.budget (leaf_counts (memo_of tables all_written (bound query)).blocks);
    tree = bound query;
    plannable = over.plannable;
    is = over.is.memo;
  }

  pub memo-over : IsMemoOver tables planned.memo
  memo-over = (memo-is, refl)

  pub plan-query : query_fault planned.memo.groups (shape_of planned.memo.groups no_costs planned.plan) ≡ None
  plan-query = over.is.query no_costs

  pub plan-few : node_count planned.plan < 2 ^ 32
  plan-few = let few = over.is.short.few in let some = over.is.short.some in omega (arith, few, some)

module _ (appliance : Contents) (sound : IsSound appliance) (query : JudgedQuery) (planned : Planned) (over : IsPlannedOver appliance.tables query planned) where
  -- what the plan returns are the rows of the tree
  returned-rows : SameBag (returned_by planned.memo.groups appliance planned.plan) (rows_of (undivided appliance) (bound query))
  returned-rows = query-gives planned.memo (memo-is appliance.tables query planned over) no_costs planned.plan (plan-query appliance.tables query planned over) appliance sound refl

  -- what executing it gives, read in the order of the items
  pub executed-rows : (rows : List (List Value)) → IsExecuted planned.memo.groups appliance planned.plan rows
      → IsPermutation (tree_rows (undivided appliance) query) (map (key_of (outs_of (items_of query))) (map (cell (root_schema planned.memo.groups)) rows))
  executed-rows rows is =
      let read : List Env = map (cell (root_schema planned.memo.groups)) rows in
      let outs = key_of (outs_of (items_of query)) in
      IsPermutation-from_SameBag same_row same_row-≡ same_row-itself (tree_rows (undivided appliance) query) (map outs read) (SameBag-map outs (SameBag-sym (SameBag-trans is returned-rows)))
