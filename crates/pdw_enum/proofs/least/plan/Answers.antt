use Rattle.std.proofs.Common.{◌≡◌, List, None, ap, subst, sym, ◌∙◌}
use Rattle.std.proofs.lemmas.Result.{IfOk-weaker}
use Rattle.pdw_enum.proofs.Columns.{memo-rooted}
use Rattle.pdw_enum.proofs.FlowCosts.{costs-same, flows-reckoned}
use Rattle.pdw_enum.proofs.LeastPlans.{query-same}
use Rattle.pdw_enum.proofs.MadeGroups.{memo-made}
use Rattle.pdw_enum.proofs.MemoPremises.{memo-few, memo-premises}
use Rattle.pdw_enum.specs.Least.{IsLeastPlan}
use Rattle.pdw_enum.specs.Root.{IsRooted}
use Rattle.pdw_groups.specs.declared.group.Group.{Group}
use Rattle.pdw_least.specs.Premises.{ArePremises}
use Rattle.pdw_least.specs.Reached.{AreMade}
use Rattle.pdw_memo.specs.Memo.{IsMemo}
use Rattle.pdw_plan.specs.Cost.{costs_in}
use Rattle.pdw_ways.specs.Costing.{AreReckoned, costs_by}
use Rattle.pdw_ways.specs.Shape.{query_fault, shape_of}
use Rattle.pdw_ways.specs.Ways.{Costs}
use Rattle.pdw_ways.specs.declared.plan.Bounds.{Bounds}
use Rattle.pdw_ways.specs.declared.plan.Plan.{Plan}
use Rattle.pdw_enum.proofs.least.plan.Goals as goal

pub all_flows-requires : goal.all_flows-requires
all_flows-requires c = record { few = memo-few c.args.p.now.memo.now c.groups-groups.ensures.memo }

pub least_plan-requires-clause-premises : goal.least_plan-requires-clause-premises
least_plan-requires-clause-premises c =
    let memo = c.args.p.now.memo.now in
    let is = c.groups-groups.ensures.memo in
    subst (λ (groups : List Group). ArePremises groups (record { flows = c.as_slice.result; n = c.args.p.now.n; constants = c.args.p.now.constants })) (sym c.groups-groups.ensures.groups)
    (memo-premises memo is _
    (subst AreReckoned (sym (c.as_slice.ensures ∙ c.in_ok-flows.ensures is)) (flows-reckoned memo is c.args.p.now.book.now c.args.p.now.n c.keeps_ranges.ensures c.get-nodes.ensures.most)) c.requires.constants)

pub least_plan-requires-clause-made : goal.least_plan-requires-clause-made
least_plan-requires-clause-made c = subst AreMade (sym c.groups-groups.ensures.groups) (memo-made c.args.p.now.memo.now c.groups-groups.ensures.memo)

pub least_plan-requires-clause-rooted : goal.least_plan-requires-clause-rooted
least_plan-requires-clause-rooted c = subst IsRooted (sym c.groups-groups.ensures.groups) (memo-rooted c.args.p.now.memo.now c.groups-groups.ensures.memo)

pub returns-clause-query : goal.returns-clause-query
returns-clause-query c =
    let groups = c.args.p.now.memo.now.groups in
    let costs = costs_by c.args.p.now.n c.args.p.now.constants.now c.as_slice.result.now in
    IfOk-weaker c.least_plan.result (λ (made : Plan × Bounds). query_fault c.groups-groups.result.now (shape_of c.groups-groups.result.now costs made.0) ≡ None)
    (λ (made : Plan × Bounds). (others : Costs) → query_fault groups (shape_of groups others made.0) ≡ None)
    (λ made none. λ others. query-same groups made.0 costs others (subst (λ (gs : List Group). query_fault gs (shape_of gs costs made.0) ≡ None) c.groups-groups.ensures.groups none))
    c.least_plan.ensures.query

pub returns-clause-least : goal.returns-clause-least
returns-clause-least c =
    let memo = c.args.p.now.memo.now in
    let book = c.args.p.now.book.now in
    let n = c.args.p.now.n in
    let constants = c.args.p.now.constants.now in
    let costs = costs_by n constants c.as_slice.result.now in
    IfOk-weaker c.least_plan.result (λ (made : Plan × Bounds). IsLeastPlan c.groups-groups.result.now costs made.0 made.1.lists)
    (λ (made : Plan × Bounds). (is : IsMemo memo) → IsLeastPlan memo.groups (costs_in memo is book n constants) made.0 made.1.lists)
    (λ made least. λ is.
    subst (λ (others : Costs). IsLeastPlan memo.groups others made.0 made.1.lists) (ap (costs_by n constants) (c.as_slice.ensures ∙ c.in_ok-flows.ensures is) ∙ costs-same memo is book n constants)
    (subst (λ (gs : List Group). IsLeastPlan gs costs made.0 made.1.lists) c.groups-groups.ensures.groups least))
    c.least_plan.ensures.least
