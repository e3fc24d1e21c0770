-- The memo of a tree that can be planned has a least plan: one for the root's cheapest property that is read off the log of least costs.
use Rattle.std.proofs.Common.{◌≡◌, ◌≤◌, ◌<◌, ◌^◌, ℕ, suc, List, length, Option, None, refl, subst, arith}
use Rattle.pdw_algebra.specs.declared.tree.Tree.{Tree}
use Rattle.pdw_catalog.specs.Catalog.{Tables}
use Rattle.pdw_enum.proofs.Columns.{memo-rooted}
use Rattle.pdw_enum.proofs.FlowCosts.{costs-same, flows-reckoned}
use Rattle.pdw_enum.proofs.LeastPlans.{built-least, built-query, built-short, log-reached, query-same, some-groups}
use Rattle.pdw_enum.proofs.MadeGroups.{memo-made}
use Rattle.pdw_enum.proofs.MemoPremises.{memo-ordered, memo-weighs}
use Rattle.pdw_enum.specs.Flows.{flows_in}
use Rattle.pdw_enum.specs.Least.{IsLeastPlan, IsShort}
use Rattle.pdw_enum.specs.Root.{IsRooted, root_of}
use Rattle.pdw_explore.specs.Levels.{leaf_counts, levels_by}
use Rattle.pdw_groups.specs.Memo.{Contents, all_written, memo_of}
use Rattle.pdw_groups.specs.declared.group.Group.{Group}
use Rattle.pdw_least.proofs.FewNodes.{read-few, read-within}
use Rattle.pdw_least.proofs.FewOperators.{few-operators}
use Rattle.pdw_least.proofs.ReachedLemmas.{each-reached}
use Rattle.pdw_least.specs.Premises.{AreLight, AreOrdered}
use Rattle.pdw_least.specs.Reached.{AreMade}
use Rattle.pdw_least_exists.specs.Exists.{AreCheap, HasLeastTable}
use Rattle.pdw_memo.specs.Memo.{IsMemo, IsPlannable}
use Rattle.pdw_move.specs.Cost.{AreInRange}
use Rattle.pdw_move.specs.declared.cost.Constants.{Constants}
use Rattle.pdw_plan.specs.Cost.{costs_in}
use Rattle.pdw_plan_exists.proofs.Cheapest.{cheapest}
use Rattle.pdw_plan_exists.proofs.OffLog.{read-off}
use Rattle.pdw_plan_exists.proofs.SameCosts.{costs-whatever}
use Rattle.pdw_plan_exists.specs.HasLeastPlan.{HasLeastPlan, planned_by}
use Rattle.pdw_planner.specs.Planned.{IsPlanned, memo_within}
use Rattle.pdw_stats.specs.Book.{AreInRange as HasRanges, Book}
use Rattle.pdw_ways.proofs.CostLemmas.{flows-small}
use Rattle.pdw_ways.proofs.LeastCosts.{none-cheaper}
use Rattle.pdw_ways.specs.Bounds.{bound_in}
use Rattle.pdw_ways.specs.Costing.{costs_by}
use Rattle.pdw_ways.specs.Shape.{query_fault, shape_of}
use Rattle.pdw_ways.specs.Ways.{Costs}
use Rattle.pdw_ways.specs.declared.plan.Plan.{Plan}

-- ---- over groups

record HasLeast (groups : List Group) (costs : Costs) : Type 0 where
  pub plan : Plan
  pub lists : List (List (Option ℕ))
  pub query : query_fault groups (shape_of groups costs plan) ≡ None
  pub least : IsLeastPlan groups costs plan lists
  pub short : IsShort plan

module _ (groups : List Group) (costs : Costs) (ordered : AreOrdered groups) (light : AreLight groups) (made : AreMade groups) (rooted : IsRooted groups) where
  least-over : HasLeastTable groups costs → HasLeast groups costs
  least-over table =
      let lists = table.lists in
      let log = table.log in
      let reached = each-reached groups costs (bound_in groups lists) table.is.valid ordered made (root_of groups) rooted.root rooted.there in
      let top = cheapest groups lists table.is.shape rooted reached in
      let off = read-off groups costs (suc (length log)) log (omega arith) table.is.is_log top.made (log-reached groups costs lists log table.is top.made top.is) in
      record {
        plan = off.tree;
        lists = lists;
        query = built-query groups costs lists log table.is top.made top.is off.tree off.read.built (some-groups groups rooted);
        least = built-least groups costs lists log table.is top.made top.is off.tree off.read.built light (none-cheaper groups costs lists);
        short =
            built-short groups costs lists log table.is top.made top.is off.tree off.read.built light (few-operators groups costs light) off.read.runs
            (read-within groups costs log top.made off.tree off.read) (read-few groups costs log top.made off.tree off.read);
      }

-- ---- over a memo

-- there are least costs for groups that are ordered and light
abbrev pub TableLaw : Type 0
TableLaw = (groups : List Group) (costs : Costs) → AreOrdered groups → AreLight groups → AreCheap costs → HasLeastTable groups costs

module _ (book : Book) (n : ℕ) (constants : Constants) (ranges : HasRanges book) (some : 1 ≤ n) (few : n ≤ 16) (set : AreInRange constants) where
  memo-cheap : (memo : Contents) (is : IsMemo memo) → AreCheap (costs_in memo is book n constants)
  memo-cheap memo is = subst AreCheap (costs-same memo is book n constants) (flows-small n constants (flows_in memo is book n) some few set (flows-reckoned memo is book n ranges few))

  module _ (law : TableLaw) where
    memo-least : (memo : Contents) (is : IsMemo memo) → HasLeast memo.groups (costs_in memo is book n constants)
    memo-least memo is =
        let ordered = memo-ordered memo is in
        let light = memo-weighs memo is in
        let costs = costs_in memo is book n constants in
        least-over memo.groups costs ordered light (memo-made memo is) (memo-rooted memo is) (law memo.groups costs ordered light (memo-cheap memo is))

-- ---- over the memo of a tree

-- it is one of these tables and this tree, with the levels that the budget allows
abbrev memo-is : (tables : Tables) (budget : ℕ) (tree : Tree) → IsPlannable tables tree → IsMemo (memo_within budget tables tree)
memo-is tables budget tree plannable = record {
  tables = tables;
  levels = levels_by budget (leaf_counts (memo_of tables all_written tree).blocks);
  tree = tree;
  plannable = plannable;
  is = refl;
}

pub tree-least : TableLaw → (tables : Tables) (book : Book) (n budget : ℕ) (constants : Constants) (tree : Tree) → IsPlannable tables tree → HasRanges book → 1 ≤ n → n ≤ 16 → AreInRange constants → HasLeastPlan tables book n budget constants tree
tree-least law tables book n budget constants tree plannable ranges some few set =
    let memo : Contents = memo_within budget tables tree in
    let is : IsMemo memo = memo-is tables budget tree plannable in
    let costs : Costs = costs_in memo is book n constants in
    let has = memo-least book n constants ranges some few set law memo is in
    record {
      is = memo-is tables budget tree plannable;
      of_tables = refl;
      of_tree = refl;
      plan = has.plan;
      lists = has.lists;
      query = λ others. query-same memo.groups has.plan costs others has.query;
      least = has.least;
      short = has.short;
    }

-- ---- what it is planned to

pub least-planned : (tables : Tables) (book : Book) (n budget : ℕ) (constants : Constants) (tree : Tree) (least : HasLeastPlan tables book n budget constants tree) → IsPlanned tables book n budget constants tree (planned_by tables book n budget constants tree least)
least-planned tables book n budget constants tree least =
    let memo : Contents = memo_within budget tables tree in
    record {
      memo = refl;
      query = least.query;
      least = λ is. subst (λ (costs : Costs). IsLeastPlan memo.groups costs least.plan least.lists) (costs-whatever memo least.is is book n constants) least.least;
      short = least.short;
    }
